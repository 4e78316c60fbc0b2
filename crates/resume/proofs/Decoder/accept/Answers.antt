-- `resume::Decoder::accept` meets its contract: the tests are the definition's, in its order.
-- Assumes nothing.
use Rattle.std.proofs.Common.{rules}
use Rattle.rules.specs.Record.{accept_state, accept_number}
use Rattle.resume.proofs.Decoder.accept.Goals as goal

pub returns-then-not-is_well_formed : goal.returns-then-not-is_well_formed
unfolding accept_state
returns-then-not-is_well_formed c = search rules

pub returns-then-end-size : goal.returns-then-end-size
unfolding accept_state
returns-then-end-size c = search rules

pub returns-then-self-expected : goal.returns-then-self-expected
unfolding accept_state accept_number
returns-then-self-expected c = search rules

pub returns : goal.returns
unfolding accept_state accept_number
returns c = search rules
