-- `resume::Decoder::write_record` meets its contract: the tests are the definition's, in its order.
-- Assumes nothing.
use Rattle.std.proofs.Common.{rules}
use Rattle.rules.specs.Record.{recording, recorded_over}
use Rattle.resume.proofs.Decoder.write_record.Goals as goal

pub returns-then-not-is_well_formed : goal.returns-then-not-is_well_formed
unfolding recording recorded_over
returns-then-not-is_well_formed c = search rules

pub returns-then-out-required : goal.returns-then-out-required
unfolding recording recorded_over
returns-then-out-required c = search rules

pub returns : goal.returns
unfolding recording recorded_over
returns c = search rules
