-- `resume::Decoder::fault_offset` meets its contract: the tests are the definition's, in its order, and the fields
-- before the one with the fault take ten bytes each at most.
-- Assumes nothing.
use Rattle.std.proofs.Common.{rules}
use Rattle.rules.specs.Record.{fault_offset}
use Rattle.resume.proofs.Decoder.fault_offset.Goals as goal

pub returns-then-self-lt-QOI_HEADER_SIZE : goal.returns-then-self-lt-QOI_HEADER_SIZE
unfolding fault_offset
returns-then-self-lt-QOI_HEADER_SIZE c = search rules

pub returns-then-n_pixels-self : goal.returns-then-n_pixels-self
unfolding fault_offset
returns-then-n_pixels-self c = search rules

pub returns : goal.returns
unfolding fault_offset
returns c = search rules
