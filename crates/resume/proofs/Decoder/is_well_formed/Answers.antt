-- `resume::Decoder::is_well_formed` meets its contract: its tests are those of the definition, in another order.
-- Assumes nothing.
use Rattle.std.proofs.Common.{rules}
use Rattle.rules.specs.Step.{well_formed}
use Rattle.resume.proofs.Decoder.is_well_formed.Goals as goal

pub returns-then-self-eq4 : goal.returns-then-self-eq4
unfolding well_formed
returns-then-self-eq4 c = search rules

pub returns-then-self-eq3 : goal.returns-then-self-eq3
unfolding well_formed
returns-then-self-eq3 c = search rules

pub returns-else-self-eq3 : goal.returns-else-self-eq3
unfolding well_formed
returns-else-self-eq3 c = search rules

pub returns-else-self-pixels-2 : goal.returns-else-self-pixels-2
unfolding well_formed
returns-else-self-pixels-2 c = search rules
