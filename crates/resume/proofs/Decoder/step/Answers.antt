-- `resume::Decoder::step` meets its contract: a run of one step is a step.
-- Assumes nothing.
use mathlib.Core.Path.{◌∙◌}
use Rattle.resume.proofs.RunLaws.{run_one}
use Rattle.resume.proofs.Decoder.step.Goals as goal

pub returns : goal.returns
returns c = c.run.ensures ∙ run_one c.args.message.now _ c.args.out.now
