-- `resume::Decoder::run` meets its contract: its tests come before the chunks, as a step's.
-- Assumes nothing.
use Rattle.std.proofs.Common.{rules, sym, ◌∙◌}
use Rattle.rules.specs.Step.{running}
use Rattle.resume.specs.State.{state_of}
use Rattle.resume.proofs.RunLaws.{run_unfit}
use Rattle.resume.proofs.Decoder.run.Goals as goal

pub returns-then-steps-eq0 : goal.returns-then-steps-eq0
unfolding running
returns-then-steps-eq0 c = search rules

pub returns-in-Err : goal.returns-in-Err
returns-in-Err c =
    run_unfit c.args.message.now c.args.steps (state_of c.args.self) c.args.out.now _ c.if-steps-eq0.false (sym c.picture_size.ensures ∙ c.in-Err.is)
