-- A worker that stops inside a step, at any moment: the checkpoint that it went on from may be taken up on what it
-- left.
-- Assumes nothing.
use mathlib.Core.Path.{◌≡◌, sym, ◌∙◌, ap}
use mathlib.Core.List.{List}
use Prim.Native.Nat.{ℕ, ◌+◌}
use lib.ListN.{take}
use Rattle.rules.specs.Step.{State, stepped_over, going, run_on, running, output_of}
use Rattle.demands.specs.TakeOver.{bytes_before, Life, taken_up, running_on}
use Rattle.demands.specs.Inside.{StoppedInside}
use Rattle.demands.proofs.Steps.{run_adds, run_keeps_before}
use Rattle.demands.proofs.Partly.{partly_take}
use Rattle.demands.proofs.TakeOver.{reached_readable}

module _ {m : List ℕ} {s : State} {o o' : List ℕ} (stop : StoppedInside m s o o') where
  -- the step that was begun, done
  whole_step : running m (stop.steps + 1) s o ≡ going stop.next (stepped_over stop.reached stop.bytes stop.left)
  unfolding running
  whole_step =
      run_adds m stop.steps 1 s o
      ∙ ap (running_on m 1) stop.ran
      ∙ ap (run_on (running m 0) stop.reached stop.left) stop.begun

  -- what stood before the checkpoint's pixel stands there
  pub inside_keeps_before : take (bytes_before s) o' ≡ take (bytes_before s) o
  inside_keeps_before =
      partly_take stop.left (stepped_over stop.reached stop.bytes stop.left) o' stop.partly (bytes_before s)
      (take (bytes_before s) o)
      (ap (λ r. take (bytes_before s) (output_of r)) (sym stop.ran) ∙ run_keeps_before m stop.steps s o)
      (ap (λ r. take (bytes_before s) (output_of r)) (sym whole_step) ∙ run_keeps_before m (stop.steps + 1) s o)

  pub left_inside : {number w : ℕ} {b : List ℕ} → Life m number w s o b → Life m number w s o' o'
  left_inside life = taken_up life o' inside_keeps_before (reached_readable life)
