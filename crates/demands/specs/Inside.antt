-- A stop inside a step: what a worker may leave that was cut off at any moment.
use Rattle.std.specs.Prelude.{List, ◌≡◌, ℕ, length}
use Rattle.rules.specs.Step.{State, more, step, stepped_over, going, running}
use Rattle.demands.specs.Workers.{Partly}

-- a worker that went on from s on o has done some steps and begun the next one: of its bytes any are written
pub record StoppedInside (m : List ℕ) (s : State) (o o' : List ℕ) : Type 0 where
  pub steps : ℕ
  pub reached : State
  pub left : List ℕ
  pub ran : running m steps s o ≡ going reached left
  pub next : State
  pub bytes : List ℕ
  pub begun : step reached m (length left) ≡ more next bytes
  pub partly : Partly left (stepped_over reached bytes left) o'
