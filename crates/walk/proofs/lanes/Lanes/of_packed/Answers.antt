-- `walk::lanes::Lanes::of_packed` meets its contract: every other byte of the packed pixel, from the first and from the second.
-- Assumes nothing.
use mathlib.Core.Path.{◌∙◌, ap}
use Prim.Native.Nat.{ℕ, ◌+◌, ◌*◌, ◌/◌, ◌%◌}
use native.Mathlib.Nat.{div-div-eq-div-mul}
use native.Mathlib.Omega.{arith}
use Rattle.pixel.specs.Packed.{unpacked}
use Rattle.walk.proofs.LanesLaws.{made}
use Rattle.walk.proofs.lanes.Lanes.of_packed.Goals as goal

pub returns : goal.returns
unfolding unpacked
returns c =
    let p = c.args.p in
    made _ (p % 256) (p / 256 % 256) (p / 65536 % 256) (p / 16777216 % 256)
    (omega arith) (omega arith)
    c.wrapped.ensures
    (c.wrapped-2.ensures ∙ ap (λ (n : ℕ). p / 256 % 256 + n % 256 * 65536) (div-div-eq-div-mul p 256 65536))
