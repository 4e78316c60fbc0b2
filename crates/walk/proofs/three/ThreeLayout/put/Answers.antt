-- `walk::three::ThreeLayout::put` meets its contract: three stores one after another are three bytes put there.
-- Assumes nothing.
use native.Mathlib.Omega.{arith}
use Rattle.pixel.specs.Packed.{unpacked}
use Rattle.rules.proofs.PastingLaws.{stored_three}
use Rattle.walk.proofs.three.ThreeLayout.put.Goals as goal

pub returns : goal.returns
unfolding unpacked
returns c =
    let a = c.args in
    rw (c.red.ensures, c.green.ensures, c.blue.ensures)
    (stored_three a.out.now a.at _ _ _ (omega arith))
