-- `walk::four::FourLayout::put` meets its contract: four stores one after another are four bytes put there.
-- Assumes nothing.
use native.Mathlib.Omega.{arith}
use Rattle.pixel.specs.Packed.{unpacked}
use Rattle.rules.proofs.PastingLaws.{stored_four}
use Rattle.walk.proofs.four.FourLayout.put.Goals as goal

pub returns : goal.returns
unfolding unpacked
returns c =
    let a = c.args in
    rw (c.red.ensures, c.green.ensures, c.blue.ensures, c.alpha.ensures)
    (stored_four a.out.now a.at _ _ _ _ (omega arith))
