-- `walk::four::once` meets its contract: the block is put where it fits.
-- Assumes nothing.
use native.Mathlib.Omega.{arith}
use Rattle.walk.proofs.Pasting.{fills_none}
use Rattle.walk.proofs.four.once.Goals as goal

pub returns-then-end-at : goal.returns-then-end-at
returns-then-end-at g c =
    let a = c.args in
    (fills_none a.p a.at a.end a.out.now (omega arith), omega arith)
