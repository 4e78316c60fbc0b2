-- `walk::four::block` meets its contract: each pixel is put after the last.
-- Assumes nothing.
use Prim.{tt}
use mathlib.Core.Path.{refl, ◌∙◌}
use Prim.Native.Nat.{◌+◌, ◌*◌}
use native.Mathlib.Omega.{arith}
use lib.Dec.{lit≤}
use Rattle.pixel.specs.Packed.{unpacked}
use Rattle.walk.specs.Asked.{bytes_in}
use Rattle.walk.proofs.Loop.{bytes_long}
use Rattle.walk.proofs.Pasting.{filled_none, refilled_one}
use Rattle.walk.proofs.four.block.Goals as goal

pub loop-i-init : goal.loop-i-init
loop-i-init g c = (omega arith, refl, filled_none c.args.out.now c.args.at (bytes_in 4 (unpacked c.args.p)) 0 refl)

pub loop-i-preserved : goal.loop-i-preserved
loop-i-preserved g c =
    let a = c.args in
    let l = c.loop-i in
    let bytes = bytes_in 4 (unpacked a.p) in (
      omega arith,
      c.put.auto.out ∙ l.invariant.1,
      refilled_one a.out.now a.at bytes {size = 4} (bytes_long (lit≤ tt) a.p) (a.at + l.i * 4) l.i l.i (l.i + 1) l.invariant.2 c.put.ensures refl (omega arith),
    )
