-- `walk::three::ThreeLayout::put_many` meets its contract: the last block ends where the run ends, over what the loop wrote.
-- Assumes nothing.
use Prim.{tt}
use lib.Dec.{lit≤}
use mathlib.Core.Path.{refl, ◌∙◌}
use Prim.Native.Nat.{◌-◌, ◌/◌}
use native.Mathlib.Omega.{arith}
use Rattle.pixel.specs.Packed.{unpacked}
use Rattle.walk.specs.Asked.{bytes_in}
use Rattle.walk.proofs.Loop.{bytes_long}
use Rattle.walk.proofs.Pasting.{filled_none, refilled_from}
use Rattle.walk.proofs.three.ThreeLayout.put_many.Invariants.{words}
use Rattle.walk.proofs.three.ThreeLayout.put_many.Goals as goal

pub loop-i-init : goal.loop-i-init
loop-i-init c =
    let a = c.args in
    (omega arith, omega arith, omega arith, refl, filled_none a.out.now a.at (bytes_in 3 (unpacked a.p)) _ (omega arith), words a.p _ _ _ _ _ _ c.pack-x.ensures c.pack-y.ensures c.pack-z.ensures c.red-r.ensures c.green-g.ensures c.blue-b.ensures)

pub loop-i-preserved : goal.loop-i-preserved
loop-i-preserved c =
    let a = c.args in
    let l = c.loop-i in
    let put = c.words in
    let bytes = bytes_in 3 (unpacked a.p) in
    let stand = (l.i - a.at) / 3 in
    (omega arith, omega arith, omega arith, put.auto.out ∙ l.invariant.3, refilled_from a.out.now a.at bytes {size = 3} (bytes_long (lit≤ tt) a.p) l.i stand stand 4 _ l.invariant.5 l.invariant.4 put.ensures (omega arith) (omega arith), l.invariant.5)

pub returns : goal.returns
returns c =
    let a = c.args in
    let l = c.loop-i in
    let put = c.words-2 in
    refilled_from a.out.now a.at (bytes_in 3 (unpacked a.p)) {size = 3} (bytes_long (lit≤ tt) a.p) _ (a.times - 4) ((l.i - a.at) / 3) 4 a.times l.invariant.5 l.invariant.4 put.ensures refl (omega arith)
