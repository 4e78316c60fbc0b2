-- `walk::four::put_some` meets its contract: each block but the first may fall on what stands there already.
-- Assumes nothing.
use Prim.{tt}
use mathlib.Core.Path.{refl}
use Prim.Native.Nat.{◌+◌, ◌-◌, min}
use native.Mathlib.Omega.{arith}
use lib.Dec.{lit≤}
use Rattle.pixel.specs.Packed.{unpacked}
use Rattle.walk.specs.Asked.{bytes_in}
use Rattle.walk.proofs.Loop.{bytes_long}
use Rattle.walk.proofs.Pasting.{refilled_from}
use Rattle.walk.proofs.four.put_some.Goals as goal

pub returns : goal.returns
returns c =
    let a = c.args in
    let out = a.out.now in
    let at = a.at in
    let bytes = bytes_in 4 (unpacked a.p) in
    let long = bytes_long {channels = 4} (lit≤ tt) a.p in
    let last = a.times - 4 in
    let i = min 4 last in
    let k = min 8 last in
    let one = c.block.ensures in
    let two = refilled_from out at bytes {size = 4} long c.min.result i 4 4 (i + 4) refl one c.block-2.ensures (omega arith) (omega arith) in
    let three = refilled_from out at bytes {size = 4} long c.min-2.result k (i + 4) 4 (k + 4) refl two c.block-3.ensures (omega arith) (omega arith) in
    refilled_from out at bytes {size = 4} long _ last (k + 4) 4 a.times refl three c.block-4.ensures refl (omega arith)
