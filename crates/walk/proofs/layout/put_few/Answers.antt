-- `walk::layout::put_few` meets its contract: the second and the last may fall on one that stands there already.
-- Assumes nothing.
use mathlib.Core.Path.{◌≡◌}
use Prim.Native.Nat.{ℕ, zero, suc, ◌+◌, ◌-◌, ◌*◌, ◌≤◌, ◌<◌, min}
use native.Mathlib.Nat.{mul-le-mul_right}
use lib.ListN.{length}
use native.Mathlib.Omega.{arith}
use Rattle.pixel.specs.Packed.{unpacked}
use Rattle.walk.specs.Asked.{bytes_in}
use Rattle.walk.proofs.Loop.{bytes_long}
use Rattle.walk.proofs.Pasting.{filled_one, refilled_one}
use Rattle.walk.proofs.layout.put_few.Goals as goal

-- the second of two or three is one pixel on
second_at : (at size times : ℕ) → 1 ≤ times → times < 4 → min (at + (times - 1) * size) (at + size) ≡ at + min 1 (times - 1) * size
second_at at size zero some few = absurd (omega arith)
second_at at size (suc zero) some few = omega arith
second_at at size (suc (suc zero)) some few = omega arith
second_at at size (suc (suc (suc zero))) some few = omega arith
second_at at size (suc (suc (suc (suc times)))) some few = absurd (omega arith)

pub returns : goal.returns
returns g c =
    let a = c.args in
    let size = g.L.Layout.CHANNELS in
    let second = min 1 (a.times - 1) in
    let bytes = bytes_in size (unpacked a.p) in
    let long = bytes_long g.met.L.Layout.at_most_four a.p in
    let two_within : second + 1 ≤ a.times = omega arith in
    let room : a.at + (second + 1) * size ≤ length a.out.now = omega (arith, c.requires.2, mul-le-mul_right size two_within) in
    let here : c.min.result ≡ a.at + second * size =
    rw (c.min.ensures, c.CHANNELS.ensures, c.CHANNELS-2.ensures) (second_at a.at size a.times c.requires.0 c.requires.1) in
    let one = filled_one a.out.now a.at bytes c.put.ensures in
    let two = refilled_one a.out.now a.at bytes long c.min.result second 1 (second + 1) one c.put-2.ensures here (omega arith, omega arith, omega arith, room) in
    refilled_one a.out.now a.at bytes long _ (a.times - 1) (second + 1) a.times two c.put-3.ensures (rw c.CHANNELS.ensures)
    (omega arith, omega arith, omega arith, c.requires.2)
