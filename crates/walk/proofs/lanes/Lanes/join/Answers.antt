-- `walk::lanes::Lanes::join` meets its contract: the odd lane's channels stand 8 bits above the even lane's.
-- Assumes nothing.
use mathlib.Core.Path.{◌≡◌, ◌∙◌, ap}
use Prim.Native.Nat.{ℕ, ◌+◌, ◌*◌, ◌/◌, ◌%◌}
use native.Mathlib.Omega.{arith}
use Rattle.pixel.specs.Packed.{packed_of, unpacked}
use Rattle.pixel.proofs.PackedLaws.{unpacked_packed}
use Rattle.walk.specs.Lanes.{pixel_in}
use Rattle.walk.proofs.lanes.Lanes.join.Goals as goal

-- the sum of both lanes, channel by channel
joined : (e o : ℕ) → e + o * 256 ≡ packed_of (e % 65536) (o % 65536) (e / 65536) (o / 65536)
joined e o = omega arith

pub returns : goal.returns
unfolding pixel_in
returns c =
    let e = c.args.self.even in
    let o = c.args.self.odd in
    let h = c.args.self in
    ap unpacked (joined e o)
    ∙ unpacked_packed (e % 65536) (o % 65536) (e / 65536) (o / 65536) h.red h.green h.blue h.alpha
