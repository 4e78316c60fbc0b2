-- `walk::lanes::Lanes::slot` meets its contract: a product of each lane holds its part of the slot formula.
-- Assumes nothing.
use mathlib.Core.Path.{◌≡◌, sym, ◌∙◌}
use Prim.Native.Nat.{◌+◌, ◌*◌, ◌/◌, ◌%◌}
use Rattle.pixel.specs.Colour.{slot_of}
use Rattle.walk.specs.Lanes.{pixel_in}
use Rattle.walk.proofs.LanesLaws.{whole, two_lanes}
use Rattle.walk.proofs.lanes.Lanes.slot.Goals as goal

pub returns : goal.returns
unfolding slot_of pixel_in
returns c =
    let e = c.args.self.even in
    let o = c.args.self.odd in
    let even : e ≡ e % 65536 + e / 65536 * 65536 = sym (whole e) in
    let odd : o ≡ o % 65536 + o / 65536 * 65536 = sym (whole o) in
    rw (c.from.ensures, c.from-2.ensures)
    ((λ i. (even i * 0x3_0007 + odd i * 0x5_000b) / 0x1_0000 % 64)
    ∙ two_lanes (e % 65536) (o % 65536) (e / 65536) (o / 65536) c.args.self.red c.args.self.green)
