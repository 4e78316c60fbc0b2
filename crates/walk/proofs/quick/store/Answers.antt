-- `walk::quick::store` meets its contract: the packed pixel is the lanes', in its slot and in the output.
-- Assumes nothing.
use mathlib.Core.Path.{◌∙◌, ap, ap₂}
use mathlib.Core.List.{map}
use Prim.Native.Nat.{◌*◌}
use native.Mathlib.Omega.{arith}
use lib.ListN.{set}
use Rattle.pixel.specs.declared.Pixel.{Pixel}
use Rattle.pixel.specs.Packed.{unpacked}
use Rattle.rules.specs.Bytes.{pasted}
use Rattle.rules.proofs.ChunkLaws.{slot_small}
use Rattle.walk.specs.Lanes.{pixel_in}
use Rattle.walk.specs.Asked.{bytes_in}
use Rattle.walk.proofs.Packed.{unpacked_set}
use Rattle.walk.proofs.quick.store.Goals as goal

pub offset_bounds-held-slot : goal.offset_bounds-held-slot
offset_bounds-held-slot g c = omega (arith, c.slot.ensures, slot_small (pixel_in c.args.l))

pub bounds-held-slot : goal.bounds-held-slot
bounds-held-slot g c = omega (arith, c.slot.ensures, slot_small (pixel_in c.args.l))

pub returns : goal.returns
returns g c =
    let a = c.args in
    let n = g.L.Layout.CHANNELS in
    let joined = c.join-p in (
      unpacked_set a.held.now c.slot.result joined.result
          ∙ ap₂ (set (map unpacked a.held.now)) c.slot.ensures joined.ensures,
      (rw c.CHANNELS.ensures at c.put.ensures) ∙ ap (λ (p : Pixel). pasted (a.done * n) (bytes_in n p) a.out.now) joined.ensures,
    )
