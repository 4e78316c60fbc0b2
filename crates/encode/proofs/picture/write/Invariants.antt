-- What the loop of `picture::write` keeps.
use Prim.Native.Nat.{◌+◌}
use mathlib.Core.List.{map}
use lib.ListN.{length}
use Rattle.pixel.specs.Bytes.{pixel_from}
use Rattle.rules.specs.Bytes.{pasted}
use Rattle.encode.specs.Asked.{pixels_bytes}
use Rattle.encode.proofs.Loop.{Head}
use Rattle.encode.proofs.picture.write.Given as goal

abbrev pub invariant-loop-pixel : goal.invariant-loop-pixel
invariant-loop-pixel g l =
    let pixels = map (pixel_from g.row.CHANNELS) l.pixels in
    let all = pixels_bytes pixels in
    Head pixels (length l.initial.out) (l.start + length all) (pasted l.start all l.initial.out) l.out l.slots l.previous l.run l.single l.pixel-index l.at
