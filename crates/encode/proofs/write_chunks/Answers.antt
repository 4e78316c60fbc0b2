-- `encode::write_chunks` meets its contract: a picture is cut into the pixels of its header.
-- Assumes nothing.
use native.Mathlib.Omega.{arith}
use Rattle.header.specs.Header.{pixel_count}
use Rattle.encode.proofs.Loop.{cut_is}
use Rattle.encode.proofs.write_chunks.Goals as goal

pub write-requires : goal.write-requires
write-requires c =
    let fits = rw (c.in-Rgb.is) at c.requires in
    let cut = cut_is 3 (pixel_count c.args.header) c.args.pixels.now (omega arith) c.as_chunks.ensures.front (omega (arith, fits.many)) in
    (omega arith, (omega arith, rw (cut) fits.room))

pub returns-in-Rgb : goal.returns-in-Rgb
returns-in-Rgb c =
    let fits = rw (c.in-Rgb.is) at c.requires in
    let cut = cut_is 3 (pixel_count c.args.header) c.args.pixels.now (omega arith) c.as_chunks.ensures.front (omega (arith, fits.many)) in
    rw (c.in-Rgb.is, ← cut) c.write.ensures

pub write-requires-in-Rgba : goal.write-requires-in-Rgba
write-requires-in-Rgba c =
    let fits = rw (c.in-Rgba.is) at c.requires in
    let cut = cut_is 4 (pixel_count c.args.header) c.args.pixels.now (omega arith) c.as_chunks-in-Rgba.ensures.front (omega (arith, fits.many)) in
    (omega arith, (omega arith, rw (cut) fits.room))

pub returns-in-Rgba : goal.returns-in-Rgba
returns-in-Rgba c =
    let fits = rw (c.in-Rgba.is) at c.requires in
    let cut = cut_is 4 (pixel_count c.args.header) c.args.pixels.now (omega arith) c.as_chunks-in-Rgba.ensures.front (omega (arith, fits.many)) in
    rw (c.in-Rgba.is, ← cut) c.write-in-Rgba.ensures
