-- `resume::writer::put_pixels` meets its contract: at each turn the pixels still to come, put here, make the
-- whole answer.
-- Assumes nothing.
use Rattle.std.specs.Prelude.{◌≡◌, [], suc, ◌<◌, length, drop, get_or}
use Rattle.std.proofs.Common.{arith, refl, sym, ◌∙◌, add-one, add-zero}
use lib.ListN.{drop_of_length-le}
use Rattle.rules.specs.Record.{pixels_bytes}
use Rattle.rules.proofs.PastingLaws.{pasted_none}
use Rattle.resume.proofs.Parts.{put_next}
use Rattle.resume.proofs.Slots.{no_pixel, bytes_next, bytes_next_length}
use Rattle.resume.proofs.writer.put_pixels.Goals as goal

pub loop-pixel-init : goal.loop-pixel-init
loop-pixel-init c = (refl, refl, c.requires, refl)

pub put-at-requires : goal.put-at-requires
put-at-requires c =
    omega (arith, bytes_next_length c.args.pixels c.loop-pixel.pixel-index (omega arith))

pub loop-pixel-preserved : goal.loop-pixel-preserved
loop-pixel-preserved c =
    let pixels = c.args.pixels in
    let l = c.loop-pixel in
    let i = l.pixel-index in
    let written = c.put-at.ensures in
    let h : i < length pixels = omega arith in
    let size = bytes_next_length pixels i h in (
      omega arith,
      rw (add-one i) (omega (arith, written.0)),
      l.invariant.2,
      rw (add-one i)
          (put_next l.out c.put-at.new.out l.at c.put-at.result (get_or pixels i no_pixel).rgba (pixels_bytes (drop (suc i) pixels)) written.1 written.0 (omega arith)
          ∙ (rw (bytes_next pixels i h) at l.invariant.3)),
    )

pub returns : goal.returns
unfolding pixels_bytes
returns c =
    let l = c.loop-pixel in
    let none : drop l.pixel-index c.args.pixels ≡ [] = drop_of_length-le c.args.pixels {i = l.pixel-index} (omega arith) in
    (sym (add-zero l.at) ∙ (rw none at l.invariant.1), sym (pasted_none l.out l.at) ∙ (rw none at l.invariant.3))
