-- What the loop of `writer::put_pixels` keeps: the pixels still to come, put here, make the whole answer.
use Rattle.std.proofs.Common.{◌≡◌, ◌≤◌, ◌+◌, length, drop}
use Rattle.rules.specs.Bytes.{pasted}
use Rattle.rules.specs.Record.{pixels_bytes}
use Rattle.resume.proofs.writer.put_pixels.Given as goal

abbrev pub invariant-loop-pixel : goal.invariant-loop-pixel
invariant-loop-pixel l =
    let all = length (pixels_bytes l.pixel-items) in
    let rest = pixels_bytes (drop l.pixel-index l.pixel-items) in
    (length l.out ≡ length l.initial.out)
    × (l.at + length rest ≡ l.initial.start + all)
    × (l.initial.start + all ≤ length l.initial.out)
    × (pasted l.at rest l.out ≡ pasted l.initial.start (pixels_bytes l.pixel-items) l.initial.out)
