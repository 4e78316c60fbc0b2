-- The quick loop: what each of its arms makes of what holds at its head, where 8 bytes are left.
-- Assumes nothing.
use mathlib.Core.Path.{◌≡◌, ◌∙◌, ap}
use mathlib.Core.Bool.{Bool, cond}
use mathlib.Core.List.{List}
use Prim.Native.Nat.{ℕ, ◌+◌, ◌-◌, ◌/◌, ◌%◌, ◌≤◌, ◌<◌}
use native.Mathlib.Nat.{lt_of_not-le}
use native.Mathlib.Decide.{dec_le}
use native.Mathlib.Omega.{arith}
use borrow.Author.Tests.{lt-ltb, le-ltb}
use lib.Dec.{ltb}
use lib.ListN.{length, get_or, drop, length-drop}
use lib.Seq.{get_or-drop}
use Rattle.pixel.specs.declared.types.Channels.{Channels}
use Rattle.pixel.specs.declared.types.Channels.TheVariants.{Rgba}
use Rattle.pixel.specs.Types.{channels_number}
use Rattle.header.specs.declared.Header.{Header}
use Rattle.rules.specs.Chunk.{chunk_at, size_of}
use Rattle.rules.specs.Decode.{decoder_reads_rgba}
use Rattle.rules.proofs.ChunkLaws.{index_row, diff_row, luma_row, run_row, rgb_row, rgba_row}
use Rattle.chunk.specs.declared.Colour.TheVariants as colour
use Rattle.strict.specs.Asked.{Head}
use Rattle.strict.proofs.Loop.{after_index, after_run, after_colour}

module _ {header : Header} {message : List ℕ} {pixels left at chunks : ℕ}
    (h : Head header message pixels left at chunks) (turn : 0 < left) (room : 8 ≤ length message - at) where
  -- the bytes from here on, and the first of them
  abbrev part : List ℕ
  part = drop at message

  abbrev byte : ℕ
  byte = get_or message at 0

  abbrev reads : Bool
  reads = decoder_reads_rgba (channels_number header.channels)

  eight : 8 ≤ length part
  eight = simp length-drop room

  lead : get_or part 0 0 ≡ byte
  lead = get_or-drop at message 0 0 ∙ ap (λ (i : ℕ). get_or message i 0) (omega arith)

  -- 80..bf
  pub past_luma : byte / 64 ≡ 2 → Head header message pixels (left - 1) (at + 2) (chunks + 1)
  unfolding size_of
  past_luma is =
      after_colour h turn (colour.Luma (get_or part 0 0 % 64) (get_or part 1 0 / 16) (get_or part 1 0 % 16))
      (luma_row reads part (omega (arith, eight)) (omega (arith, lead)) (omega (arith, lead))) (omega arith)

  -- fe
  pub past_rgb : byte ≡ 254 → Head header message pixels (left - 1) (at + 4) (chunks + 1)
  unfolding size_of
  past_rgb is =
      after_colour h turn (colour.Rgb (get_or part 1 0) (get_or part 2 0) (get_or part 3 0))
      (rgb_row reads part (omega (arith, eight)) (lead ∙ is)) (omega arith)

  -- ff where it is read
  pub past_rgba :
      header.channels ≡ Rgba → byte ≡ 255 → Head header message pixels (left - 1) (at + 5) (chunks + 1)
  unfolding size_of decoder_reads_rgba
  past_rgba four is =
      after_colour h turn (colour.Rgba (get_or part 1 0) (get_or part 2 0) (get_or part 3 0) (get_or part 4 0))
      (ap (λ (s : Channels). chunk_at (decoder_reads_rgba (channels_number s)) part) four
      ∙ rgba_row part (omega (arith, eight)) (omega (arith, lead, is)))
      (omega arith)

  -- a chunk of one byte: 00..3f, 40..7f and c0..fd
  module _ (other : byte / 64 ≡ 2 → ⊥) (low : byte < 254) (times : ℕ)
      (often : times ≡ cond (ltb byte 192) 1 (byte - 191)) where
    -- below c0 it brings one pixel
    single : byte < 192 → times ≡ 1
    single below = often ∙ rw (lt-ltb byte 192 below)

    -- from c0 on it is a run
    run : 192 ≤ byte → times ≡ get_or part 0 0 % 64 + 1
    run high =
        let many : times ≡ byte - 191 = often ∙ rw (le-ltb byte 192 high) in
        omega (arith, lead)

    pub past_one : times ≤ left → Head header message pixels (left - times) (at + 1) (chunks + 1)
    unfolding size_of
    past_one fits = go (dec_le 192 byte) (dec_le 64 byte)
      where
        go : Dec (192 ≤ byte) → Dec (64 ≤ byte) → Head header message pixels (left - times) (at + 1) (chunks + 1)
        go (yes high) second =
            let e = run high in
            rw e (after_run h turn (get_or part 0 0 % 64 + 1)
            (run_row reads part (omega (arith, eight)) (omega (arith, lead)) (omega (arith, lead)))
            (omega arith))
        go (no less) (yes high) =
            let below = lt_of_not-le less in
            let e = single below in
            rw e (after_colour h turn
            (colour.Diff (get_or part 0 0 / 16 % 4) (get_or part 0 0 / 4 % 4) (get_or part 0 0 % 4))
            (diff_row reads part (omega (arith, eight)) (omega (arith, lead)) (omega (arith, lead, other)))
            (omega arith))
        go (no less) (no lesser) =
            let e = single (lt_of_not-le less) in
            let below = lt_of_not-le lesser in
            rw e (after_index h turn (get_or part 0 0)
            (index_row reads part (omega (arith, eight)) (omega (arith, lead))))
