-- Each cell of a frame has 32 bits, since a message of bytes decodes to bytes.
-- Assumes nothing.
use Rattle.std.specs.Prelude.{Result, Ok, Err}
use mathlib.Core.List.{List}
use Prim.Native.Nat.{ℕ, ◌+◌, ◌*◌, ◌^◌, ◌<◌}
use native.Mathlib.Decide.{dec_lt}
use native.Mathlib.Omega.{arith}
use lib.Dec.{lit<, eqb}
use lib.ListN.{length, get_or, get_or-eq_default}
use Rattle.pixel.specs.declared.types.Channels.{Channels}
use Rattle.pixel.specs.declared.types.Channels.TheVariants.{Rgb, Rgba}
use Rattle.pixel.specs.Bytes.{AllBytes}
use Rattle.header.specs.Header.{pixel_count, header_of}
use Rattle.rules.specs.Reading.{Answer, done, refused}
use Rattle.rules.specs.Decode.{decoding}
use Rattle.totals.specs.Counting.{cells_of, Frame, cells, with_four, frame_from, frame_of, fitting, Call}
use Rattle.totals.proofs.Sums.{either, cells_length, cells_at}
use Rattle.totals.proofs.Decoded.{decoded_bytes}
use Rattle.months.specs.Month.{rain_of, accepted, brings, cell_in}
use Rattle.header.specs.declared.Header.{Header}
use Rattle.pixel.specs.declared.error.Error.{Error}

-- a list of bytes reads as bytes, also past its end
bytes_anywhere : (l : List ℕ) → AllBytes l → (i : ℕ) → get_or l i 0 < 256
bytes_anywhere l all i = go (dec_lt i (length l))
  where
    go : Dec (i < length l) → get_or l i 0 < 256
    go (yes there) = all i there
    go (no beyond) = rw (get_or-eq_default l 0 {n = i} (omega (arith, beyond))) (lit< tt)

-- a cell has 32 bits
cells_small : (n : ℕ) (bytes : List ℕ) → AllBytes bytes → (i : ℕ) → get_or (cells_of n bytes) i 0 < 2 ^ 32
cells_small n bytes all i = go (dec_lt i n)
  where
    byte : (k : ℕ) → get_or bytes k 0 < 256
    byte = bytes_anywhere bytes all

    go : Dec (i < n) → get_or (cells_of n bytes) i 0 < 2 ^ 32
    go (yes below) =
        omega (arith, cells_at n bytes i below, byte (i * 4), byte (i * 4 + 1), byte (i * 4 + 2), byte (i * 4 + 3))
    go (no above) =
        rw (get_or-eq_default (cells_of n bytes) 0 {n = i} (omega (arith, above, cells_length n bytes))) (lit< tt)

-- each cell that a call brings has 32 bits
pub frame_small : (n : ℕ) (c : Call) → AllBytes c.message → (i : ℕ) → cell_in i (brings n c) < 2 ^ 32
unfolding accepted fitting frame_of frame_from
frame_small n c all i =
    let r = decoding c.message 4 c.room in
    framed (header_of c.message) r.answer r.bytes (decoded_bytes c.message c.room all)
  where
    fitted : (used : ℕ) (rain : List ℕ) → get_or rain i 0 < 2 ^ 32 → cell_in i (accepted n (cells used rain)) < 2 ^ 32
    fitted used rain less =
        either (λ (f : Frame). cell_in i (rain_of f) < 2 ^ 32) (eqb (length rain) n) (cells used rain) _ less (lit< tt)

    four_channels :
        (channels : Channels) (used : ℕ) (rain : List ℕ) → get_or rain i 0 < 2 ^ 32
        → cell_in i (accepted n (with_four channels used rain)) < 2 ^ 32
    four_channels Rgb used rain less = lit< tt
    four_channels Rgba used rain less = fitted used rain less

    framed :
        (h : Result Header Error) (answer : Answer) (bytes : List ℕ) → AllBytes bytes
        → cell_in i (accepted n (frame_from h answer bytes)) < 2 ^ 32
    framed h (refused e) bytes fine = lit< tt
    framed (Err e) (done size used) bytes fine = lit< tt
    framed (Ok header) (done size used) bytes fine =
        four_channels header.channels used (cells_of (pixel_count header) bytes)
        (cells_small (pixel_count header) bytes fine i)
