-- What a message brings does not depend on the size of the frame's buffer, where that holds a frame of so many cells.
-- Assumes nothing.
use Rattle.std.specs.Prelude.{Result, Ok, Err, Option, None, Some}
use mathlib.Core.Bool.{Bool, true, false, cond}
use mathlib.Core.List.{List}
use mathlib.Core.Path.{◌≡◌, refl, sym, ◌∙◌, ap}
use Prim.Native.Nat.{ℕ, zero, suc, ◌*◌, ◌≤◌}
use native.Mathlib.Omega.{arith}
use borrow.Author.Tests.{eqb-true, le-ltb}
use lib.Dec.{eqb, ltb}
use lib.ListN.{length, drop}
use Rattle.pixel.specs.declared.error.Error.TheVariants.{InvalidCellCount, OutputBufferTooSmall}
use Rattle.pixel.specs.declared.types.Channels.{Channels}
use Rattle.pixel.specs.declared.types.Channels.TheVariants.{Rgb, Rgba}
use Rattle.header.specs.declared.Header.{Header}
use Rattle.header.specs.Header.{pixel_count, header_of}
use Rattle.rules.specs.Reading.{Answer, done, refused, Reading, silent, start_place, size_wanted, remaining, reading_into, after_wanted, after_header, whole_reading}
use Rattle.rules.specs.Decode.{decoder}
use Rattle.totals.specs.Counting.{cells_of, cells, unread, with_four, frame_from, frame_of, fitting, Call}
use Rattle.months.specs.Month.{rain_of, accepted, brings}
use Rattle.pixel.specs.declared.error.Error.{Error}

-- there is one cell for each pixel
cells_are_pixels : (n : ℕ) (bytes : List ℕ) → length (cells_of n bytes) ≡ n
unfolding cells_of
cells_are_pixels zero bytes = refl
cells_are_pixels (suc n) bytes = ap suc (cells_are_pixels n (drop 4 bytes))

-- none is no frame
pub none_is_not : {rain : List ℕ} → None ≡ Some rain → ⊥
none_is_not is = let z : ◌≡◌ {A = ℕ} 0 1 = cc in omega arith

-- what a table accepts of a reading, as the frame of a message with this header
abbrev accepted_of : ℕ → Result Header Error → Reading → Option (List ℕ)
accepted_of n h r = accepted n (frame_from h r.answer r.bytes)

module _ (n : ℕ) {rain : List ℕ} where
  -- an accepted frame has a pixel for each cell
  pixels_are :
      (header : Header) (r : Reading) → accepted_of n (Ok header) r ≡ Some rain → pixel_count header ≡ n
  unfolding accepted fitting frame_from
  pixels_are header r is = answered r.answer is
    where
      found : List ℕ
      found = cells_of (pixel_count header) r.bytes

      fitted :
          (used : ℕ) (same : Bool) → eqb (length found) n ≡ same
          → rain_of (cond same (cells used found) (unread (InvalidCellCount (length found) n))) ≡ Some rain
          → pixel_count header ≡ n
      fitted used true same is = sym (cells_are_pixels (pixel_count header) r.bytes) ∙ eqb-true (length found) n same
      fitted used false same is = absurd (none_is_not is)

      four_channels :
          (used : ℕ) (channels : Channels) → accepted n (with_four channels used found) ≡ Some rain
          → pixel_count header ≡ n
      four_channels used Rgb is = absurd (none_is_not is)
      four_channels used Rgba is = fitted used (eqb (length found) n) refl is

      answered :
          (answer : Answer) → accepted n (frame_from (Ok header) answer r.bytes) ≡ Some rain
          → pixel_count header ≡ n
      answered (refused e) is = absurd (none_is_not is)
      answered (done size used) is = four_channels used header.channels is

  -- what one call brings, every call with the same message brings in a buffer that has the room
  pub brings_again :
      (c d : Call) → c.message ≡ d.message → n * 4 ≤ c.room → brings n d ≡ Some rain → brings n c ≡ Some rain
  unfolding accepted fitting frame_from frame_of whole_reading after_header after_wanted reading_into
  brings_again c d same fits is = rw same (opened (header_of d.message) is)
    where
      all : Header → Reading
      all header = remaining decoder header 4 d.message start_place

      into :
          (header : Header) (few : Bool) → ltb d.room (size_wanted header 4) ≡ few
          → accepted_of n (Ok header)
          (cond few (silent (refused (OutputBufferTooSmall d.room (size_wanted header 4)))) (all header))
          ≡ Some rain
          → accepted_of n (Ok header) (reading_into decoder header 4 d.message c.room) ≡ Some rain
      into header true few is = absurd (none_is_not is)
      into header false enough is =
          rw (le-ltb c.room (size_wanted header 4) (omega (arith, pixels_are header (all header) is))) is

      opened :
          (h : Result Header Error) → accepted_of n h (after_header decoder d.message d.room 4 h) ≡ Some rain
          → accepted_of n h (after_header decoder d.message c.room 4 h) ≡ Some rain
      opened (Err e) is = absurd (none_is_not is)
      opened (Ok header) is = into header (ltb d.room (size_wanted header 4)) refl is
