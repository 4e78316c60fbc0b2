-- A frame's refusals have numbers below 21: that one a full table alone can bring.
-- Assumes nothing.
use Rattle.std.specs.Prelude.{Result, Ok, Err}
use mathlib.Core.List.{List}
use Prim.Native.Nat.{ℕ, zero, suc, ◌-◌, ◌<◌}
use lib.Dec.{lit<, eqb, ltb}
use lib.ListN.{length, get_or, take, drop}
use Rattle.pixel.specs.declared.types.Channels.{Channels}
use Rattle.pixel.specs.declared.types.Channels.TheVariants.{Rgb, Rgba}
use Rattle.pixel.specs.Refusal.{number_of}
use Rattle.pixel.specs.Types.{channels_number, channels_from, color_space_from}
use Rattle.header.specs.declared.Header.{Header}
use Rattle.header.specs.Header.{pixel_count, dimensions_fit, number_at, magic_number, header_from, after_color_space, after_channels, header_of}
use Rattle.rules.specs.Chunk.{Found, cut, chunk}
use Rattle.rules.specs.Bytes.{same_bytes}
use Rattle.rules.specs.Reading.{Place, Answer, done, refused, Move, more, end, Reading, read_on, marker, closing, start_place, size_wanted, move_by, move, reading, reading_into, after_header, after_wanted, whole_reading}
use Rattle.rules.specs.Decode.{decoder, decoding}
use Rattle.totals.specs.Counting.{Frame, cells, unread, with_four, frame_from, frame_of, fitting}
use Rattle.totals.proofs.Sums.{either}
use Rattle.pixel.specs.declared.types.ColorSpace.{ColorSpace}
use Rattle.pixel.specs.declared.error.Error.{Error}

-- below 21: channels read
abbrev ChannelsBelow : Result Channels Error → Type 0
ChannelsBelow (Ok channels) = Unit {0}
ChannelsBelow (Err e) = number_of e < 21

-- a colour space read
abbrev ColorSpaceBelow : Result ColorSpace Error → Type 0
ColorSpaceBelow (Ok colorspace) = Unit {0}
ColorSpaceBelow (Err e) = number_of e < 21

-- a header read
abbrev HeaderBelow : Result Header Error → Type 0
HeaderBelow (Ok header) = Unit {0}
HeaderBelow (Err e) = number_of e < 21

-- a decode's answer
abbrev AnswerBelow : Answer → Type 0
AnswerBelow (done size used) = Unit {0}
AnswerBelow (refused e) = number_of e < 21

-- a move
abbrev MoveBelow : Move → Type 0
MoveBelow (more place bytes) = Unit {0}
MoveBelow (end answer) = AnswerBelow answer

-- a frame
abbrev pub FrameBelow : Frame → Type 0
FrameBelow (cells used rain) = Unit {0}
FrameBelow (unread e) = number_of e < 21

-- 2
channels_below : (n : ℕ) → ChannelsBelow (channels_from n)
channels_below n = either ChannelsBelow (eqb n 3) _ _ tt (either ChannelsBelow (eqb n 4) _ _ tt (lit< tt))

-- 3
colorspace_below : (n : ℕ) → ColorSpaceBelow (color_space_from n)
colorspace_below n = either ColorSpaceBelow (eqb n 0) _ _ tt (either ColorSpaceBelow (eqb n 1) _ _ tt (lit< tt))

-- 1, then those, 4 and 5
header_below : (m : List ℕ) → HeaderBelow (header_of m)
unfolding header_of after_channels after_color_space header_from
header_below m =
    either HeaderBelow (ltb (length m) 14) _ _ (lit< tt)
    (channelled (channels_from (get_or m 12 0)) (channels_below (get_or m 12 0)))
  where
    spaced : (channels : Channels) (s : Result ColorSpace Error) → ColorSpaceBelow s → HeaderBelow (after_color_space m channels s)
    spaced channels (Err e) below = below
    spaced channels (Ok colorspace) below =
        either HeaderBelow (eqb (number_at m 0) magic_number) _ _
        (either HeaderBelow (dimensions_fit (number_at m 4) (number_at m 8)) _ _ tt (lit< tt)) (lit< tt)

    channelled : (c : Result Channels Error) → ChannelsBelow c → HeaderBelow (after_channels m c)
    channelled (Err e) below = below
    channelled (Ok channels) below =
        spaced channels (color_space_from (get_or m 13 0)) (colorspace_below (get_or m 13 0))

-- 1 and 8 where the chunks end
closing_below : (size : ℕ) (m : List ℕ) (at : ℕ) → AnswerBelow (closing size m at)
unfolding closing
closing_below size m at =
    either AnswerBelow (ltb (length (drop at m)) 8) _ _ (lit< tt)
    (either AnswerBelow (same_bytes (take 8 (drop at m)) marker) _ _ tt (lit< tt))

module _ (header : Header) (wanted : ℕ) (m : List ℕ) where
  -- 1 for a chunk that is cut
  by_below : (place : Place) (f : Found) → MoveBelow (move_by decoder header wanted place f)
  unfolding move_by
  by_below place cut = lit< tt
  by_below place (chunk k) = tt

  -- a chunk, or the marker test
  move_below : (place : Place) → MoveBelow (move decoder header wanted m place)
  unfolding move
  move_below place =
      either MoveBelow (ltb place.pixel (pixel_count header)) _ _ (by_below place _)
      (closing_below (size_wanted header wanted) m place.at)

  -- however many moves are left
  reading_below : (left : ℕ) (place : Place) → AnswerBelow (reading decoder header wanted m left place).answer
  unfolding reading
  reading_below zero place = closing_below (size_wanted header wanted) m place.at
  reading_below (suc left) place = go (reading_below left) (move decoder header wanted m place) (move_below place)
    where
      go :
          ((p : Place) → AnswerBelow (reading decoder header wanted m left p).answer) → (v : Move) → MoveBelow v
          → AnswerBelow (read_on (reading decoder header wanted m left) v).answer
      go next (more place bytes) below = next place
      go next (end answer) below = below

  -- 7, then the chunks
  into_below : (room : ℕ) → AnswerBelow (reading_into decoder header wanted m room).answer
  unfolding reading_into
  into_below room =
      either (λ (r : Reading). AnswerBelow r.answer) (ltb room (size_wanted header wanted)) _ _ (lit< tt)
      (reading_below (pixel_count header - start_place.pixel) start_place)

-- the header's, 2, then those
decode_below : (m : List ℕ) (wanted room : ℕ) → AnswerBelow (decoding m wanted room).answer
unfolding whole_reading after_header after_wanted
decode_below m wanted room = opened (header_of m) (header_below m)
  where
    wanting :
        (header : Header) (c : Result Channels Error) → ChannelsBelow c
        → AnswerBelow (after_wanted decoder m room header c).answer
    wanting header (Err e) below = below
    wanting header (Ok channels) below = into_below header (channels_number channels) m room

    opened : (h : Result Header Error) → HeaderBelow h → AnswerBelow (after_header decoder m room wanted h).answer
    opened (Err e) below = below
    opened (Ok header) below = wanting header (channels_from wanted) (channels_below wanted)

-- those, 2 for three channels, 20
pub frame_below : (n : ℕ) (m : List ℕ) (room : ℕ) → FrameBelow (fitting n (frame_of m room))
unfolding fitting frame_of frame_from
frame_below n m room =
    fitted (frame_of m room)
    (framed (header_of m) (header_below m) (decoding m 4 room).answer (decode_below m 4 room))
  where
    fitted : (f : Frame) → FrameBelow f → FrameBelow (fitting n f)
    fitted (unread e) below = below
    fitted (cells used rain) below = either FrameBelow (eqb (length rain) n) (cells used rain) _ tt (lit< tt)

    four_channels : (channels : Channels) (used : ℕ) (rain : List ℕ) → FrameBelow (with_four channels used rain)
    four_channels Rgb used rain = lit< tt
    four_channels Rgba used rain = tt

    framed :
        (h : Result Header Error) → HeaderBelow h → (answer : Answer) → AnswerBelow answer
        → FrameBelow (frame_from h answer (decoding m 4 room).bytes)
    framed h known (refused e) below = below
    framed (Err e) known (done size used) below = known
    framed (Ok header) known (done size used) below = four_channels header.channels used _
