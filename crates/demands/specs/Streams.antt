-- The encoder's streams: what the strict check says of them, and that they keep the condition of (b).
use Rattle.std.specs.Prelude.{List, ◌≡◌, ℕ, ◌*◌, ◌/◌, ◌≤◌, T, length, Ok}
use Rattle.pixel.specs.Types.{channels_number, channels_from, color_space_number, color_space_from}
use Rattle.header.specs.declared.Header.{Header}
use Rattle.header.specs.Header.{encoded_room}
use Rattle.rules.specs.Encode.{PictureOf, chunks_of, stream_of, encoded, encoding}
use Rattle.rules.specs.Strict.{accepted, strict}
use Rattle.rules.specs.Document.{indexes_filled}

-- the strict check accepts the stream of a picture, with its header, as many chunks as the encoder chose, and all its
-- bytes
abbrev pub StrictAccepts : Header → List ℕ → Type 0
StrictAccepts header picture =
    strict (stream_of header picture) ≡ accepted header (length (chunks_of header picture)) (length (stream_of header picture))

-- no INDEX of it names a slot not yet filled, slot 0 of a 4-channel source excepted
abbrev pub KeepsFilled : Header → List ℕ → Type 0
KeepsFilled header picture = T (indexes_filled (stream_of header picture))

-- an encode must accept a picture of a header into the room that it asks for, and write its stream
abbrev pub MustEncode : Header → List ℕ → Type 0
MustEncode header picture =
    (room : ℕ) → encoded_room header.width header.height (channels_number header.channels) ≤ room
    → encoding picture header.width header.height (color_space_number header.colorspace) room
    ≡ record { answer = encoded (length (stream_of header picture)); bytes = stream_of header picture }

-- what an encode that is accepted wrote: the stream of its picture under the header of its dimensions, its channels
-- and its colour space, and how many bytes that is
pub record Wrote (picture stream : List ℕ) (width height colorspace room size : ℕ) : Type 0 where
  pub header : Header
  pub width_is : header.width ≡ width
  pub height_is : header.height ≡ height
  pub channels_are : channels_from (length picture / (width * height)) ≡ Ok header.channels
  pub colorspace_is : color_space_from colorspace ≡ Ok header.colorspace
  pub picture_is : PictureOf header picture
  pub roomy : encoded_room header.width header.height (channels_number header.channels) ≤ room
  pub stream_is : stream ≡ stream_of header picture
  pub all : size ≡ length stream

-- and the strict check accepts it with those bytes, and no INDEX of it names a slot not yet filled
pub record WroteStrictly (picture stream : List ℕ) (width height colorspace room size : ℕ) : Type 0 where
  pub wrote : Wrote picture stream width height colorspace room size
  pub strict_accepts : strict stream ≡ accepted wrote.header (length (chunks_of wrote.header picture)) size
  pub filled : T (indexes_filled stream)
