-- Reading a message chunk by chunk, over a `Way`: the points on which the decoder's rules and the document's differ.
-- The order of refusals reads from the bottom up: the last definition of it makes the first test.
use Rattle.std.specs.Prelude.{Bool, cond, List, [], ◌∷◌, ◌++◌, ℕ, zero, suc, ◌+◌, ◌-◌, ◌*◌, min, ltb, length, take, drop, set, replicate, Result, Ok, Err}
use Rattle.pixel.specs.declared.Pixel.{Pixel}
use Rattle.pixel.specs.declared.error.Error.{Error}
use Rattle.pixel.specs.declared.error.Error.TheVariants.{InvalidPadding, OutputBufferTooSmall}
use Rattle.pixel.specs.Refusal.{ended_early}
use Rattle.pixel.specs.Colour.{slot_of, start_pixel, clear_pixel}
use Rattle.pixel.specs.Types.{channels_number, channels_from}
use Rattle.header.specs.declared.Header.{Header}
use Rattle.header.specs.Header.{pixel_count, header_of}
use Rattle.rules.specs.Bytes.{same_bytes, repeated}
use Rattle.rules.specs.Chunk.{Chunk, Found, cut, chunk, chunk_at, colour_of, times_of, size_of}
use Rattle.pixel.specs.declared.types.Channels.{Channels}

-- the points on which two decoders may differ
pub record Way : Type 0 where
  -- which chunks store their pixel in its slot
  pub stores : Chunk → Bool
  -- the pixel that is kept and written, by the wanted channels
  pub keeps : ℕ → Pixel → Pixel
  -- whether ff is an RGBA chunk, by the header's channels
  pub reads_rgba : ℕ → Bool

-- where a reading stands: byte position, pixel position, current pixel, slots
pub record Place : Type 0 where
  pub at : ℕ
  pub pixel : ℕ
  pub current : Pixel
  pub slots : List Pixel

-- bytes written and message bytes used, or a refusal
pub data Answer : Type 0 where
  done : ℕ → ℕ → Answer
  refused : Error → Answer

-- one move: on to the next place with the bytes that it writes, or the end
pub data Move : Type 0 where
  more : Place → List ℕ → Move
  end : Answer → Move

-- a whole reading: its answer and every byte that it wrote
pub record Reading : Type 0 where
  pub answer : Answer
  pub bytes : List ℕ

-- the end, with nothing written
abbrev pub silent : Answer → Reading
silent answer = record { answer = answer; bytes = [] }

-- more bytes written before
abbrev pub after : List ℕ → Reading → Reading
after bytes r = record { answer = r.answer; bytes = bytes ++ r.bytes }

-- a move, and then the reading from where it leads
abbrev pub read_on : (Place → Reading) → Move → Reading
read_on next (more place bytes) = after bytes (next place)
read_on next (end answer) = silent answer

-- seven 00 bytes and one 01
abbrev pub marker : List ℕ
marker = 0 ∷ 0 ∷ 0 ∷ 0 ∷ 0 ∷ 0 ∷ 0 ∷ 1 ∷ []

-- what the message holds after its last chunk: under 8 bytes, refusal 1; not the marker, 8; later bytes are ignored
unfoldable pub closing : ℕ → List ℕ → ℕ → Answer
closing size message at =
    cond (ltb (length (drop at message)) 8) (refused ended_early)
    (cond (same_bytes (take 8 (drop at message)) marker) (done size (at + 8)) (refused InvalidPadding))

-- before the first chunk: start pixel (0,0,0,255), 64 slots of (0,0,0,0)
unfoldable pub start_place : Place
start_place = record { at = 14; pixel = 0; current = start_pixel; slots = replicate 64 clear_pixel }

-- the bytes of the whole picture
abbrev pub size_wanted : Header → ℕ → ℕ
size_wanted header wanted = pixel_count header * wanted

-- a run is clipped to the pixels left
unfoldable pub pixels_brought : Header → Place → Chunk → ℕ
pixels_brought header place k = min (times_of k) (pixel_count header - place.pixel)

-- the pixel after a chunk
unfoldable pub pixel_after : Way → ℕ → Place → Chunk → Pixel
pixel_after way wanted place k = way.keeps wanted (colour_of place.slots place.current k)

module _ (way : Way) (header : Header) (wanted : ℕ) where
  -- the place after a chunk
  unfoldable pub place_after : Place → Chunk → Place
  place_after place k =
      let p = pixel_after way wanted place k in
      record {
        at = place.at + size_of k;
        pixel = place.pixel + pixels_brought header place k;
        current = p;
        slots = cond (way.stores k) (set place.slots (slot_of p) p) place.slots;
      }

  -- the bytes that a chunk writes
  unfoldable pub bytes_of : Place → Chunk → List ℕ
  bytes_of place k = repeated (pixels_brought header place k) (take wanted (pixel_after way wanted place k).rgba)

  -- a chunk whose bytes are not all there is refusal 1
  unfoldable pub move_by : Place → Found → Move
  move_by place cut = end (refused ended_early)
  move_by place (chunk k) = more (place_after place k) (bytes_of place k)

module _ (way : Way) (header : Header) (wanted : ℕ) (message : List ℕ) where
  -- one chunk or, with no pixel left, the marker test
  unfoldable pub move : Place → Move
  move place =
      cond (ltb place.pixel (pixel_count header))
      (move_by way header wanted place (chunk_at (way.reads_rgba (channels_number header.channels)) (drop place.at message)))
      (end (closing (size_wanted header wanted) message place.at))

  -- moves until the end; each brings a pixel, so with none left only the marker test is to do
  unfoldable pub reading : ℕ → Place → Reading
  reading zero place = silent (closing (size_wanted header wanted) message place.at)
  reading (suc left) place = read_on (reading left) (move place)

  -- the reading from a place to its end
  abbrev pub remaining : Place → Reading
  remaining place = reading (pixel_count header - place.pixel) place

  -- the reading of a message whose header is known, into `room` bytes: 7, then the chunks
  unfoldable pub reading_into : ℕ → Reading
  reading_into room =
      cond (ltb room (size_wanted header wanted)) (silent (refused (OutputBufferTooSmall room (size_wanted header wanted))))
      (remaining start_place)

module _ (way : Way) (message : List ℕ) (room : ℕ) where
  -- 2 for wanted other than 3 or 4
  unfoldable pub after_wanted : Header → Result Channels Error → Reading
  after_wanted header (Err e) = silent (refused e)
  after_wanted header (Ok channels) = reading_into way header (channels_number channels) message room

  -- the header's refusals come first
  unfoldable pub after_header : ℕ → Result Header Error → Reading
  after_header wanted (Err e) = silent (refused e)
  after_header wanted (Ok header) = after_wanted header (channels_from wanted)

-- decoding: header, 2, 7, chunks
unfoldable pub whole_reading : Way → List ℕ → ℕ → ℕ → Reading
whole_reading way message wanted room = after_header way message room wanted (header_of message)
