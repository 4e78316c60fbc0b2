-- The encoder's rules: the chunks that it chooses, how they are written, the stream of a picture, and the order of
-- the refusals.
-- The order of refusals reads from the bottom up, in two parts: a picture's header (5, 6, 2), and then 3 and 7.
use Rattle.std.specs.Prelude.{Bool, true, false, cond, ◌&&◌, ◌||◌, List, [], ◌∷◌, ◌++◌, ◌≡◌, ℕ, ◌+◌, ◌-◌, ◌*◌, ◌/◌, ◌%◌, T, ltb, eqb, length, get_or, set, replicate, Result, Ok, Err}
use Rattle.pixel.specs.declared.Pixel.{Pixel}
use Rattle.pixel.specs.declared.error.Error.{Error}
use Rattle.pixel.specs.declared.error.Error.TheVariants.{InvalidImageDimensions, InvalidImageLength, OutputBufferTooSmall}
use Rattle.pixel.specs.Bytes.{pixels_from}
use Rattle.pixel.specs.Colour.{red, green, blue, alpha, start_pixel, clear_pixel, slot_of, same_pixel, wrapped_sum, wrapped_difference, signed_of, within}
use Rattle.pixel.specs.Types.{channels_number, channels_from, color_space_from}
use Rattle.header.specs.declared.Header.{Header}
use Rattle.header.specs.Header.{pixel_count, dimensions_fit, header_from, header_bytes, encoded_room, with_channels, with_color_space, default_header}
use Rattle.rules.specs.Chunk.{Chunk, INDEX, DIFF, LUMA, RUN, RGB, RGBA, Stuck}
use Rattle.rules.specs.Reading.{marker}
use Rattle.pixel.specs.declared.types.Channels.{Channels}
use Rattle.pixel.specs.declared.types.ColorSpace.{ColorSpace}

-- DIFF holds -2..1 in each colour
unfoldable pub fits_diff : ℕ → ℕ → ℕ → Bool
fits_diff r g b = within 2 1 (signed_of r) && (within 2 1 (signed_of g) && within 2 1 (signed_of b))

-- LUMA holds green -32..31 and the other two -8..7 against green
unfoldable pub fits_luma : ℕ → ℕ → ℕ → Bool
fits_luma r g b =
    within 32 31 (signed_of g)
    && (within 8 7 (signed_of (wrapped_difference r g)) && within 8 7 (signed_of (wrapped_difference b g)))

-- three differences, each stored plus 2
unfoldable pub diff_chunk : ℕ → ℕ → ℕ → Chunk
diff_chunk r g b = DIFF (wrapped_sum r 2) (wrapped_sum g 2) (wrapped_sum b 2)

-- the green difference plus 32; red less green plus 8, blue less green plus 8
unfoldable pub luma_chunk : ℕ → ℕ → ℕ → Chunk
luma_chunk r g b = LUMA (wrapped_sum g 32) (wrapped_sum (wrapped_difference r g) 8) (wrapped_sum (wrapped_difference b g) 8)

-- the first fitting of DIFF, LUMA, RGB, for a pixel with these differences
abbrev pub shifted_chunk : Pixel → ℕ → ℕ → ℕ → Chunk
shifted_chunk p r g b =
    cond (fits_diff r g b) (diff_chunk r g b)
    (cond (fits_luma r g b) (luma_chunk r g b) (RGB (red p) (green p) (blue p)))

-- if alpha is unchanged, that one; else RGBA
unfoldable pub colour_chunk : Pixel → Pixel → Chunk
colour_chunk previous p =
    let r = wrapped_difference (red p) (red previous) in
    let g = wrapped_difference (green p) (green previous) in
    let b = wrapped_difference (blue p) (blue previous) in
    cond (eqb (alpha p) (alpha previous)) (shifted_chunk p r g b) (RGBA (red p) (green p) (blue p) (alpha p))

-- what the encoder remembers; `differed`: some earlier pixel differed from its predecessor, the first from the start
-- pixel
pub record Pen : Type 0 where
  pub slots : List Pixel
  pub previous : Pixel
  pub run : ℕ
  pub differed : Bool

-- before the first pixel
unfoldable pub start_pen : Pen
start_pen = record { slots = replicate 64 clear_pixel; previous = start_pixel; run = 0; differed = false }

-- when another pixel ends a run: a run of 1 is INDEX of the repeated pixel's slot if some earlier pixel differed;
-- otherwise RUN
unfoldable pub run_ended : Pen → List Chunk
run_ended pen =
    cond (eqb pen.run 0) []
    (cond (eqb pen.run 1 && pen.differed) (INDEX (slot_of pen.previous) ∷ []) (RUN pen.run ∷ []))

-- whether a pixel's slot holds it
unfoldable pub slot_holds : Pen → Pixel → Bool
slot_holds pen p = same_pixel (get_or pen.slots (slot_of p) clear_pixel) p

-- a differing pixel: INDEX if its slot holds it, else its colour
unfoldable pub differing_chunk : Pen → Pixel → Chunk
differing_chunk pen p = cond (slot_holds pen p) (INDEX (slot_of p)) (colour_chunk pen.previous p)

-- a run that one more pixel makes is written at 62 or at the last pixel
abbrev pub run_written : Pen → Bool → Bool
run_written pen last = eqb (pen.run + 1) 62 || last

-- the chunks for a pixel, which may be the last: one equal to its predecessor lengthens the run
unfoldable pub pixel_chunks : Pen → Bool → Pixel → List Chunk
pixel_chunks pen last p =
    cond (same_pixel p pen.previous) (cond (run_written pen last) (RUN (pen.run + 1) ∷ []) [])
    (run_ended pen ++ (differing_chunk pen p ∷ []))

-- another run, all else kept
abbrev pub with_run : Pen → ℕ → Pen
with_run pen run = record { slots = pen.slots; previous = pen.previous; run = run; differed = pen.differed }

-- a differing pixel is in its slot, and ends the run
abbrev pub with_pixel : Pen → Pixel → Pen
with_pixel pen p = record { slots = set pen.slots (slot_of p) p; previous = p; run = 0; differed = true }

-- what the encoder remembers after a pixel, which may be the last
unfoldable pub pen_after : Pen → Bool → Pixel → Pen
pen_after pen last p =
    cond (same_pixel p pen.previous) (with_run pen (cond (run_written pen last) 0 (pen.run + 1))) (with_pixel pen p)

-- whether no pixel follows
abbrev pub is_last : List Pixel → Bool
is_last [] = true
is_last (p ∷ rest) = false

-- the chunks of the pixels still to come
unfoldable pub chunks_from : Pen → List Pixel → List Chunk
chunks_from pen [] = []
chunks_from pen (p ∷ rest) = pixel_chunks pen (is_last rest) p ++ chunks_from (pen_after pen (is_last rest) p) rest

-- how a chunk is written, by the chunk table; an ff that is not consumed takes no byte, and is never chosen
unfoldable pub chunk_bytes : Chunk → List ℕ
chunk_bytes (INDEX slot) = slot ∷ []
chunk_bytes (DIFF r g b) = (0x40 + r * 16 + g * 4 + b) ∷ []
chunk_bytes (LUMA g r b) = (0x80 + g) ∷ (r * 16 + b) ∷ []
chunk_bytes (RUN times) = (0xc0 + (times - 1)) ∷ []
chunk_bytes (RGB r g b) = 0xfe ∷ r ∷ g ∷ b ∷ []
chunk_bytes (RGBA r g b a) = 0xff ∷ r ∷ g ∷ b ∷ a ∷ []
chunk_bytes Stuck = []

-- chunks one after another
unfoldable pub chunks_bytes : List Chunk → List ℕ
chunks_bytes [] = []
chunks_bytes (k ∷ ks) = chunk_bytes k ++ chunks_bytes ks

-- the chunks of a picture
unfoldable pub chunks_of : Header → List ℕ → List Chunk
chunks_of header bytes = chunks_from start_pen (pixels_from (pixel_count header) (channels_number header.channels) bytes)

-- the stream of a picture: header, chunks, marker
unfoldable pub stream_of : Header → List ℕ → List ℕ
stream_of header bytes = header_bytes header ++ (chunks_bytes (chunks_of header bytes) ++ marker)

-- how many bytes were written, or a refusal
pub data EncodeAnswer : Type 0 where
  encoded : ℕ → EncodeAnswer
  not_encoded : Error → EncodeAnswer

-- an encode: its answer and every byte that it wrote
pub record Encoding : Type 0 where
  pub answer : EncodeAnswer
  pub bytes : List ℕ

-- a refusal, with nothing written
abbrev pub nothing_encoded : Error → Encoding
nothing_encoded e = record { answer = not_encoded e; bytes = [] }

-- a picture of a header: its dimensions pass, and it is as long as its pixels need
pub record PictureOf (header : Header) (picture : List ℕ) : Type 0 where
  pub fit : T (dimensions_fit header.width header.height)
  pub needed : length picture ≡ pixel_count header * channels_number header.channels

-- then 2, carrying the quotient or 255 if larger
unfoldable pub after_length : Header → Result Channels Error → Result Header Error
after_length header (Err e) = Err e
after_length header (Ok channels) = Ok (with_channels header channels)

module _ (picture : List ℕ) where
  -- then 6 if the length is not a multiple of the pixels
  unfoldable pub after_dimensions : Result Header Error → Result Header Error
  after_dimensions (Err e) = Err e
  after_dimensions (Ok header) =
      cond (eqb (length picture % pixel_count header) 0)
      (after_length header (channels_from (length picture / pixel_count header)))
      (Err (InvalidImageLength (length picture) header.width header.height))

  -- the header of a picture of these dimensions: 5, 6, 2
  unfoldable pub picture_header : ℕ → ℕ → Result Header Error
  picture_header width height =
      after_dimensions (header_from width height default_header.channels default_header.colorspace)

  module _ (room : ℕ) where
    -- last 7: room required is 22 + pixels x (channels+1)
    unfoldable pub encoding_into : Header → Encoding
    encoding_into header =
        let required = encoded_room header.width header.height (channels_number header.channels) in
        cond (ltb room required) (nothing_encoded (OutputBufferTooSmall room required))
        (record { answer = encoded (length (stream_of header picture)); bytes = stream_of header picture })

    -- then 3 for a colour space above 1
    unfoldable pub after_space : Header → Result ColorSpace Error → Encoding
    after_space header (Err e) = nothing_encoded e
    after_space header (Ok colorspace) = encoding_into (with_color_space header colorspace)

    -- first the header
    unfoldable pub after_picture_header : ℕ → Result Header Error → Encoding
    after_picture_header colorspace (Err e) = nothing_encoded e
    after_picture_header colorspace (Ok header) = after_space header (color_space_from colorspace)

    -- encoding a picture under a header that is given: 5, then 6 if the picture has another length, then 7
    unfoldable pub encoding_under : Header → Encoding
    encoding_under header =
        cond (dimensions_fit header.width header.height)
        (cond (eqb (length picture) (pixel_count header * channels_number header.channels)) (encoding_into header)
        (nothing_encoded (InvalidImageLength (length picture) header.width header.height)))
        (nothing_encoded (InvalidImageDimensions header.width header.height))

-- encoding a picture of these dimensions and this colour space into `room` bytes: 5, 6, 2, 3, 7
unfoldable pub encoding : List ℕ → ℕ → ℕ → ℕ → ℕ → Encoding
encoding picture width height colorspace room =
    after_picture_header picture room colorspace (picture_header picture width height)
