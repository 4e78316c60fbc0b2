-- What the encoder's own parts ask of one another; nothing that a public contract cites.
use Rattle.std.specs.Prelude.{cond, ◌&&◌, List, [], ◌∷◌, ℕ, ◌+◌, ◌-◌, ◌*◌, ◌≡◌, ◌≤◌, eqb, length, Bool, ℤ}
use lib.Signed.{le_z}
use Rattle.pixel.specs.declared.Pixel.{Pixel}
use Rattle.pixel.specs.Bytes.{pixels_from}
use Rattle.pixel.specs.Packed.{unpacked}
use Rattle.pixel.specs.Types.{channels_number}
use Rattle.header.specs.declared.Header.{Header}
use Rattle.header.specs.Header.{pixel_count}
use Rattle.rules.specs.Encode.{chunks_from, start_pen, chunk_bytes, chunks_bytes, colour_chunk, shifted_chunk, stream_of}

-- the bytes of a colour's chunk after another colour, both packed
abbrev pub colour_bytes : ℕ → ℕ → List ℕ
colour_bytes previous p = chunk_bytes (colour_chunk (unpacked previous) (unpacked p))

-- the same for these differences, where alpha is unchanged
abbrev pub shifted_bytes : ℕ → ℕ → ℕ → ℕ → List ℕ
shifted_bytes p r g b = chunk_bytes (shifted_chunk (unpacked p) r g b)

-- a signed number is from the least to the most
abbrev pub in_range : ℤ → ℤ → ℤ → Bool
in_range least most x = le_z least x && le_z x most

-- the byte of a run that ends: that of a single pixel, which is given, else RUN
abbrev pub ended_byte : ℕ → ℕ → ℕ
ended_byte run single = cond (eqb run 1) single (0xc0 + (run - 1))

-- no byte where there is no run
abbrev pub ended_bytes : ℕ → ℕ → List ℕ
ended_bytes run single = cond (eqb run 0) [] (ended_byte run single ∷ [])

-- the bytes of the chunks of some pixels
abbrev pub pixels_bytes : List Pixel → List ℕ
pixels_bytes pixels = chunks_bytes (chunks_from start_pen pixels)

-- the same of the first `count` pixels of a picture
abbrev pub picture_bytes : ℕ → ℕ → List ℕ → List ℕ
picture_bytes count channels picture = pixels_bytes (pixels_from count channels picture)

-- a picture has that number of pixels, and their chunks have room
pub record Fits (picture : List ℕ) (count channels : ℕ) (out : List ℕ) (start : ℕ) : Type 0 where
  pub many : length picture ≡ count * channels
  pub room : start + length (picture_bytes count channels picture) ≤ length out

-- a picture has the pixels of a header, and their stream has room
pub record Framed (header : Header) (picture out : List ℕ) : Type 0 where
  pub many : length picture ≡ pixel_count header * channels_number header.channels
  pub room : length (stream_of header picture) ≤ length out
