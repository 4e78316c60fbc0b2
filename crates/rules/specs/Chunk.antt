-- The chunk table: what the first bytes of a part say, and what one chunk means for the pixel that it brings.
use Rattle.std.specs.Prelude.{Bool, cond, List, [], ◌∷◌, ℕ, ◌+◌, ◌/◌, ◌%◌, ltb, leb, length, get_or}
use Rattle.pixel.specs.declared.Pixel.{Pixel}
use Rattle.pixel.specs.Colour.{pixel_of, red, green, blue, alpha, clear_pixel, wrapped_sum, wrapped_difference}

-- one constructor a row of the table, and `Stuck` for an ff that is not consumed
pub data Chunk : Type 0 where
  -- the slot
  INDEX : ℕ → Chunk
  -- red, green and blue difference, each stored plus 2
  DIFF : ℕ → ℕ → ℕ → Chunk
  -- the green difference plus 32; red less green and blue less green, each plus 8
  LUMA : ℕ → ℕ → ℕ → Chunk
  -- how many times
  RUN : ℕ → Chunk
  RGB : ℕ → ℕ → ℕ → Chunk
  RGBA : ℕ → ℕ → ℕ → ℕ → Chunk
  Stuck : Chunk

-- a chunk, or one whose bytes are not all there
pub data Found : Type 0 where
  cut : Found
  chunk : Chunk → Found

-- a chunk that needs n bytes after its first
abbrev pub needing : ℕ → List ℕ → Chunk → Found
needing n rest k = cond (leb n (length rest)) (chunk k) cut

-- what a first byte and the bytes after it say; where ff is no RGBA chunk it is stuck, or cut with under 8 bytes left
unfoldable pub chunk_from : Bool → ℕ → List ℕ → Found
chunk_from reads_rgba byte rest =
    cond (ltb byte 0x40) (chunk (INDEX byte))
    (cond (ltb byte 0x80) (chunk (DIFF (byte / 16 % 4) (byte / 4 % 4) (byte % 4)))
    (cond (ltb byte 0xc0) (needing 1 rest (LUMA (byte % 64) (get_or rest 0 0 / 16) (get_or rest 0 0 % 16)))
    (cond (ltb byte 0xfe) (chunk (RUN (byte % 64 + 1)))
    (cond (ltb byte 0xff) (needing 3 rest (RGB (get_or rest 0 0) (get_or rest 1 0) (get_or rest 2 0)))
    (cond reads_rgba (needing 4 rest (RGBA (get_or rest 0 0) (get_or rest 1 0) (get_or rest 2 0) (get_or rest 3 0)))
    (needing 7 rest Stuck))))))

-- what a part of a message starts with
unfoldable pub chunk_at : Bool → List ℕ → Found
chunk_at reads_rgba [] = cut
chunk_at reads_rgba (byte ∷ rest) = chunk_from reads_rgba byte rest

-- the previous pixel with a difference added to each colour; alpha is kept
abbrev pub shifted : Pixel → ℕ → ℕ → ℕ → Pixel
shifted p r g b = pixel_of (wrapped_sum (red p) r) (wrapped_sum (green p) g) (wrapped_sum (blue p) b) (alpha p)

-- the pixel that a chunk brings, from the slots and the previous pixel
unfoldable pub colour_of : List Pixel → Pixel → Chunk → Pixel
colour_of slots p (INDEX slot) = get_or slots slot clear_pixel
colour_of slots p (DIFF r g b) = shifted p (wrapped_difference r 2) (wrapped_difference g 2) (wrapped_difference b 2)
colour_of slots p (LUMA g r b) =
    shifted p (wrapped_sum (wrapped_difference g 32) (wrapped_difference r 8)) (wrapped_difference g 32)
    (wrapped_sum (wrapped_difference g 32) (wrapped_difference b 8))
colour_of slots p (RUN times) = p
colour_of slots p (RGB r g b) = pixel_of r g b (alpha p)
colour_of slots p (RGBA r g b a) = pixel_of r g b a
colour_of slots p Stuck = p

-- how many pixels it brings
unfoldable pub times_of : Chunk → ℕ
times_of (INDEX slot) = 1
times_of (DIFF r g b) = 1
times_of (LUMA g r b) = 1
times_of (RUN times) = times
times_of (RGB r g b) = 1
times_of (RGBA r g b a) = 1
times_of Stuck = 1

-- how many bytes of the message it takes
unfoldable pub size_of : Chunk → ℕ
size_of (INDEX slot) = 1
size_of (DIFF r g b) = 1
size_of (LUMA g r b) = 2
size_of (RUN times) = 1
size_of (RGB r g b) = 4
size_of (RGBA r g b a) = 5
size_of Stuck = 0
