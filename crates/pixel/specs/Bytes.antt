-- Lists of bytes, and the pixels in them.
use Rattle.std.specs.Prelude.{cond, List, [], ◌∷◌, ℕ, zero, suc, ◌<◌, eqb, length, get_or, drop}
use Rattle.pixel.specs.declared.Pixel.{Pixel}
use Rattle.pixel.specs.Colour.{pixel_of}

-- every number of a list is a byte
abbrev pub AllBytes : List ℕ → Type 0
AllBytes bytes = (i : ℕ) → i < length bytes → get_or bytes i 0 < 256

-- the pixel that some bytes start with; with three channels its alpha is 255
unfoldable pub pixel_from : ℕ → List ℕ → Pixel
pixel_from channels bytes =
    pixel_of (get_or bytes 0 0) (get_or bytes 1 0) (get_or bytes 2 0) (cond (eqb channels 3) 255 (get_or bytes 3 0))

-- n pixels
unfoldable pub pixels_from : ℕ → ℕ → List ℕ → List Pixel
pixels_from zero channels bytes = []
pixels_from (suc n) channels bytes = pixel_from channels bytes ∷ pixels_from n channels (drop channels bytes)
