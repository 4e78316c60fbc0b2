-- Pixels: their four bytes, the start pixel, the slot formula, and arithmetic on channels that wraps modulo 256.
use Rattle.std.specs.Prelude.{Bool, cond, ◌&&◌, [], ◌∷◌, ℕ, suc, ◌+◌, ◌-◌, ◌*◌, ◌%◌, leb, ltb, eqb, ℤ, pos, negsuc, get_or}
use Rattle.pixel.specs.declared.Pixel.{Pixel}

-- a pixel is its four bytes: red, green, blue, alpha
abbrev pub pixel_of : ℕ → ℕ → ℕ → ℕ → Pixel
pixel_of r g b a = record { rgba = r ∷ g ∷ b ∷ a ∷ [] }

-- the first byte
abbrev pub red : Pixel → ℕ
red p = get_or p.rgba 0 0

-- the second
abbrev pub green : Pixel → ℕ
green p = get_or p.rgba 1 0

-- the third
abbrev pub blue : Pixel → ℕ
blue p = get_or p.rgba 2 0

-- the fourth
abbrev pub alpha : Pixel → ℕ
alpha p = get_or p.rgba 3 0

-- the pixel before the first: (0,0,0,255)
abbrev pub start_pixel : Pixel
start_pixel = pixel_of 0 0 0 255

-- what every slot holds at first: (0,0,0,0)
abbrev pub clear_pixel : Pixel
clear_pixel = pixel_of 0 0 0 0

-- the same colour with another alpha
abbrev pub with_alpha : Pixel → ℕ → Pixel
with_alpha p a = pixel_of (red p) (green p) (blue p) a

-- a colour's slot is (3r+5g+7b+11a) mod 64
unfoldable pub slot_of : Pixel → ℕ
slot_of p = (3 * red p + 5 * green p + 7 * blue p + 11 * alpha p) % 64

-- two pixels are the same if their four bytes are
abbrev pub same_pixel : Pixel → Pixel → Bool
same_pixel p q = eqb (red p) (red q) && (eqb (green p) (green q) && (eqb (blue p) (blue q) && eqb (alpha p) (alpha q)))

-- channels add modulo 256
abbrev pub wrapped_sum : ℕ → ℕ → ℕ
wrapped_sum a b = (a + b) % 256

-- channels differ modulo 256
abbrev pub wrapped_difference : ℕ → ℕ → ℕ
wrapped_difference a b = (a + 256 - b) % 256

-- a wrapped difference as a signed number, from -128 to 127
abbrev pub signed_of : ℕ → ℤ
signed_of x = cond (ltb x 128) (pos x) (negsuc (255 - x))

-- whether a signed number is from minus `below` to `above`
abbrev pub within : ℕ → ℕ → ℤ → Bool
within below above (pos n) = leb n above
within below above (negsuc n) = leb (suc n) below
