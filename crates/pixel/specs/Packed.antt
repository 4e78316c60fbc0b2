-- A pixel packed in 32 bits, red lowest: the form of the hot loops.
use Rattle.std.specs.Prelude.{ℕ, ◌+◌, ◌*◌, ◌/◌, ◌%◌}
use Rattle.pixel.specs.declared.Pixel.{Pixel}
use Rattle.pixel.specs.Colour.{pixel_of}

-- four channels as one number
abbrev pub packed_of : ℕ → ℕ → ℕ → ℕ → ℕ
packed_of r g b a = r + g * 256 + b * 65536 + a * 16777216

-- the pixel that a number packs
unfoldable pub unpacked : ℕ → Pixel
unpacked p = pixel_of (p % 256) (p / 256 % 256) (p / 65536 % 256) (p / 16777216 % 256)
