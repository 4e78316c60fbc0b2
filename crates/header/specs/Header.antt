-- The header: its fourteen bytes, its test with the order of its refusals, and the room that a picture may need.
-- The order of refusals reads from the bottom up: the last definition of it makes the first test.
use Rattle.std.specs.Prelude.{Bool, cond, ◌&&◌, List, [], ◌∷◌, ◌++◌, ℕ, ◌+◌, ◌-◌, ◌*◌, ◌/◌, ◌%◌, ◌^◌, min, ltb, leb, eqb, length, get_or, Result, Ok, Err}
use Rattle.pixel.specs.Types.{channels_number, color_space_number, channels_from, color_space_from}
use Rattle.pixel.specs.declared.error.Error.TheVariants.{InvalidMagic, InvalidImageDimensions}
use Rattle.pixel.specs.Refusal.{ended_early}
use Rattle.pixel.specs.declared.types.Channels.{Channels}
use Rattle.pixel.specs.declared.types.Channels.TheVariants.{Rgb}
use Rattle.pixel.specs.declared.types.ColorSpace.{ColorSpace}
use Rattle.pixel.specs.declared.types.ColorSpace.TheVariants.{Srgb}
use Rattle.header.specs.declared.Header.{Header}
use Rattle.pixel.specs.declared.error.Error.{Error}

-- pixels are width x height
abbrev pub pixel_count : Header → ℕ
pixel_count h = h.width * h.height

-- from 1 to 400,000,000 pixels, both ends allowed
abbrev pub dimensions_fit : ℕ → ℕ → Bool
dimensions_fit width height = leb 1 (width * height) && leb (width * height) 400000000

-- four bytes as a 32-bit big-endian number
abbrev pub big_endian : ℕ → ℕ → ℕ → ℕ → ℕ
big_endian a b c d = a * 16777216 + b * 65536 + c * 256 + d

-- a 32-bit number as four bytes, big-endian
abbrev pub big_endian_bytes : ℕ → List ℕ
big_endian_bytes n = n / 16777216 % 256 ∷ n / 65536 % 256 ∷ n / 256 % 256 ∷ n % 256 ∷ []

-- "qoif" as a 32-bit big-endian number
abbrev pub magic_number : ℕ
magic_number = big_endian 113 111 105 102

-- "qoif", width and height as 32-bit big-endian, channels, colour space
unfoldable pub header_bytes : Header → List ℕ
header_bytes h =
    big_endian_bytes magic_number
    ++ (big_endian_bytes h.width
    ++ (big_endian_bytes h.height
    ++ (channels_number h.channels ∷ color_space_number h.colorspace ∷ [])))

-- a header of these figures, or refusal 5 with its dimensions
unfoldable pub header_from : ℕ → ℕ → Channels → ColorSpace → Result Header Error
header_from width height channels colorspace =
    cond (dimensions_fit width height)
    (Ok (record { width = width; height = height; channels = channels; colorspace = colorspace }))
    (Err (InvalidImageDimensions width height))

-- the 32-bit big-endian number at a place
abbrev pub number_at : List ℕ → ℕ → ℕ
number_at bytes at = big_endian (get_or bytes at 0) (get_or bytes (at + 1) 0) (get_or bytes (at + 2) 0) (get_or bytes (at + 3) 0)

-- after the colour space: the magic is refusal 4, then the dimensions 5
unfoldable pub after_color_space : List ℕ → Channels → Result ColorSpace Error → Result Header Error
after_color_space bytes channels (Err e) = Err e
after_color_space bytes channels (Ok colorspace) =
    cond (eqb (number_at bytes 0) magic_number) (header_from (number_at bytes 4) (number_at bytes 8) channels colorspace)
    (Err (InvalidMagic (number_at bytes 0)))

-- after the channels: the colour space is refusal 3
unfoldable pub after_channels : List ℕ → Result Channels Error → Result Header Error
after_channels bytes (Err e) = Err e
after_channels bytes (Ok channels) = after_color_space bytes channels (color_space_from (get_or bytes 13 0))

-- header order: length under 14 (1), 2, 3, 4, 5
unfoldable pub header_of : List ℕ → Result Header Error
header_of bytes =
    cond (ltb (length bytes) 14) (Err ended_early) (after_channels bytes (channels_from (get_or bytes 12 0)))

-- one pixel, three channels, sRGB
abbrev pub default_header : Header
default_header = record { width = 1; height = 1; channels = Rgb; colorspace = Srgb }

-- other channels, all else kept
abbrev pub with_channels : Header → Channels → Header
with_channels h channels =
    record { width = h.width; height = h.height; channels = channels; colorspace = h.colorspace }

-- another colour space, all else kept
abbrev pub with_color_space : Header → ColorSpace → Header
with_color_space h colorspace =
    record { width = h.width; height = h.height; channels = h.channels; colorspace = colorspace }

-- sums saturate at 2^64-1
abbrev pub saturated : ℕ → ℕ
saturated n = min n (2 ^ 64 - 1)

-- the bytes of the pixels
abbrev pub pixel_bytes : Header → ℕ
pixel_bytes h = saturated (pixel_count h * channels_number h.channels)

-- room required is 22 + pixels x (channels+1)
abbrev pub encoded_room : ℕ → ℕ → ℕ → ℕ
encoded_room width height channels = saturated (22 + width * height * (channels + 1))
