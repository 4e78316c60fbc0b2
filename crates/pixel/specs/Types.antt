-- Channel counts and colour spaces: the numbers that stand for them, and which numbers do.
use Rattle.std.specs.Prelude.{Bool, true, false, cond, ℕ, min, eqb, Result, Ok, Err}
use Rattle.pixel.specs.declared.error.Error.TheVariants.{InvalidChannels, InvalidColorSpace}
use Rattle.pixel.specs.declared.types.Channels.{Channels}
use Rattle.pixel.specs.declared.types.Channels.TheVariants.{Rgb, Rgba}
use Rattle.pixel.specs.declared.types.ColorSpace.{ColorSpace}
use Rattle.pixel.specs.declared.types.ColorSpace.TheVariants.{Srgb, Linear}
use Rattle.pixel.specs.declared.error.Error.{Error}

-- channels are 3 or 4
abbrev pub channels_number : Channels → ℕ
channels_number Rgb = 3
channels_number Rgba = 4

-- the colour space is 0, sRGB with linear alpha, or 1, linear
abbrev pub color_space_number : ColorSpace → ℕ
color_space_number Srgb = 0
color_space_number Linear = 1

-- whether there are three channels
abbrev pub is_rgb : Channels → Bool
is_rgb Rgb = true
is_rgb Rgba = false

-- whether the colour space is sRGB
abbrev pub is_srgb : ColorSpace → Bool
is_srgb Srgb = true
is_srgb Linear = false

-- other than 3 or 4 is refusal 2, which carries the number or 255 if larger
abbrev pub channels_from : ℕ → Result Channels Error
channels_from n =
    cond (eqb n 3) (Ok Rgb)
    (cond (eqb n 4) (Ok Rgba)
    (Err (InvalidChannels (min n 255))))

-- other than 0 or 1 is refusal 3, which carries the number or 255 if larger
abbrev pub color_space_from : ℕ → Result ColorSpace Error
color_space_from n =
    cond (eqb n 0) (Ok Srgb)
    (cond (eqb n 1) (Ok Linear)
    (Err (InvalidColorSpace (min n 255))))
