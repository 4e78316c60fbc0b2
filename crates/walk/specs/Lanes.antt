-- A pixel in two lanes: red and blue in one number, 16 bits apart, green and alpha in another.
use Rattle.std.specs.Prelude.{◌/◌, ◌%◌}
use Rattle.pixel.specs.declared.Pixel.{Pixel}
use Rattle.pixel.specs.Colour.{pixel_of}
use Rattle.walk.specs.declared.lanes.Lanes.{Lanes}

-- the pixel that two lanes are
unfoldable pub pixel_in : Lanes → Pixel
pixel_in l = pixel_of (l.even % 65536) (l.odd % 65536) (l.even / 65536) (l.odd / 65536)
