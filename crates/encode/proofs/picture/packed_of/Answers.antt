-- `encode::picture::packed_of` meets its contract: the fourth byte is the alpha, or it is 255.
-- Assumes nothing.
use Rattle.std.proofs.Common.{rules}
use Rattle.pixel.specs.Bytes.{pixel_from}
use Rattle.encode.proofs.picture.packed_of.Goals as goal
use Rattle.encode.proofs.picture.packed_of.Goals.{then-this-eq3, else-this-eq3}

pub returns : goal.returns
unfolding pixel_from
returns g c = elim c.if-this-eq3.branch [ then-this-eq3 w ↦ search rules | else-this-eq3 w ↦ search rules ]
