-- `resume::read_record::pixel_of` meets its contract: a pixel is its first four bytes.
-- Assumes nothing.
use Rattle.std.proofs.Common.{rules}
use Rattle.pixel.specs.Bytes.{pixel_from}
use Rattle.resume.proofs.read_record.pixel_of.Goals as goal

pub returns : goal.returns
unfolding pixel_from
returns c = search rules
