-- `resume::start::fresh` meets its contract: it is made of the start pixel, 64 clear slots and every pixel.
-- Assumes nothing.
use Rattle.std.proofs.Common.{rules}
use Rattle.rules.specs.Reading.{start_place}
use Rattle.resume.proofs.start.fresh.Goals as goal

pub returns : goal.returns
unfolding start_place
returns c = search rules
