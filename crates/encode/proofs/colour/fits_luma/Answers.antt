-- `encode::colour::fits_luma` meets its contract: it tests the three ranges.
-- Assumes nothing.
use Rattle.std.proofs.Common.{rules}
use Rattle.rules.specs.Encode.{fits_luma}
use Rattle.encode.proofs.Colours.{range_is}
use Rattle.encode.proofs.colour.fits_luma.Goals as goal

pub returns-then-holds-2 : goal.returns-then-holds-2
unfolding fits_luma
returns-then-holds-2 c = search (rules, range_is)

pub returns-else-holds-2 : goal.returns-else-holds-2
unfolding fits_luma
returns-else-holds-2 c = search (rules, range_is)
