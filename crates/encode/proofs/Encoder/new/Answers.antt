-- `encode::Encoder::new` meets its contract: it refuses dimensions, then a length, then a channel number, and else has
-- the header of all three.
-- Assumes nothing.
use Rattle.std.proofs.Common.{rules}
use Rattle.header.specs.Header.{header_from}
use Rattle.rules.specs.Encode.{picture_header, after_dimensions, after_length}
use Rattle.encode.proofs.Encoder.new.Goals as goal

pub returns-in_err-header : goal.returns-in_err-header
unfolding picture_header after_dimensions
returns-in_err-header c = search rules

pub nonzero_rem-size : goal.nonzero_rem-size
unfolding header_from
nonzero_rem-size c = search rules

pub returns-then-size-count-ne0 : goal.returns-then-size-count-ne0
unfolding picture_header after_dimensions header_from
returns-then-size-count-ne0 c = search rules

pub nonzero_div-size : goal.nonzero_div-size
unfolding header_from
nonzero_div-size c = search rules

pub returns-in_err-channels : goal.returns-in_err-channels
unfolding picture_header after_dimensions after_length header_from
returns-in_err-channels c = search rules

pub returns : goal.returns
unfolding picture_header after_dimensions after_length header_from
returns c = search rules
