-- `decode::decode` meets its contract: the header's answer and the channels' lead to the cases of the definition.
use Rattle.std.proofs.Common.{rules}
use Rattle.rules.specs.Reading.{whole_reading, after_header, after_wanted}
use Rattle.decode.proofs.decode.Goals as goal

pub returns-in_err-header : goal.returns-in_err-header
unfolding whole_reading after_header
returns-in_err-header c = search rules

pub returns-in_err-channels : goal.returns-in_err-channels
unfolding whole_reading after_header after_wanted
returns-in_err-channels c = search rules

pub returns : goal.returns
unfolding whole_reading after_header after_wanted
returns c = search rules
