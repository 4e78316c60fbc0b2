-- `decode::decode_to_buf` meets its contract: the header's channels are the wanted ones.
use Rattle.std.proofs.Common.{rules}
use Rattle.header.proofs.Laws.{channels_read_back}
use Rattle.rules.specs.Reading.{whole_reading, after_header, after_wanted}
use Rattle.decode.proofs.decode_to_buf.Goals as goal

pub returns-in_err-with_channels : goal.returns-in_err-with_channels
unfolding whole_reading after_header after_wanted
returns-in_err-with_channels c = search (rules, channels_read_back c.in_ok-header.header.channels)

pub returns : goal.returns
unfolding whole_reading after_header after_wanted
returns c = search (rules, channels_read_back c.in_ok-header.header.channels)
