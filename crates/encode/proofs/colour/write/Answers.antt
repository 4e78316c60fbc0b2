-- `encode::colour::write` meets its contract: RGBA where alpha changed, else the chunk is chosen by the differences.
-- Assumes nothing.
use Rattle.std.proofs.Common.{rules}
use Rattle.pixel.specs.Packed.{unpacked}
use Rattle.rules.specs.Encode.{colour_chunk, chunk_bytes}
use Rattle.encode.proofs.colour.write.Goals as goal

pub bytes-requires : goal.bytes-requires
unfolding unpacked colour_chunk chunk_bytes
bytes-requires c = search rules

pub returns-then-a-alpha : goal.returns-then-a-alpha
unfolding unpacked colour_chunk chunk_bytes
returns-then-a-alpha c = search rules

pub write_shifted-requires : goal.write_shifted-requires
unfolding unpacked colour_chunk
write_shifted-requires c = search rules

pub returns : goal.returns
unfolding unpacked colour_chunk
returns c = search rules
