-- `encode::write_stream` meets its contract: header, chunks and marker stand one after another.
-- Assumes nothing.
use native.Mathlib.Omega.{arith}
use Rattle.encode.proofs.Framing.{header_fits, chunks_fit, marker_fits, framed}
use Rattle.encode.proofs.write_stream.Goals as goal

pub bytes-start-requires : goal.bytes-start-requires
bytes-start-requires c = (omega arith, header_fits _ _ _ c.requires c.encode.ensures)

pub write_chunks-end-requires : goal.write_chunks-end-requires
write_chunks-end-requires c = chunks_fit _ _ _ c.requires c.encode.ensures c.bytes-start.ensures

pub bytes-requires : goal.bytes-requires
bytes-requires c = (omega arith, marker_fits _ _ _ c.requires c.encode.ensures c.bytes-start.ensures c.write_chunks-end.ensures)

pub returns : goal.returns
returns c = framed _ _ _ c.requires c.encode.ensures c.bytes-start.ensures c.write_chunks-end.ensures c.bytes.ensures
