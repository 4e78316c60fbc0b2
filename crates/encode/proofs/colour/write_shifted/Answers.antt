-- `encode::colour::write_shifted` meets its contract: each arm writes the bytes of the chunk that its tests choose.
-- Assumes nothing.
use Rattle.std.proofs.Common.{rules}
use mathlib.Core.List.{[], ◌∷◌}
use Prim.Native.Nat.{◌+◌, ◌*◌}
use native.Mathlib.Omega.{arith}
use Rattle.pixel.specs.Packed.{unpacked}
use Rattle.rules.specs.Encode.{diff_chunk, luma_chunk, chunk_bytes}
use Rattle.rules.proofs.PastingLaws.{pasted_next}
use Rattle.encode.proofs.Colours.{diff_small, luma_small}
use Rattle.encode.proofs.colour.write_shifted.Goals as goal

pub overflow_mul-byte : goal.overflow_mul-byte
overflow_mul-byte c =
    let small = diff_small c.args.r c.args.g c.args.b (omega arith) (omega arith) (omega arith) c.fits_diff.ensures c.if-fits_diff.true in
    record { fits = omega arith }

pub overflow_add-byte : goal.overflow_add-byte
overflow_add-byte c =
    let small = diff_small c.args.r c.args.g c.args.b (omega arith) (omega arith) (omega arith) c.fits_diff.ensures c.if-fits_diff.true in
    record { fits = omega arith }

pub overflow_mul-byte-then-fits_diff : goal.overflow_mul-byte-then-fits_diff
overflow_mul-byte-then-fits_diff c =
    let small = diff_small c.args.r c.args.g c.args.b (omega arith) (omega arith) (omega arith) c.fits_diff.ensures c.if-fits_diff.true in
    record { fits = omega arith }

pub overflow_add-byte-then-fits_diff : goal.overflow_add-byte-then-fits_diff
overflow_add-byte-then-fits_diff c =
    let small = diff_small c.args.r c.args.g c.args.b (omega arith) (omega arith) (omega arith) c.fits_diff.ensures c.if-fits_diff.true in
    record { fits = omega arith }

pub overflow_add-byte-then-fits_diff-2 : goal.overflow_add-byte-then-fits_diff-2
overflow_add-byte-then-fits_diff-2 c =
    let small = diff_small c.args.r c.args.g c.args.b (omega arith) (omega arith) (omega arith) c.fits_diff.ensures c.if-fits_diff.true in
    record { fits = omega arith }

pub overflow_mul-others : goal.overflow_mul-others
overflow_mul-others c =
    let small = luma_small c.args.r c.args.g c.args.b (omega arith) (omega arith) (omega arith) c.fits_luma.ensures c.if-fits_luma.true in
    record { fits = omega arith }

pub overflow_add-others : goal.overflow_add-others
overflow_add-others c =
    let small = luma_small c.args.r c.args.g c.args.b (omega arith) (omega arith) (omega arith) c.fits_luma.ensures c.if-fits_luma.true in
    record { fits = omega arith }

pub overflow_add-first : goal.overflow_add-first
overflow_add-first c =
    let small = luma_small c.args.r c.args.g c.args.b (omega arith) (omega arith) (omega arith) c.fits_luma.ensures c.if-fits_luma.true in
    record { fits = omega arith }

pub bytes-requires : goal.bytes-requires
unfolding diff_chunk chunk_bytes
bytes-requires c = search rules

pub returns-then-fits_diff : goal.returns-then-fits_diff
unfolding diff_chunk chunk_bytes
returns-then-fits_diff c = search rules

pub bytes-next-requires : goal.bytes-next-requires
unfolding luma_chunk chunk_bytes
bytes-next-requires c = search rules

pub bytes-requires-then-fits_luma : goal.bytes-requires-then-fits_luma
unfolding luma_chunk chunk_bytes
bytes-requires-then-fits_luma c = search rules

pub returns-then-fits_luma : goal.returns-then-fits_luma
unfolding luma_chunk chunk_bytes
returns-then-fits_luma c =
    let first = 128 + c.wrapped_sum-first.result in
    let others = c.wrapped_sum-then-fits_luma.result * 16 + c.wrapped_sum-then-fits_luma-2.result in
    let both = pasted_next c.args.out.now c.args.at (first ∷ []) (others ∷ []) (search rules) in
    search rules

pub bytes-requires-2 : goal.bytes-requires-2
unfolding chunk_bytes unpacked
bytes-requires-2 c = search rules

pub returns : goal.returns
unfolding chunk_bytes unpacked
returns c = search rules
