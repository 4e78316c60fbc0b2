-- `chunk::read` meets its contract: each arm is a row of the table.
-- Assumes nothing.
use mathlib.Core.Path.{sym}
use mathlib.Core.Bool.{Bool}
use mathlib.Core.List.{◌∷◌}
use native.Mathlib.Omega.{arith}
use Rattle.pixel.specs.declared.types.Channels.{Channels}
use Rattle.pixel.specs.Types.{channels_number}
use Rattle.rules.specs.Decode.{decoder_reads_rgba}
use Rattle.rules.proofs.ChunkLaws.{no_row, index_row, diff_row, luma_row, luma_cut, run_row, rgb_row, rgb_cut, rgba_row, rgba_cut, stuck_row, stuck_cut}
use Rattle.chunk.proofs.read.Goals as goal

-- whether ff is an RGBA chunk in a source of these channels
abbrev reads_rgba : Channels → Bool
reads_rgba source = decoder_reads_rgba (channels_number source)

pub returns-in_err-byte : goal.returns-in_err-byte
returns-in_err-byte c = rw (c.from_residual.ensures, no_row (reads_rgba c.args.source) c.args.part.now c.in_err-byte.ensures.cases)

pub returns-in-0-to-63 : goal.returns-in-0-to-63
returns-in-0-to-63 c =
    let part = c.in_ok-byte.field-0-0.now ∷ c.in_ok-byte.rest.now in
    rw c.in_ok-byte.ensures.cases.0 (sym (index_row (reads_rgba c.args.source) part (omega arith) (omega arith)))

pub returns-in-64-to-127 : goal.returns-in-64-to-127
returns-in-64-to-127 c =
    let part = c.in_ok-byte.field-0-0.now ∷ c.in_ok-byte.rest.now in
    rw c.in_ok-byte.ensures.cases.0 (sym (diff_row (reads_rgba c.args.source) part (omega arith) (omega arith) (omega arith)))

pub returns-in-len1-up : goal.returns-in-len1-up
returns-in-len1-up c =
    let part = c.in_ok-byte.field-0-0.now ∷ c.in_ok-byte.rest.now in
    rw c.in_ok-byte.ensures.cases.0 (sym (luma_row (reads_rgba c.args.source) part (omega arith) (omega arith) (omega arith)))

pub returns-in_default-rest : goal.returns-in_default-rest
returns-in_default-rest c =
    let part = c.in_ok-byte.field-0-0.now ∷ c.in_ok-byte.rest.now in
    rw c.in_ok-byte.ensures.cases.0 (sym (luma_cut (reads_rgba c.args.source) part (omega arith) (omega arith) (omega arith)))

pub returns-in-len3-up : goal.returns-in-len3-up
returns-in-len3-up c =
    let part = c.in_ok-byte.field-0-0.now ∷ c.in_ok-byte.rest.now in
    rw c.in_ok-byte.ensures.cases.0 (sym (rgb_row (reads_rgba c.args.source) part (omega arith) c.in-254.is))

pub returns-in_default : goal.returns-in_default
returns-in_default c =
    let part = c.in_ok-byte.field-0-0.now ∷ c.in_ok-byte.rest.now in
    rw c.in_ok-byte.ensures.cases.0 (sym (rgb_cut (reads_rgba c.args.source) part (omega arith) (omega arith) c.in-254.is))

pub returns-in-Rgba-len4-up : goal.returns-in-Rgba-len4-up
unfolding decoder_reads_rgba
returns-in-Rgba-len4-up c =
    let part = c.in_ok-byte.field-0-0.now ∷ c.in_ok-byte.rest.now in
    rw (c.in-Rgba-len4-up.is-0, c.in_ok-byte.ensures.cases.0) (sym (rgba_row part (omega arith) (omega arith)))

pub returns-in-Rgb-len7-up : goal.returns-in-Rgb-len7-up
unfolding decoder_reads_rgba
returns-in-Rgb-len7-up c =
    let part = c.in_ok-byte.field-0-0.now ∷ c.in_ok-byte.rest.now in
    rw (c.in-Rgb-len7-up.is-0, c.in_ok-byte.ensures.cases.0) (sym (stuck_row part (omega arith) (omega arith)))

pub returns-in_default-2 : goal.returns-in_default-2
unfolding decoder_reads_rgba
returns-in_default-2 c =
    let part = c.in_ok-byte.field-0-0.now ∷ c.in_ok-byte.rest.now in
    rw (c.in_default-2.is-0, c.in_ok-byte.ensures.cases.0) (sym (rgba_cut part (omega arith) (omega arith) (omega arith)))

pub returns-in_default-2-2 : goal.returns-in_default-2-2
unfolding decoder_reads_rgba
returns-in_default-2-2 c =
    let part = c.in_ok-byte.field-0-0.now ∷ c.in_ok-byte.rest.now in
    rw (c.in_default-2.is-0, c.in_ok-byte.ensures.cases.0) (sym (stuck_cut part (omega arith) (omega arith) (omega arith)))

pub returns-in-192-to-255 : goal.returns-in-192-to-255
returns-in-192-to-255 c =
    let part = c.in_ok-byte.field-0-0.now ∷ c.in_ok-byte.rest.now in
    let byte = rw c.in_ok-byte.ensures.cases.0 at c.type_inv.part 0 in
    rw c.in_ok-byte.ensures.cases.0 (sym (run_row (reads_rgba c.args.source) part (omega arith) (omega arith) (omega (arith, byte))))
