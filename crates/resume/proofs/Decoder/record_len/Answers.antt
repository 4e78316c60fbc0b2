-- `resume::Decoder::record_len` meets its contract: fourteen bytes, four numbers, and four bytes for each of 65
-- pixels.
-- Assumes nothing.
use Prim.Native.Nat.{◌*◌}
use mathlib.Core.Path.{◌≡◌}
use native.Mathlib.Omega.{arith}
use lib.ListN.{length}
use Rattle.rules.proofs.RecordLaws.{pixels_length}
use Rattle.rules.specs.Record.{pixels_bytes}
use Rattle.resume.specs.State.{state_of}
use Rattle.resume.proofs.Owned.{typed}
use Rattle.resume.proofs.Parts.{record_parts}
use Rattle.resume.proofs.Decoder.record_len.Goals as goal

pub returns : goal.returns
returns c =
    let d = c.args.self in
    let is = typed d _ c.well_formed.0 in
    let many : length (pixels_bytes d.slots) ≡ 4 * length d.slots = pixels_length d.slots (λ i h. is.slot_is i (omega (arith, is.slots_are))) in
    omega (arith, record_parts (state_of d), c.len.ensures, c.len-2.ensures, c.len-3.ensures, c.len-4.ensures, many, is.current_is, is.slots_are)
