-- `encode::picture::write` meets its contract: at the loop's head what is written, followed by the chunks still to
-- come, is all that is to be written.
-- Assumes nothing.
use mathlib.Core.Path.{◌≡◌}
use mathlib.Core.List.{[]}
use Prim.Native.Nat.{ℕ, ◌<◌}
use lib.ListN.{length-map}
use native.Mathlib.Omega.{arith}
use Rattle.pixel.specs.Colour.{slot_of}
use Rattle.pixel.specs.Packed.{unpacked}
use Rattle.rules.proofs.ChunkLaws.{slot_small}
use Rattle.encode.specs.Asked.{ended_bytes}
use Rattle.encode.proofs.Loop.{first_fits, advance, ended_at, start_head, next_pixel, full_fits, after_full, after_longer, run_fits, index_fits, after_index, colour_fits, after_colour, last_run}
use Rattle.encode.proofs.picture.write.Goals as goal
use Rattle.encode.proofs.picture.write.Goals.{then-p-previous+then-run-eq62, then-p-previous+else-run-eq62, else-p-previous+then-slots-slot, else-p-previous+else-slots-slot}

-- a slot is one of 64
slot_low : (p : ℕ) {s : ℕ} → s ≡ slot_of (unpacked p) → s < 64
slot_low p is = rw (is) (slot_small (unpacked p))

pub loop-pixel-init : goal.loop-pixel-init
loop-pixel-init g c = start_head _ _ _ c.requires.1

pub end_run-at-requires : goal.end_run-at-requires
end_run-at-requires g c =
    let next = next_pixel g.row.CHANNELS _ c.args.pixels.now c.loop-pixel-test.true c.pixel-item.is c.packed_of-p.ensures in
    (omega arith, full_fits _ _ _ _ c.loop-pixel.invariant _ next c.if-p-previous.true c.if-run-eq62.true)

pub end_run-at-requires-else-p-previous : goal.end_run-at-requires-else-p-previous
end_run-at-requires-else-p-previous g c =
    let h = c.loop-pixel.invariant in
    let next = next_pixel g.row.CHANNELS _ c.args.pixels.now c.loop-pixel-test.true c.pixel-item.is c.packed_of-p.ensures in
    (omega (arith, h.short_run), run_fits _ _ _ _ h _ next c.packed_of-p.type_inv c.if-p-previous.false)

pub overflow_cast-single : goal.overflow_cast-single
overflow_cast-single g c = omega (arith, slot_low _ c.slot-slot.ensures)

pub offset_bounds-slots-slot : goal.offset_bounds-slots-slot
offset_bounds-slots-slot g c = record { fits = omega (arith, slot_low _ c.slot-slot.ensures) }

pub bounds-slots-slot : goal.bounds-slots-slot
bounds-slots-slot g c = slot_low _ c.slot-slot.ensures

pub offset_bounds-slots-slot-else-slots-slot : goal.offset_bounds-slots-slot-else-slots-slot
offset_bounds-slots-slot-else-slots-slot g c = record { fits = omega (arith, slot_low _ c.slot-slot.ensures) }

pub bounds-slots-slot-else-slots-slot : goal.bounds-slots-slot-else-slots-slot
bounds-slots-slot-else-slots-slot g c = slot_low _ c.slot-slot.ensures

pub bytes-at-requires : goal.bytes-at-requires
bytes-at-requires g c =
    let next = next_pixel g.row.CHANNELS _ c.args.pixels.now c.loop-pixel-test.true c.pixel-item.is c.packed_of-p.ensures in (
      omega arith,
      index_fits _ _ _ _ c.loop-pixel.invariant _ next c.packed_of-p.type_inv c.if-p-previous.false
          c.end_run-at-else-p-previous.ensures c.slot-slot.ensures c.if-slots-slot.true,
    )

pub write-at-requires : goal.write-at-requires
write-at-requires g c =
    let next = next_pixel g.row.CHANNELS _ c.args.pixels.now c.loop-pixel-test.true c.pixel-item.is c.packed_of-p.ensures in
    colour_fits _ _ _ _ c.loop-pixel.invariant _ next c.packed_of-p.type_inv c.if-p-previous.false
    c.end_run-at-else-p-previous.ensures c.slot-slot.ensures c.if-slots-slot.false

pub loop-pixel-preserved : goal.loop-pixel-preserved
loop-pixel-preserved g c =
    let h = c.loop-pixel.invariant in
    let next = next_pixel g.row.CHANNELS _ c.args.pixels.now c.loop-pixel-test.true c.pixel-item.is c.packed_of-p.ensures in
    let packed = c.packed_of-p.type_inv in
    elim c.if-p-previous.branch [
      | then-p-previous+then-run-eq62 w ↦
          rw (w.out-is, w.slots-is, w.previous-is, w.run-is, w.single-is, w.at-is)
          (after_full _ _ _ _ h _ next w.if-p-previous.true w.if-run-eq62.true w.end_run-at.ensures)
      | then-p-previous+else-run-eq62 w ↦
          rw (w.out-is, w.slots-is, w.previous-is, w.run-is, w.single-is, w.at-is)
          (after_longer _ _ _ _ h _ next w.if-p-previous.true w.if-run-eq62.false)
      | else-p-previous+then-slots-slot w ↦
          rw (w.out-is, w.slots-is, w.previous-is, w.run-is, w.single-is, w.at-is)
          (after_index _ _ _ _ h _ next packed w.if-p-previous.false w.end_run-at-else-p-previous.ensures w.slot-slot.ensures w.if-slots-slot.true w.bytes-at.ensures)
      | else-p-previous+else-slots-slot w ↦
          rw (w.out-is, w.slots-is, w.previous-is, w.run-is, w.single-is, w.at-is)
          (after_colour _ _ _ _ h _ next packed w.if-p-previous.false w.end_run-at-else-p-previous.ensures w.slot-slot.ensures w.if-slots-slot.false w.write-at.ensures)
    ]

pub end_run-requires : goal.end_run-requires
end_run-requires g c =
    let h = c.loop-pixel.invariant in
    (omega (arith, h.short_run), first_fits (ended_bytes _ 0xc0) [] (last_run _ _ _ _ h (rw (length-map) c.loop-pixel-test.false)))

pub returns : goal.returns
returns g c =
    ended_at
    (advance (ended_bytes _ 0xc0) [] (last_run _ _ _ _ c.loop-pixel.invariant (rw (length-map) c.loop-pixel-test.false)) _ _ c.end_run.ensures)
