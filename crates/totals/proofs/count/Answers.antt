-- `totals::count` meets its contract: 19, counted already, the frame's refusals, 21, and else the sums and the mark.
use Rattle.std.proofs.Common.{rules}
use Rattle.std.specs.Prelude.{Ok}
use mathlib.Core.List.{List}
use mathlib.Core.Path.{◌≡◌, sym, ◌∙◌, subst}
use Prim.Native.Nat.{ℕ, ◌≤◌}
use native.Mathlib.Omega.{arith}
use lib.ListN.{length, get_or}
use Rattle.rules.specs.Bytes.{written_over}
use Rattle.rules.specs.Decode.{decoding}
use Rattle.totals.specs.Counting.{Table, Frame, frame_of, fitting, counting_frame, counting, frame_after}
use Rattle.totals.specs.Framing.{read_as}
use Rattle.totals.proofs.Frames.{Stands, stands}
use Rattle.totals.proofs.Calls.{above, marked, unmarked, counts_unread, counts_past, counts_whole}
use Rattle.totals.proofs.count.Goals as goal

-- what is handed in to a call that reads its frame, and the buffer that it reads it into
module _ (totals marks : List ℕ) (hour : ℕ) (message before buffer : List ℕ) where
  abbrev table : Table
  table = record { totals = totals; marks = marks }

  abbrev frame : Frame
  frame = fitting (length totals) (frame_of message (length before))

  -- the frame decides; the buffer is as the decode leaves it
  decides :
      hour ≤ 743 → get_or marks hour 0 ≡ 0 → buffer ≡ written_over (decoding message 4 (length before)).bytes before
      → (counting table (record { hour = hour; message = message; room = length before }) ≡ counting_frame table hour frame)
      × (frame_after table hour message before ≡ buffer)
  decides low fresh as_left =
      let leaves = unmarked table hour message before low fresh in
      (leaves.0, leaves.1 ∙ sym as_left)

  -- a frame that was read stands in the buffer
  there :
      (used : ℕ) → buffer ≡ written_over (decoding message 4 (length before)).bytes before → read_as frame ≡ Ok used
      → Stands (length totals) used frame buffer
  there used as_left is =
      subst (Stands (length totals) used frame) (sym as_left) (stands message before (length totals) used is)

pub returns-then-hour : goal.returns-then-hour
returns-then-hour c =
    let a = c.args in
    let leaves = above (record { totals = a.totals.now; marks = a.marks.now }) a.hour a.message.now a.frame.now (omega arith) in
    (sym leaves.0, sym leaves.1)

pub returns-then-marks-place-ne0 : goal.returns-then-marks-place-ne0
returns-then-marks-place-ne0 c =
    let a = c.args in
    let leaves = marked (record { totals = a.totals.now; marks = a.marks.now }) a.hour a.message.now a.frame.now (omega arith) c.if-marks-place-ne0.true in
    (sym leaves.0, sym leaves.1)

pub returns-in_err-used : goal.returns-in_err-used
returns-in_err-used c =
    let refuses = sym c.read_frame.ensures.0 ∙ c.in_err-used.was in
    let d = decides c.args.totals.now c.args.marks.now c.args.hour c.args.message.now c.args.frame.now c.read_frame.new.frame (omega arith) c.if-marks-place-ne0.false c.read_frame.ensures.1 in
    let goes = d.0 ∙ counts_unread (table c.args.totals.now c.args.marks.now c.args.hour c.args.message.now c.args.frame.now c.read_frame.new.frame) c.args.hour (frame c.args.totals.now c.args.marks.now c.args.hour c.args.message.now c.args.frame.now c.read_frame.new.frame) _ refuses in
    rw (goes, d.1) (search rules)

pub first_past-requires : goal.first_past-requires
first_past-requires c = (there c.args.totals.now c.args.marks.now c.args.hour c.args.message.now c.args.frame.now c.read_frame.new.frame _ c.read_frame.ensures.1 (sym c.read_frame.ensures.0 ∙ c.in_ok-used.was)).whole

pub add-requires-clause-totals_in_bounds : goal.add-requires-clause-totals_in_bounds
add-requires-clause-totals_in_bounds c = (there c.args.totals.now c.args.marks.now c.args.hour c.args.message.now c.args.frame.now c.read_frame.new.frame _ c.read_frame.ensures.1 (sym c.read_frame.ensures.0 ∙ c.in_ok-used.was)).whole

pub returns-in-Some : goal.returns-in-Some
returns-in-Some c =
    let past = sym c.first_past.ensures ∙ c.in-Some.is in
    let d = decides c.args.totals.now c.args.marks.now c.args.hour c.args.message.now c.args.frame.now c.read_frame.new.frame (omega arith) c.if-marks-place-ne0.false c.read_frame.ensures.1 in
    let stands = there c.args.totals.now c.args.marks.now c.args.hour c.args.message.now c.args.frame.now c.read_frame.new.frame _ c.read_frame.ensures.1 (sym c.read_frame.ensures.0 ∙ c.in_ok-used.was) in
    (sym (d.0 ∙ counts_past (table c.args.totals.now c.args.marks.now c.args.hour c.args.message.now c.args.frame.now c.read_frame.new.frame) c.args.hour (frame c.args.totals.now c.args.marks.now c.args.hour c.args.message.now c.args.frame.now c.read_frame.new.frame) _ _ c.read_frame.new.frame stands past), sym d.1)

pub returns : goal.returns
returns c =
    let d = decides c.args.totals.now c.args.marks.now c.args.hour c.args.message.now c.args.frame.now c.read_frame.new.frame (omega arith) c.if-marks-place-ne0.false c.read_frame.ensures.1 in
    let stands = there c.args.totals.now c.args.marks.now c.args.hour c.args.message.now c.args.frame.now c.read_frame.new.frame _ c.read_frame.ensures.1 (sym c.read_frame.ensures.0 ∙ c.in_ok-used.was) in
    let whole = counts_whole (table c.args.totals.now c.args.marks.now c.args.hour c.args.message.now c.args.frame.now c.read_frame.new.frame) c.args.hour (frame c.args.totals.now c.args.marks.now c.args.hour c.args.message.now c.args.frame.now c.read_frame.new.frame) _ c.read_frame.new.frame stands (sym c.first_past.ensures ∙ c.in_default.is) in
    (rw c.add.ensures (sym (d.0 ∙ whole)), sym d.1)
