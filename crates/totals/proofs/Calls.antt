-- One call, by the way that it goes: what it answers and leaves of the table, and what stands in the frame's buffer.
-- Assumes nothing.
use Rattle.std.specs.Prelude.{Ok, Err, None, Some}
use mathlib.Core.List.{List}
use mathlib.Core.Path.{◌≡◌, ap}
use Prim.Native.Nat.{ℕ, ◌≤◌, ◌<◌}
use native.Mathlib.Omega.{arith}
use borrow.Author.Tests.{lt-ltb, le-ltb, eq-eqb, ne_eqb}
use lib.ListN.{length, get_or}
use Rattle.pixel.specs.declared.error.Error.{Error}
use Rattle.pixel.specs.declared.error.Error.TheVariants.{InvalidHour, TotalTooLarge}
use Rattle.rules.specs.Bytes.{written_over}
use Rattle.rules.specs.Decode.{decoding}
use Rattle.totals.specs.declared.Counted.TheVariants.{Done, Already}
use Rattle.totals.specs.Counting.{hours_of_month, Table, Frame, cells, unread, frame_of, fitting, cells_of, first_past, Outcome, unchanged, with_frame, counting_frame, counting, frame_after}
use Rattle.totals.specs.Framing.{sums, read_as}
use Rattle.totals.proofs.Frames.{Stands}

module _ (t : Table) (hour : ℕ) (message before : List ℕ) where
  -- an answer with the table after it, and the buffer after it
  abbrev Leaves : Outcome → List ℕ → Type 0
  Leaves outcome after =
      (counting t (record { hour = hour; message = message; room = length before }) ≡ outcome)
      × (frame_after t hour message before ≡ after)

  -- an hour above 743
  pub above : 743 < hour → Leaves (unchanged t (Err (InvalidHour hour))) before
  unfolding counting frame_after hours_of_month
  above h = let high = le-ltb hour 744 (omega arith) in (rw high, rw high)

  -- a marked hour
  pub marked : hour ≤ 743 → (get_or t.marks hour 0 ≡ 0 → ⊥) → Leaves (unchanged t (Ok Already)) before
  unfolding counting frame_after hours_of_month
  marked h there =
      let low = lt-ltb hour 744 (omega arith) in
      let is = ne_eqb (get_or t.marks hour 0) 0 there in
      (rw (low, is), rw (low, is))

  -- any other: the frame decides
  pub unmarked :
      hour ≤ 743 → get_or t.marks hour 0 ≡ 0
      → Leaves (counting_frame t hour (fitting (length t.totals) (frame_of message (length before))))
      (written_over (decoding message 4 (length before)).bytes before)
  unfolding counting frame_after hours_of_month
  unmarked h there =
      let low = lt-ltb hour 744 (omega arith) in
      let is = eq-eqb (get_or t.marks hour 0) 0 there in
      (rw (low, is), rw (low, is))

module _ (t : Table) (hour : ℕ) (frame : Frame) where
  -- a frame that is not read
  pub counts_unread : (e : Error) → read_as frame ≡ Err e → counting_frame t hour frame ≡ unchanged t (Err e)
  unfolding counting_frame
  counts_unread e is = go frame is
    where
      go : (f : Frame) → read_as f ≡ Err e → counting_frame t hour f ≡ unchanged t (Err e)
      go (unread e') is = let same : e' ≡ e = cc in ap (λ (x : Error). unchanged t (Err x)) same
      go (cells used rain) is = absurd (let z : ◌≡◌ {A = ℕ} 0 1 = cc in omega arith)

  -- one that stands in a buffer, with a total that would pass 2^64-1
  pub counts_past :
      (used cell : ℕ) (buffer : List ℕ) → Stands (length t.totals) used frame buffer
      → first_past (sums t.totals buffer) ≡ Some cell
      → counting_frame t hour frame ≡ unchanged t (Err (TotalTooLarge cell))
  unfolding counting_frame
  counts_past used cell buffer there past = rw (there.is, past)

  -- and with none
  pub counts_whole :
      (used : ℕ) (buffer : List ℕ) → Stands (length t.totals) used frame buffer
      → first_past (sums t.totals buffer) ≡ None
      → counting_frame t hour frame
      ≡ record { answer = Ok (Done used); table = with_frame t hour (cells_of (length t.totals) buffer) }
  unfolding counting_frame
  counts_whole used buffer there past = rw (there.is, past)
