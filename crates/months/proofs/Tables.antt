-- A table that adds up to frames, and one call: it then adds up to those frames and the call's, and the answer is the
-- one that they say.
-- Assumes nothing.
use Rattle.std.specs.Prelude.{Result, Ok, Err, Option, None, Some}
use mathlib.Core.Bool.{Bool, true, false, cond, not}
use mathlib.Core.List.{List}
use mathlib.Core.Path.{◌≡◌, refl, sym, ◌∙◌, ap, ap₂, fun_ext}
use Prim.Native.Nat.{ℕ, ◌+◌, ◌*◌, ◌^◌, ◌≤◌, ◌<◌}
use native.Mathlib.Decide.{ℕ_discrete}
use native.Mathlib.Omega.{arith}
use borrow.Author.Tests.{ltb-true, ltb-false, eq-eqb, ne_eqb}
use lib.Dec.{ltb, eqb, lit<}
use lib.ListN.{get_or, set, length-set, length-replicate, get_or-replicate}
use lib.Seq.{get_or-set_same, get_or-set_other, ext_get_or}
use Rattle.pixel.specs.declared.error.Error.TheVariants.{InvalidHour}
use Rattle.pixel.specs.declared.error.Error.{Error}
use Rattle.totals.specs.declared.Counted.{Counted}
use Rattle.totals.specs.declared.Counted.TheVariants.{Already}
use Rattle.totals.specs.Counting.{hours_of_month, Table, fresh, is_marked, Frame, cells, unread, fitting, frame_of, Call, Outcome, unchanged, added_to, first_past, with_frame, counting_frame, counting}
use Rattle.months.specs.Month.{rain_of, accepted, brings, earlier, mark_of, cell_in, answer_to, unless_counted, answer_after, sum_over, AddsUp}
use Rattle.totals.proofs.Sums.{added_length, added_at, none_past}
use Rattle.months.proofs.Sums.{sum_same, sum_more, sum_bound, sum_none, earlier_none}

-- a frame each of whose cells has 32 bits
abbrev pub Small : Option (List ℕ) → Type 0
Small rain = (i : ℕ) → cell_in i rain < 2 ^ 32

-- one more frame for an hour, after those that came first
abbrev pub and_then : (ℕ → Option (List ℕ)) → ℕ → Option (List ℕ) → ℕ → Option (List ℕ)
and_then first hour rain h = earlier (first h) (cond (eqb hour h) rain None)

-- a frame for another hour
and_other :
    (first : ℕ → Option (List ℕ)) (hour : ℕ) (rain : Option (List ℕ)) (h : ℕ) → (h ≡ hour → ⊥)
    → and_then first hour rain h ≡ first h
and_other first hour rain h apart = rw (ne_eqb hour h (λ e. apart (sym e))) (earlier_none (first h))

-- a frame for this hour
and_this :
    (first : ℕ → Option (List ℕ)) (hour : ℕ) (rain : Option (List ℕ))
    → and_then first hour rain hour ≡ earlier (first hour) rain
and_this first hour rain = rw (eq-eqb hour hour refl)

-- a frame that does not come first for its hour adds none
and_late :
    (first : ℕ → Option (List ℕ)) (hour : ℕ) (rain : Option (List ℕ)) → earlier (first hour) rain ≡ first hour
    → (h : ℕ) → first h ≡ and_then first hour rain h
and_late first hour rain late h = go (ℕ_discrete h hour)
  where
    go : Dec (h ≡ hour) → first h ≡ and_then first hour rain h
    go (yes e) = rw e (sym (and_this first hour rain ∙ late))
    go (no apart) = sym (and_other first hour rain h apart)

-- the mark says whether the hour has a frame
pub marked_is :
    (n : ℕ) (first : ℕ → Option (List ℕ)) (t : Table) → AddsUp n first t → (hour : ℕ) → hour < hours_of_month
    → is_marked t hour ≡ not (eqb (mark_of (first hour)) 0)
marked_is n first t a hour below = ap (λ (mark : ℕ). not (eqb mark 0)) (a.marks_are hour below)

-- a table that adds up, and a frame for an hour
module _ (n : ℕ) (first : ℕ → Option (List ℕ)) (t : Table) (a : AddsUp n first t) (hour : ℕ) where
  -- one that does not come first
  adds_late : (rain : Option (List ℕ)) → earlier (first hour) rain ≡ first hour → AddsUp n (and_then first hour rain) t
  adds_late rain late = rw (← fun_ext (and_late first hour rain late)) a

  -- an hour above is none of the month's
  adds_above : (rain : Option (List ℕ)) → hours_of_month ≤ hour → AddsUp n (and_then first hour rain) t
  adds_above rain above =
      record {
        cells_are = a.cells_are;
        hours_are = a.hours_are;
        marks_are = λ h below. a.marks_are h below ∙ ap mark_of (sym (other h below));
        totals_are =
            λ i fits.
            a.totals_are i fits
            ∙ sym
            (sum_same hours_of_month (λ h. cell_in i (first h)) (λ h. cell_in i (and_then first hour rain h))
            (λ h below. ap (cell_in i) (other h below)));
      }
    where
      other : (h : ℕ) → h < hours_of_month → and_then first hour rain h ≡ first h
      other h below = and_other first hour rain h (λ (e : h ≡ hour). omega arith)

  module _ (rain : List ℕ) (below : hour < hours_of_month) (nothing_yet : first hour ≡ None) where
    now_this : and_then first hour (Some rain) hour ≡ Some rain
    now_this = and_this first hour (Some rain) ∙ ap (λ (o : Option (List ℕ)). earlier o (Some rain)) nothing_yet

    -- each total grows by its cell
    grown :
        (i : ℕ) → i < n
        → get_or (added_to t.totals rain) i 0 ≡ sum_over hours_of_month (λ h. cell_in i (and_then first hour (Some rain) h))
    grown i fits =
        added_at t.totals rain i (omega (arith, a.cells_are))
        ∙ ap (λ (s : ℕ). s + get_or rain i 0) (a.totals_are i fits)
        ∙ sym
        (sum_more hours_of_month hour (get_or rain i 0) (λ h. cell_in i (first h))
        (λ h. cell_in i (and_then first hour (Some rain) h))
        below (ap (cell_in i) nothing_yet) (ap (cell_in i) now_this)
        (λ h apart. ap (cell_in i) (and_other first hour (Some rain) h apart)))

    -- the frame added and the hour marked
    adds_one : AddsUp n (and_then first hour (Some rain)) (with_frame t hour rain)
    adds_one =
        record {
          cells_are = added_length t.totals rain ∙ a.cells_are;
          hours_are = length-set t.marks hour 1 ∙ a.hours_are;
          marks_are = λ h less. go h less (ℕ_discrete h hour);
          totals_are = grown;
        }
      where
        go :
            (h : ℕ) → h < hours_of_month → Dec (h ≡ hour)
            → get_or (set t.marks hour 1) h 0 ≡ mark_of (and_then first hour (Some rain) h)
        go h less (yes e) =
            rw e (get_or-set_same t.marks hour 1 0 (rw a.hours_are below) ∙ sym (ap mark_of now_this))
        go h less (no apart) =
            get_or-set_other t.marks hour h 1 0 apart
            ∙ a.marks_are h less
            ∙ sym (ap mark_of (and_other first hour (Some rain) h apart))

-- a table that adds up to small frames
pub record Right (n : ℕ) (first : ℕ → Option (List ℕ)) (t : Table) : Type 0 where
  pub adds_up : AddsUp n first t
  pub small : (h : ℕ) → Small (first h)

-- the hours of a month at 2^32-1 each do not pass 64 bits
month_fits : hours_of_month * 4294967295 < 2 ^ 64
unfolding hours_of_month
month_fits = lit< tt

-- an outcome whose table adds up, and which has this answer
record Well (n : ℕ) (first : ℕ → Option (List ℕ)) (answer : Result Counted Error) (o : Outcome) : Type 0 where
  adds : AddsUp n first o.table
  answers : o.answer ≡ answer

module _ (n : ℕ) (first : ℕ → Option (List ℕ)) (t : Table) (right : Right n first t) where
  a : AddsUp n first t
  a = right.adds_up

  -- the frames with one more are small
  small_and : (hour : ℕ) (rain : Option (List ℕ)) → Small rain → (h : ℕ) → Small (and_then first hour rain h)
  small_and hour rain fine h = go (first h) (right.small h) (eqb hour h)
    where
      go : (o : Option (List ℕ)) → Small o → (b : Bool) → Small (earlier o (cond b rain None))
      go None less true = fine
      go None less false = less
      go (Some x) less b = less

  module _ (hour : ℕ) (below : hour < hours_of_month) (nothing_yet : first hour ≡ None) where
    -- no total passes 64 bits
    fits : (rain : List ℕ) → Small (Some rain) → first_past (added_to t.totals rain) ≡ None
    fits rain fine =
        none_past (added_to t.totals rain)
        (λ i less.
        let cell : ℕ → ℕ = λ h. cell_in i (and_then first hour (Some rain) h) in
        let one_of_them : i < n = omega (arith, added_length t.totals rain, a.cells_are) in
        rw (grown n first t a hour rain below nothing_yet i one_of_them)
        (omega (arith, month_fits, sum_bound hours_of_month cell (λ h. small_and hour (Some rain) fine h i))))

    -- a frame for an hour that has none
    well_frame :
        (frame : Frame) → Small (rain_of frame)
        → Well n (and_then first hour (rain_of frame)) (answer_to frame) (counting_frame t hour frame)
    unfolding counting_frame
    well_frame (unread e) fine =
        record { adds = adds_late n first t a hour None (earlier_none (first hour)); answers = refl }
    well_frame (cells used rain) fine =
        rw (fits rain fine) (record { adds = adds_one n first t a hour rain below nothing_yet; answers = refl })

  -- any call
  well_call :
      (c : Call) → Small (brings n c)
      → Well n (and_then first c.hour (brings n c)) (answer_after n first c) (counting t c)
  unfolding counting answer_after accepted
  well_call c fine = rw a.cells_are (go (ltb c.hour hours_of_month) refl (first c.hour) refl)
    where
      frame : Frame
      frame = fitting n (frame_of c.message c.room)

      go :
          (below : Bool) → ltb c.hour hours_of_month ≡ below → (o : Option (List ℕ)) → first c.hour ≡ o
          → Well n (and_then first c.hour (rain_of frame))
          (cond below (unless_counted o (answer_to frame)) (Err (InvalidHour c.hour)))
          (cond below (cond (is_marked t c.hour) (unchanged t (Ok Already)) (counting_frame t c.hour frame))
          (unchanged t (Err (InvalidHour c.hour))))
      go true is None nothing_yet =
          let below = ltb-true c.hour hours_of_month is in
          rw (marked_is n first t a c.hour below, nothing_yet) (well_frame c.hour below nothing_yet frame fine)
      go true is (Some rain) has =
          let below = ltb-true c.hour hours_of_month is in
          rw (marked_is n first t a c.hour below, has)
          (record { adds = adds_late n first t a c.hour (rain_of frame) (rw has); answers = refl })
      go false is o any =
          let above = ltb-false c.hour hours_of_month is in
          record { adds = adds_above n first t a c.hour (rain_of frame) above; answers = refl }

  -- after it the table is right again
  pub call_right :
      (c : Call) → Small (brings n c)
      → Right n (and_then first c.hour (brings n c)) (counting t c).table
  call_right c fine =
      record {
        adds_up = (well_call c fine).adds;
        small = small_and c.hour (brings n c) fine;
      }

  -- and the answer is the one that the frames say
  pub call_answers :
      (c : Call) → Small (brings n c) → (counting t c).answer ≡ answer_after n first c
  call_answers c fine = (well_call c fine).answers

-- right by some frames is right by the same frames
pub right_same :
    (n : ℕ) (f g : ℕ → Option (List ℕ)) (t : Table) → ((h : ℕ) → f h ≡ g h) → Right n f t → Right n g t
right_same n f g t same right = rw (← fun_ext same) right

-- a fresh table adds up to no frame
pub fresh_right : (n : ℕ) → Right n (λ h. None) (fresh n)
unfolding fresh
fresh_right n =
    record {
      adds_up =
          record {
            cells_are = length-replicate n 0;
            hours_are = length-replicate hours_of_month 0;
            marks_are = λ h below. get_or-replicate hours_of_month h 0 0 below;
            totals_are = λ i less. get_or-replicate n i 0 0 less ∙ sym (sum_none hours_of_month);
          };
      small = λ h i. lit< tt;
    }

-- frames determine the table that adds up to them
pub same_table : (n : ℕ) (first : ℕ → Option (List ℕ)) (t u : Table) → AddsUp n first t → AddsUp n first u → t ≡ u
same_table n first t u a b =
    let totals : t.totals ≡ u.totals =
    ext_get_or 0 t.totals u.totals (a.cells_are ∙ sym b.cells_are)
    (λ i less. let fits : i < n = omega (arith, a.cells_are) in a.totals_are i fits ∙ sym (b.totals_are i fits)) in
    let marks : t.marks ≡ u.marks =
    ext_get_or 0 t.marks u.marks (a.hours_are ∙ sym b.hours_are)
    (λ h less.
    let below : h < hours_of_month = omega (arith, a.hours_are) in
    a.marks_are h below ∙ sym (b.marks_are h below)) in
    ap₂ (λ (x y : List ℕ). record { totals = x; marks = y }) totals marks
