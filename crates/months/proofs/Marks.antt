-- Marks, of any table: what is not counted changes nothing, a marked hour is counted already, and no hour is counted
-- twice. Of a fresh table: an hour is marked exactly if some call for it was counted.
-- Assumes nothing.
use Rattle.std.specs.Prelude.{Result, Ok, Err, Option, None, Some}
use mathlib.Core.Bool.{Bool, true, false, cond}
use mathlib.Core.List.{List, [], ◌∷◌, ◌++◌}
use mathlib.Core.Logic.{◌↔◌, ◌⊎◌, inl, inr}
use mathlib.Core.Path.{◌≡◌, refl, sym, ◌∙◌, ap, subst}
use Prim.Native.Nat.{ℕ, ◌<◌}
use native.Mathlib.Decide.{ℕ_discrete, dec_lt}
use native.Mathlib.Omega.{arith}
use borrow.Author.Tests.{lt-ltb, ltb-true}
use lib.Dec.{ltb}
use lib.ListN.{length, get_or, length-set, length-replicate, get_or-replicate, get_or-eq_default}
use lib.Seq.{get_or-set_same, get_or-set_other, set_out}
use Rattle.pixel.specs.declared.error.Error.TheVariants.{InvalidHour}
use Rattle.pixel.specs.declared.error.Error.{Error}
use Rattle.totals.specs.declared.Counted.{Counted}
use Rattle.totals.specs.declared.Counted.TheVariants.{Done, Already}
use Rattle.totals.specs.Counting.{hours_of_month, Table, fresh, is_marked, Frame, cells, unread, frame_of, fitting, Outcome, unchanged, with_frame, unless_past, added_to, first_past, counting_frame, Call, counting}
use Rattle.months.specs.Month.{month, CountedAmong}

-- every answer but that the frame was counted
abbrev NotDone : Result Counted Error → Type 0
NotDone (Ok (Done used)) = ⊥
NotDone (Ok Already) = Unit {0}
NotDone (Err e) = Unit {0}

-- an outcome of a call: nothing changes, or a frame is added and the call's hour marked
data Comes (t : Table) (c : Call) : Outcome → Type 0 where
  stays : (answer : Result Counted Error) → NotDone answer → Comes t c (unchanged t answer)
  counts :
      (used : ℕ) (rain : List ℕ) → c.hour < hours_of_month
      → Comes t c (record { answer = Ok (Done used); table = with_frame t c.hour rain })

-- every call has one
comes : (t : Table) (c : Call) → Comes t c (counting t c)
unfolding counting counting_frame
comes t c =
    hour_is (ltb c.hour hours_of_month) refl (is_marked t c.hour)
    (fitting (length t.totals) (frame_of c.message c.room))
  where
    sums :
        (used : ℕ) (rain : List ℕ) (past : Option ℕ) → c.hour < hours_of_month
        → Comes t c (unless_past t c.hour used rain past)
    sums used rain None below = counts used rain below
    sums used rain (Some cell) below = stays _ tt

    frame_is : (f : Frame) → c.hour < hours_of_month → Comes t c (counting_frame t c.hour f)
    frame_is (unread e) below = stays _ tt
    frame_is (cells used rain) below = sums used rain (first_past (added_to t.totals rain)) below

    hour_is :
        (below : Bool) → ltb c.hour hours_of_month ≡ below → (marked : Bool) (f : Frame)
        → Comes t c
        (cond below (cond marked (unchanged t (Ok Already)) (counting_frame t c.hour f))
        (unchanged t (Err (InvalidHour c.hour))))
    hour_is true is true f = stays _ tt
    hour_is true is false f = frame_is f (ltb-true c.hour hours_of_month is)
    hour_is false is marked f = stays _ tt

-- every answer but that the frame was counted leaves the table as it was
pub refused_unchanged :
    (t : Table) (c : Call) → ((used : ℕ) → (counting t c).answer ≡ Ok (Done used) → ⊥) → (counting t c).table ≡ t
refused_unchanged t c = go (counting t c) (comes t c)
  where
    go : (o : Outcome) → Comes t c o → ((used : ℕ) → o.answer ≡ Ok (Done used) → ⊥) → o.table ≡ t
    go o (stays answer other) not_done = refl
    go o (counts used rain below) not_done = absurd (not_done used refl)

-- a call for a marked hour answers that it was counted already, and changes nothing
pub counted_already :
    (t : Table) (c : Call) → c.hour < hours_of_month → is_marked t c.hour ≡ true → counting t c ≡ unchanged t (Ok Already)
unfolding counting
counted_already t c below marked = rw (lt-ltb c.hour hours_of_month below, marked)

module _ (t : Table) (c : Call) where
  -- as many marks as before
  hours_kept : (o : Outcome) → Comes t c o → length o.table.marks ≡ length t.marks
  hours_kept o (stays answer other) = refl
  hours_kept o (counts used rain below) = length-set t.marks c.hour 1

  -- what is marked stays marked
  stays_marked : (o : Outcome) → Comes t c o → (hour : ℕ) → is_marked t hour ≡ true → is_marked o.table hour ≡ true
  stays_marked o (stays answer other) hour marked = marked
  stays_marked o (counts used rain below) hour marked =
      go (ℕ_discrete hour c.hour) (dec_lt c.hour (length t.marks))
    where
      go : Dec (hour ≡ c.hour) → Dec (c.hour < length t.marks) → is_marked (with_frame t c.hour rain) hour ≡ true
      go (yes e) (yes there) = rw (e, get_or-set_same t.marks c.hour 1 0 there)
      go (yes e) (no beyond) = rw (set_out t.marks c.hour 1 (omega (arith, beyond))) marked
      go (no apart) there = rw (get_or-set_other t.marks c.hour hour 1 0 apart) marked

  -- an hour that is marked then was marked before, or the call was for it and was counted
  marked_by :
      (o : Outcome) → Comes t c o → (hour : ℕ) → is_marked o.table hour ≡ true
      → (is_marked t hour ≡ true) ⊎ ((used : ℕ) × (c.hour ≡ hour) × (o.answer ≡ Ok (Done used)))
  marked_by o (stays answer other) hour marked = inl marked
  marked_by o (counts used rain below) hour marked = go (ℕ_discrete hour c.hour)
    where
      go : Dec (hour ≡ c.hour) → (is_marked t hour ≡ true) ⊎ ((u : ℕ) × (c.hour ≡ hour) × (◌≡◌ {A = Result Counted Error} (Ok (Done used)) (Ok (Done u))))
      go (yes e) = inr (used, sym e, refl)
      go (no apart) = inl (rw (get_or-set_other t.marks c.hour hour 1 0 apart) at marked)

  -- a call that was counted is for an hour of the month, and marks it
  counted_marks :
      (o : Outcome) → Comes t c o → length t.marks ≡ hours_of_month → (used : ℕ) → o.answer ≡ Ok (Done used)
      → (c.hour < hours_of_month) × (is_marked o.table c.hour ≡ true)
  counted_marks o (stays answer other) hours used is = absurd (subst NotDone is other)
  counted_marks o (counts _ rain below) hours used is =
      (below, rw (get_or-set_same t.marks c.hour 1 0 (omega (arith, hours))))

-- calls after calls
pub month_adds : (cs ds : List Call) (t : Table) → month t (cs ++ ds) ≡ month (month t cs) ds
unfolding month
month_adds [] ds t = refl
month_adds (c ∷ cs) ds t = month_adds cs ds (counting t c).table

-- as many marks after any calls
month_hours : (cs : List Call) (t : Table) → length (month t cs).marks ≡ length t.marks
unfolding month
month_hours [] t = refl
month_hours (c ∷ cs) t = month_hours cs (counting t c).table ∙ hours_kept t c (counting t c) (comes t c)

-- and what is marked stays marked
month_stays : (cs : List Call) (t : Table) (hour : ℕ) → is_marked t hour ≡ true → is_marked (month t cs) hour ≡ true
unfolding month
month_stays [] t hour marked = marked
month_stays (c ∷ cs) t hour marked =
    month_stays cs (counting t c).table hour (stays_marked t c (counting t c) (comes t c) hour marked)

-- an hour that is marked after calls was marked before, or some call for it was counted
marked_from :
    (cs : List Call) (t : Table) (hour : ℕ) → is_marked (month t cs) hour ≡ true
    → (is_marked t hour ≡ true) ⊎ CountedAmong t cs hour
unfolding month
marked_from [] t hour marked = inl marked
marked_from (c ∷ cs) t hour marked = later (marked_from cs (counting t c).table hour marked)
  where
    now :
        (is_marked t hour ≡ true) ⊎ ((used : ℕ) × (c.hour ≡ hour) × ((counting t c).answer ≡ Ok (Done used)))
        → (is_marked t hour ≡ true) ⊎ CountedAmong t (c ∷ cs) hour
    now (inl was) = inl was
    now (inr (used, same, is)) =
        inr
        (record {
          before = [];
          call = c;
          after = cs;
          used = used;
          one_of_them = refl;
          for_the_hour = same;
          counted = is;
        })

    later :
        (is_marked (counting t c).table hour ≡ true) ⊎ CountedAmong (counting t c).table cs hour
        → (is_marked t hour ≡ true) ⊎ CountedAmong t (c ∷ cs) hour
    later (inl was) = now (marked_by t c (counting t c) (comes t c) hour was)
    later (inr k) =
        inr
        (record {
          before = c ∷ k.before;
          call = k.call;
          after = k.after;
          used = k.used;
          one_of_them = ap (λ (l : List Call). c ∷ l) k.one_of_them;
          for_the_hour = k.for_the_hour;
          counted = k.counted;
        })

-- an hour that was counted is one of the month's, and is marked after all the calls
counted_marked :
    (t : Table) → length t.marks ≡ hours_of_month → (cs : List Call) (hour : ℕ) → CountedAmong t cs hour
    → (hour < hours_of_month) × (is_marked (month t cs) hour ≡ true)
unfolding month
counted_marked t hours cs hour k =
    let then = month t k.before in
    let o = counting then k.call in
    let hours-then = month_hours k.before t ∙ hours in
    let marks =
    counted_marks then k.call o (comes then k.call) hours-then k.used k.counted in (
      rw (← k.for_the_hour) marks.0,
      rw (k.one_of_them, month_adds k.before (k.call ∷ k.after) t, ← k.for_the_hour)
          (month_stays k.after o.table k.call.hour marks.1),
    )

-- from a fresh table an hour is marked exactly if some call for it was counted
pub marked_exactly :
    (n : ℕ) (cs : List Call) (hour : ℕ) → (is_marked (month (fresh n) cs) hour ≡ true) ↔ CountedAmong (fresh n) cs hour
unfolding fresh
marked_exactly n cs hour =
    (λ marked. go (marked_from cs (fresh n) hour marked), λ k. (counted_marked (fresh n) hours cs hour k).1)
  where
    hours : length (fresh n).marks ≡ hours_of_month
    hours = length-replicate hours_of_month 0

    none_yet : Dec (hour < hours_of_month) → get_or (fresh n).marks hour 0 ≡ 0
    none_yet (yes below) = get_or-replicate hours_of_month hour 0 0 below
    none_yet (no above) = get_or-eq_default (fresh n).marks 0 {n = hour} (omega (arith, above, hours))

    go : (is_marked (fresh n) hour ≡ true) ⊎ CountedAmong (fresh n) cs hour → CountedAmong (fresh n) cs hour
    go (inl was) =
        absurd (let z : ◌≡◌ {A = ℕ} 0 1 = cc (rw (none_yet (dec_lt hour hours_of_month)) at was) in omega arith)
    go (inr k) = k

-- no hour is counted twice
pub counted_once :
    (t : Table) → length t.marks ≡ hours_of_month → (cs : List Call) (c : Call) (used : ℕ)
    → CountedAmong t cs c.hour → (counting (month t cs) c).answer ≡ Ok (Done used) → ⊥
counted_once t hours cs c used k is =
    let m = counted_marked t hours cs c.hour k in
    let already = counted_already (month t cs) c m.0 m.1 in
    let z : ◌≡◌ {A = ℕ} 0 1 = cc (ap (λ (o : Outcome). o.answer) already) in
    omega arith
