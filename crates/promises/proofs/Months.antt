-- Rain totals for hosts: the table that a host keeps is the month of its calls, so what is shown of months holds of it.
-- Assumes nothing.
use Rattle.std.specs.Prelude.{Result, Ok, Err}
use mathlib.Core.List.Memᴰ
use mathlib.Core.List.{List, [], ◌∷◌}
use mathlib.Core.Logic.{⊎_elim}
use mathlib.Core.Path.{◌≡◌, refl, sym, ◌∙◌, ap, ap₂, subst}
use Prim.Native.Nat.{ℕ, ◌<◌}
use native.Mathlib.Omega.{arith}
use contract.Lifetimes.{Lfts}
use denote.Triple.Clauses.{Lasts}
use borrow.Fn.Kinds.{Dens, res_t, ended_of}
use lib.ListN.{length}
use Rattle.pixel.specs.Bytes.{AllBytes}
use Rattle.pixel.specs.declared.error.Error.{Error}
use Rattle.totals.specs.declared.Counted.{Counted}
use Rattle.totals.specs.declared.Counted.TheVariants.{Done, Already}
use Rattle.totals.specs.Counting.{Table, fresh, Call, counting, Counts}
use Rattle.totals.proofs as totals
use Rattle.months.specs.Month.{month, MessagesOfBytes, first_for, AddsUp}
use Rattle.months.specs.Delivered.{AtLeastOnce, in_order}
use Rattle.months.proofs.Marks.{month_adds}
use Rattle.months.proofs.Month.{Below, totals_are_sums, answers_below}
use Rattle.months.proofs.Delivered.{at_least_once}
use Rattle.qoi.specs.Hosted.{counted_figures, IsCount}
use Rattle.qoi.proofs as qoi
use Rattle.promises.specs.Determined.{Allows}
use Rattle.promises.specs.Hosts.{returned}
use Rattle.promises.specs.Months.{Kept, begun, called}

-- the messages of the calls are bytes
kept_bytes : {n : ℕ} {cs : List Call} {t : Table} → Kept n cs t → MessagesOfBytes cs
kept_bytes begun c is = absurd (Memᴰ.not-nil is)
kept_bytes (called {cs} kept hour message frame bytes figures left_frame left_totals left_marks left) c is =
    ⊎_elim (λ before. kept_bytes kept c before) (λ last. subst (λ (d : Call). AllBytes d.message) (sym (Memᴰ.eq_of_singleton last)) bytes)
    (Memᴰ.append_cases cs is)

-- the table is the one that the calls lead to
pub kept_is_month : {n : ℕ} {cs : List Call} {t : Table} → Kept n cs t → t ≡ month (fresh n) cs
unfolding month
kept_is_month begun = refl
kept_is_month {n} (called {cs} {t} kept hour message frame bytes figures left_frame left_totals left_marks left) =
    let c : Call = record { hour = hour; message = message; room = length frame } in
    ap₂ (λ (x y : List ℕ). record { totals = x; marks = y }) left.2 left.3
    ∙ ap (λ (t : Table). (counting t c).table) (kept_is_month kept)
    ∙ sym (month_adds cs (c ∷ []) (fresh n))

module _ {n : ℕ} {cs : List Call} {t : Table} (kept : Kept n cs t) where
  -- each total is the sum over the marked hours of that cell in the first frame accepted for the hour
  pub host_totals_are_sums : AddsUp n (first_for n cs) t
  host_totals_are_sums = subst (AddsUp n (first_for n cs)) (sym (kept_is_month kept)) (totals_are_sums n cs (kept_bytes kept))

  -- hours delivered at least once, in any order, leave what each hour once and in order leaves
  pub host_at_least_once :
      (sent : ℕ → List ℕ) (k : ℕ) → ((hour : ℕ) → hour < k → AllBytes (sent hour)) → AtLeastOnce n sent k cs
      → t ≡ month (fresh n) (in_order n sent k)
  host_at_least_once sent k bytes once = kept_is_month kept ∙ at_least_once n sent k bytes cs once

  -- no call on it returns 21
  pub host_never_past :
      (hour : ℕ) (message frame figures left_frame left_totals left_marks : List ℕ) → AllBytes message
      → IsCount message hour frame t.totals t.marks figures left_frame left_totals left_marks → returned figures ≡ 21 → ⊥
  host_never_past hour message frame figures left_frame left_totals left_marks bytes left is =
      below (counting t c).answer
      (subst (λ (t : Table). Below (counting t c).answer) (sym (kept_is_month kept)) (answers_below n cs (kept_bytes kept) c bytes))
      (sym (ap returned left.0) ∙ is)
    where
      c : Call
      c = record { hour = hour; message = message; room = length frame }

      below : (a : Result Counted Error) → Below a → returned (counted_figures a) ≡ 21 → ⊥
      below (Ok (Done used)) low is = omega arith
      below (Ok Already) low is = omega arith
      below (Err e) low is = omega arith

-- `IsCount` is the contract, as the checker reads it off the source
pub host_count_contract :
    (κs : Lfts 5) (a : Dens κs qoi.pivotshade_count.Kinds.ps) (z : (res_t qoi.pivotshade_count.Kinds.r κs).Denot)
    (e : Lasts (ended_of 5 qoi.pivotshade_count.Kinds.ps qoi.pivotshade_count.Kinds.r) κs a)
    → Allows qoi.pivotshade_count.Kinds.ps qoi.pivotshade_count.Kinds.r qoi.pivotshade_count.Reads.Post κs a z e
    → IsCount a.0.now a.1.0 a.1.1.0.now a.1.1.1.0.now a.1.1.1.1.0.now
    (z ∷ e.1.1.1.1.1.0) e.1.1.0 e.1.1.1.0 e.1.1.1.1.0
host_count_contract κs a z e allowed = allowed

-- and `Counts` that of totals::count
pub count_contract :
    (κs : Lfts 4) (a : Dens κs totals.count.Kinds.ps) (z : (res_t totals.count.Kinds.r κs).Denot)
    (e : Lasts (ended_of 4 totals.count.Kinds.ps totals.count.Kinds.r) κs a)
    → Allows totals.count.Kinds.ps totals.count.Kinds.r totals.count.Reads.Post κs a z e
    → Counts a.1.0 a.0.now a.1.1.0.now a.1.1.1.0.now a.1.1.1.1.0.now z e.1.1.0
    e.1.1.1.0 e.1.1.1.1.0
count_contract κs a z e allowed = allowed
