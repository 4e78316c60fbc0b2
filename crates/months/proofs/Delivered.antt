-- Deliveries, proved: what is delivered again changes nothing; with one message an hour neither does the order; and so
-- a month delivered at least once totals as one delivered exactly once and in order.
-- Assumes nothing.
use Rattle.std.specs.Prelude.{Option, None, Some}
use mathlib.Core.Bool.{Bool, true, false, cond}
use mathlib.Core.List.Memᴰ
use mathlib.Core.List.{List, [], ◌∷◌, ◌++◌, Memᴰ}
use mathlib.Core.Logic.{◌⊎◌, inl, inr}
use mathlib.Core.Path.{◌≡◌, refl, sym, ◌∙◌, ap}
use Prim.Native.Nat.{ℕ, zero, suc, ◌<◌}
use native.Mathlib.Decide.{ℕ_discrete}
use native.Mathlib.Omega.{arith}
use borrow.Author.Tests.{lt-ltb, ltb-true, eq-eqb}
use lib.Dec.{ltb}
use Rattle.pixel.specs.Bytes.{AllBytes}
use Rattle.totals.specs.Counting.{fresh, Call}
use Rattle.months.specs.Month.{month, MessagesOfBytes, brings, brought_for, earlier, first_for, AddsUp}
use Rattle.months.specs.Delivered.{Roomy, Alike, Among, OneEach, call_for, in_order, AtLeastOnce, sent_for}
use Rattle.months.proofs.Rooms.{brings_again}
use Rattle.months.proofs.First.{Within, first_brought, brought_first, brought_own, like_brings, among_within, first_again, first_same}
use Rattle.months.proofs.Tables.{right_same, same_table}
use Rattle.months.proofs.Month.{calls_right, after_calls, totals_are_sums}
use Rattle.months.proofs.Marks.{month_adds}

-- calls that bring nothing new change nothing
again_within :
    (n : ℕ) (cs ds : List Call) → MessagesOfBytes cs → MessagesOfBytes ds → Within n ds cs
    → month (month (fresh n) cs) ds ≡ month (fresh n) cs
again_within n cs ds bytes bytes' within =
    same_table n (first_for n cs) (month (month (fresh n) cs) ds) (month (fresh n) cs)
    (right_same n (λ h. earlier (first_for n cs h) (first_for n ds h)) (first_for n cs) (month (month (fresh n) cs) ds)
    (first_again n ds cs within) (calls_right n ds bytes' (first_for n cs) (month (fresh n) cs) (after_calls n cs bytes))
    ).adds_up
    (totals_are_sums n cs bytes)

-- the messages of calls among others are theirs
among_bytes : (cs ds : List Call) → MessagesOfBytes cs → Among ds cs → MessagesOfBytes ds
among_bytes cs ds bytes among d is =
    let like = among d is in
    rw (← like.alike.same_message) (bytes like.call like.one_of_them)

-- any of the calls delivered again, in any order and however often, change nothing
pub delivered_again :
    (n : ℕ) (cs ds : List Call) → MessagesOfBytes cs → Roomy n cs → Among ds cs
    → month (month (fresh n) cs) ds ≡ month (fresh n) cs
delivered_again n cs ds bytes roomy among =
    again_within n cs ds bytes (among_bytes cs ds bytes among) (among_within n ds cs roomy among)

-- nor do the very same calls after themselves, whatever their buffers
pub delivered_twice : (n : ℕ) (cs : List Call) → MessagesOfBytes cs → month (fresh n) (cs ++ cs) ≡ month (fresh n) cs
delivered_twice n cs bytes = month_adds cs cs (fresh n) ∙ again_within n cs cs bytes bytes (λ h rain b. b)

-- where each hour has one message, every order of the calls, each at least once, gives the same table
pub delivered_anyhow :
    (n : ℕ) (cs ds : List Call) → MessagesOfBytes cs → OneEach cs → Roomy n cs → Roomy n ds → Among cs ds → Among ds cs
    → month (fresh n) ds ≡ month (fresh n) cs
delivered_anyhow n cs ds bytes one roomy roomy' there back =
    same_table n (first_for n cs) (month (fresh n) ds) (month (fresh n) cs)
    (right_same n (first_for n ds) (first_for n cs) (month (fresh n) ds) (first_same n cs ds one roomy roomy' there back)
    (after_calls n ds (among_bytes cs ds bytes back))
    ).adds_up
    (totals_are_sums n cs bytes)

-- a call delivers one of the hours below k
abbrev OneBelow : ℕ → (ℕ → List ℕ) → ℕ → Call → Type 0
OneBelow n sent k c = (hour : ℕ) × (hour < k) × (c ≡ call_for n sent hour)

-- each of the calls in order does
in_order_is : (n : ℕ) (sent : ℕ → List ℕ) (k : ℕ) (c : Call) → Memᴰ c (in_order n sent k) → OneBelow n sent k c
unfolding in_order
in_order_is n sent zero c is = absurd (Memᴰ.not-nil is)
in_order_is n sent (suc k) c is = go (in_order_is n sent k c) (Memᴰ.append_cases (in_order n sent k) is)
  where
    go :
        (Memᴰ c (in_order n sent k) → OneBelow n sent k c)
        → Memᴰ c (in_order n sent k) ⊎ Memᴰ c (call_for n sent k ∷ []) → OneBelow n sent (suc k) c
    go before (inl there) = let b = before there in (b.0, omega (arith, b.1), b.2)
    go before (inr last) = (k, omega arith, Memᴰ.eq_of_singleton last)

-- and each hour has its call
in_order_has :
    (n : ℕ) (sent : ℕ → List ℕ) (k hour : ℕ) → hour < k → Memᴰ (call_for n sent hour) (in_order n sent k)
unfolding in_order
in_order_has n sent zero hour below = absurd (omega arith)
in_order_has n sent (suc k) hour below = go (in_order_has n sent k hour) (ℕ_discrete hour k)
  where
    go :
        (hour < k → Memᴰ (call_for n sent hour) (in_order n sent k)) → Dec (hour ≡ k)
        → Memᴰ (call_for n sent hour) (in_order n sent k ++ (call_for n sent k ∷ []))
    go before (yes e) = Memᴰ.append_right (in_order n sent k) (Memᴰ.head (ap (call_for n sent) e))
    go before (no apart) = Memᴰ.append_left (call_for n sent k ∷ []) (before (omega (arith, apart)))

-- so what is delivered in order is delivered at least once
pub in_order_once : (n : ℕ) (sent : ℕ → List ℕ) (k : ℕ) → AtLeastOnce n sent k (in_order n sent k)
in_order_once n sent k =
    record {
      of_the_hours = λ d is. let o = in_order_is n sent k d is in rw o.2 o.1;
      as_sent = λ d is. rw (in_order_is n sent k d is).2;
      roomy = λ d is. rw (in_order_is n sent k d is).2 (omega arith);
      each_hour = λ hour below. (call_for n sent hour, in_order_has n sent k hour below, refl);
    }

module _ (n : ℕ) (sent : ℕ → List ℕ) (k : ℕ) (bytes : (hour : ℕ) → hour < k → AllBytes (sent hour)) where
  module _ (ds : List Call) (once : AtLeastOnce n sent k ds) where
    -- a delivery of an hour is like the call for it
    as_called : (h : ℕ) (d : Call) → Memᴰ d ds → d.hour ≡ h → Alike d (call_for n sent h)
    as_called h d is same = record { same_hour = same; same_message = once.as_sent d is ∙ ap sent same }

    -- an hour that has no first frame was sent none
    none_sent :
        (h : ℕ) → first_for n ds h ≡ None → (below : Bool) → ltb h k ≡ below
        → (o : Option (List ℕ)) → brings n (call_for n sent h) ≡ o → cond below o None ≡ None
    none_sent h first false is o sends = refl
    none_sent h first true is None sends = refl
    none_sent h first true is (Some rain) sends =
        let came = once.each_hour h (ltb-true h k is) in
        let d = came.0 in
        let brought : brought_for n h d ≡ Some rain =
        like_brings n h d (call_for n sent h) (as_called h d came.1 came.2) (once.roomy d came.1)
        (rw (eq-eqb h h refl) sends) in
        absurd (brought_first n h ds (record { call = d; one_of_them = came.1; brought = brought }) first)

    -- so the frames that come first are those of the messages sent
    first_sent : (h : ℕ) → first_for n ds h ≡ sent_for n sent k h
    unfolding sent_for
    first_sent h = go (first_for n ds h) refl
      where
        go :
            (o : Option (List ℕ)) → first_for n ds h ≡ o
            → first_for n ds h ≡ cond (ltb h k) (brings n (call_for n sent h)) None
        go None first = first ∙ sym (none_sent h first (ltb h k) refl (brings n (call_for n sent h)) refl)
        go (Some rain) first =
            let b = first_brought n h ds first in
            let own = brought_own n h b.call b.brought in
            let alike = as_called h b.call b.one_of_them own.0 in
            let below : h < k = rw (← own.0) (once.of_the_hours b.call b.one_of_them) in
            rw (lt-ltb h k below)
            (first
            ∙ sym (brings_again n (call_for n sent h) b.call (sym alike.same_message) (omega arith) own.1))

    -- each total is the sum of that cell in the frames sent
    pub sent_totals : AddsUp n (sent_for n sent k) (month (fresh n) ds)
    sent_totals =
        (right_same n (first_for n ds) (sent_for n sent k) (month (fresh n) ds) first_sent
        (after_calls n ds (λ d is. rw (once.as_sent d is) (bytes d.hour (once.of_the_hours d is))))
        ).adds_up

  -- so hours delivered at least once, in any order, total as those delivered each once and in order
  pub at_least_once :
      (ds : List Call) → AtLeastOnce n sent k ds → month (fresh n) ds ≡ month (fresh n) (in_order n sent k)
  at_least_once ds once =
      same_table n (sent_for n sent k) (month (fresh n) ds) (month (fresh n) (in_order n sent k)) (sent_totals ds once)
      (sent_totals (in_order n sent k) (in_order_once n sent k))
