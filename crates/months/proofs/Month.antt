-- A month, proved: each total is the sum over the marked hours of that cell in the first frame accepted for the hour,
-- the answers are those that the frames say, and 21 never occurs.
-- Assumes nothing.
use Rattle.std.specs.Prelude.{Result, Ok, Err, Option, None, Some}
use mathlib.Core.List.Memᴰ
use mathlib.Core.List.{List, [], ◌∷◌}
use mathlib.Core.Path.{◌≡◌, refl, sym, subst}
use Prim.Native.Nat.{ℕ, ◌<◌}
use native.Mathlib.Omega.{arith}
use lib.Dec.{lit<, ltb}
use Rattle.pixel.specs.declared.error.Error.TheVariants.{TotalTooLarge}
use Rattle.pixel.specs.Bytes.{AllBytes}
use Rattle.pixel.specs.Refusal.{number_of}
use Rattle.pixel.specs.declared.error.Error.{Error}
use Rattle.totals.specs.declared.Counted.{Counted}
use Rattle.totals.specs.declared.Counted.TheVariants.{Done, Already}
use Rattle.totals.specs.Counting.{hours_of_month, Table, fresh, Frame, cells, unread, frame_of, fitting, Call, counting}
use Rattle.months.specs.Month.{month, MessagesOfBytes, brings, brought_for, earlier, first_for, AddsUp, answer_to, unless_counted, answer_after}
use Rattle.totals.proofs.Sums.{either}
use Rattle.months.proofs.Sums.{earlier_none, earlier_three}
use Rattle.months.proofs.Bytes.{frame_small}
use Rattle.months.proofs.Refusals.{FrameBelow, frame_below}
use Rattle.months.proofs.Tables.{and_then, Right, right_same, call_right, call_answers, fresh_right}

-- calls lead on from a table that is right
pub calls_right :
    (n : ℕ) (cs : List Call) → MessagesOfBytes cs → (first : ℕ → Option (List ℕ)) (t : Table) → Right n first t
    → Right n (λ h. earlier (first h) (first_for n cs h)) (month t cs)
unfolding month first_for
calls_right n [] bytes first t right =
    right_same n first (λ h. earlier (first h) None) t (λ h. sym (earlier_none (first h))) right
calls_right n (c ∷ cs) bytes first t right =
    let rain = brings n c in
    right_same n (λ h. earlier (and_then first c.hour rain h) (first_for n cs h))
    (λ h. earlier (first h) (earlier (brought_for n h c) (first_for n cs h))) (month (counting t c).table cs)
    (λ h. sym (earlier_three (first h) (brought_for n h c) (first_for n cs h)))
    (calls_right n cs (λ d is. bytes d (Memᴰ.tail is)) (and_then first c.hour rain) (counting t c).table
    (call_right n first t right c (frame_small n c (bytes c (Memᴰ.head refl)))))

-- an answer whose number is below 21
abbrev pub Below : Result Counted Error → Type 0
Below (Ok (Done used)) = Unit {0}
Below (Ok Already) = Unit {0}
Below (Err e) = number_of e < 21

-- every answer from a fresh table on is one
answer_below : (n : ℕ) (first : ℕ → Option (List ℕ)) (c : Call) → Below (answer_after n first c)
unfolding answer_after
answer_below n first c =
    either Below (ltb c.hour hours_of_month) _ _
    (unless (first c.hour) (fitting n (frame_of c.message c.room)) (frame_below n c.message c.room))
    (lit< tt)
  where
    unless : (o : Option (List ℕ)) (f : Frame) → FrameBelow f → Below (unless_counted o (answer_to f))
    unless (Some rain) f below = tt
    unless None (cells used rain) below = tt
    unless None (unread e) below = below

module _ (n : ℕ) (cs : List Call) (bytes : MessagesOfBytes cs) where
  -- any calls from a fresh table
  pub after_calls : Right n (first_for n cs) (month (fresh n) cs)
  after_calls = calls_right n cs bytes (λ h. None) (fresh n) (fresh_right n)

  -- each total is the sum over the marked hours of that cell in the first frame accepted for the hour
  pub totals_are_sums : AddsUp n (first_for n cs) (month (fresh n) cs)
  totals_are_sums = after_calls.adds_up

  -- the answer to any call after them is said by those frames and its own
  pub answers_are :
      (c : Call) → AllBytes c.message → (counting (month (fresh n) cs) c).answer ≡ answer_after n (first_for n cs) c
  answers_are c fine = call_answers n (first_for n cs) (month (fresh n) cs) after_calls c (frame_small n c fine)

  -- so its number is below 21, or it is no refusal
  pub answers_below : (c : Call) → AllBytes c.message → Below (counting (month (fresh n) cs) c).answer
  answers_below c fine = subst Below (sym (answers_are c fine)) (answer_below n (first_for n cs) c)

  -- and 21 never occurs from a fresh table
  pub never_past :
      (c : Call) → AllBytes c.message → (cell : ℕ)
      → (counting (month (fresh n) cs) c).answer ≡ Err (TotalTooLarge cell) → ⊥
  never_past c fine cell past =
      let below : 21 < 21 = subst Below past (answers_below c fine) in
      omega arith
