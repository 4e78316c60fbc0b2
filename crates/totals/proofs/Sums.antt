-- Laws of a frame's cells, of totals with a frame added, and of the first one that is past 2^64-1.
-- Assumes nothing.
use Rattle.std.specs.Prelude.{Option, None, Some, option_map}
use mathlib.Core.Bool.{Bool, true, false, cond}
use mathlib.Core.List.{List, [], ◌∷◌, ◌++◌}
use mathlib.Core.Path.{◌≡◌, refl, sym, ◌∙◌, ap}
use Prim.Native.Nat.{ℕ, zero, suc, ◌+◌, ◌*◌, ◌/◌, ◌^◌, ◌≤◌, ◌<◌}
use native.Mathlib.Omega.{arith}
use borrow.Author.Tests.{lt-ltb, le-ltb, ltb-true}
use lib.Dec.{ltb}
use lib.ListN.{length, get_or, set, take, drop}
use lib.Seq.{get_or-drop, length-take-le, drop-cons, take-suc, append_snoc, get_or_at, set_at}
use Rattle.header.specs.Header.{number_at}
use Rattle.totals.specs.Counting.{cells_of, added_to, first_past}
use Rattle.totals.specs.Framing.{sums}

-- what holds of both branches holds
pub either : {A : Type 0} (P : A → Type 0) (b : Bool) (x y : A) → P x → P y → P (cond b x y)
either P true x y left right = left
either P false x y left right = right

-- the number at a place after some bytes
number_after : (n : ℕ) (bytes : List ℕ) (at : ℕ) → number_at (drop n bytes) at ≡ number_at bytes (n + at)
number_after n bytes at = simp get_or-drop (simp (sym (assoc 1), sym (assoc 2), sym (assoc 3)))
  where
    assoc : (k : ℕ) → n + at + k ≡ n + (at + k)
    assoc k = omega arith

-- there are n cells
pub cells_length : (n : ℕ) (bytes : List ℕ) → length (cells_of n bytes) ≡ n
unfolding cells_of
cells_length zero bytes = refl
cells_length (suc n) bytes = ap suc (cells_length n (drop 4 bytes))

-- cell i is the number at byte 4 i
pub cells_at : (n : ℕ) (bytes : List ℕ) (i : ℕ) → i < n → get_or (cells_of n bytes) i 0 ≡ number_at bytes (i * 4)
unfolding cells_of
cells_at zero bytes i below = absurd (omega arith)
cells_at (suc n) bytes zero below = refl
cells_at (suc n) bytes (suc i) below =
    cells_at n (drop 4 bytes) i (omega arith) ∙ number_after 4 bytes (i * 4) ∙ ap (number_at bytes) (omega arith)

pub added_length : (ts rain : List ℕ) → length (added_to ts rain) ≡ length ts
unfolding added_to
added_length [] rain = refl
added_length (t ∷ ts) rain = ap suc (added_length ts (drop 1 rain))

-- each total with its cell
pub added_at : (ts rain : List ℕ) (i : ℕ) → i < length ts → get_or (added_to ts rain) i 0 ≡ get_or ts i 0 + get_or rain i 0
unfolding added_to
added_at [] rain i below = absurd (omega arith)
added_at (t ∷ ts) rain zero below = refl
added_at (t ∷ ts) rain (suc i) below =
    added_at ts (drop 1 rain) i (omega arith)
    ∙ ap (λ (n : ℕ). get_or ts i 0 + n) (get_or-drop 1 rain i 0 ∙ ap (λ (n : ℕ). get_or rain n 0) (omega arith))

-- each sum is the total and the number at its cell's bytes
pub sum_at : (ts frame : List ℕ) (i : ℕ) → i < length ts → get_or (sums ts frame) i 0 ≡ get_or ts i 0 + number_at frame (i * 4)
sum_at ts frame i below =
    added_at ts (cells_of (length ts) frame) i below ∙ ap (λ (n : ℕ). get_or ts i 0 + n) (cells_at (length ts) frame i below)

pub sums_length : (ts frame : List ℕ) → length (sums ts frame) ≡ length ts
sums_length ts frame = added_length ts (cells_of (length ts) frame)

-- every number of a list fits 64 bits
abbrev pub Fits64 : List ℕ → Type 0
Fits64 ts = (i : ℕ) → i < length ts → get_or ts i 0 < 2 ^ 64

-- where each fits, none is past
pub none_past : (ts : List ℕ) → Fits64 ts → first_past ts ≡ None
unfolding first_past
none_past [] fits = refl
none_past (t ∷ ts) fits =
    rw (lt-ltb t (2 ^ 64) (fits 0 (omega arith)), none_past ts (λ i below. fits (suc i) (omega arith)))

-- and back
pub past_none : (ts : List ℕ) → first_past ts ≡ None → Fits64 ts
unfolding first_past
past_none [] e i below = absurd (omega arith)
past_none (t ∷ ts) e i below = go (past_none ts) (ltb t (2 ^ 64)) refl (first_past ts) refl e i below
  where
    go :
        (first_past ts ≡ None → Fits64 ts) → (b : Bool) → ltb t (2 ^ 64) ≡ b → (o : Option ℕ) → first_past ts ≡ o
        → cond b (option_map suc o) (Some 0) ≡ None → Fits64 (t ∷ ts)
    go rest true small None is e zero below = ltb-true t (2 ^ 64) small
    go rest true small None is e (suc i) below = rest is i (omega arith)
    go rest true small (Some k) is e i below = absurd (let z : ◌≡◌ {A = ℕ} 0 1 = cc in omega arith)
    go rest false small o is e i below = absurd (let z : ◌≡◌ {A = ℕ} 0 1 = cc in omega arith)

-- the first that does not fit
pub first_at :
    (ts : List ℕ) (i : ℕ) → i < length ts → ((k : ℕ) → k < i → get_or ts k 0 < 2 ^ 64) → 2 ^ 64 ≤ get_or ts i 0 → first_past ts ≡ Some i
unfolding first_past
first_at [] i below before past = absurd (omega arith)
first_at (t ∷ ts) zero below before past = rw (le-ltb t (2 ^ 64) past)
first_at (t ∷ ts) (suc i) below before past =
    rw (lt-ltb t (2 ^ 64) (before 0 (omega arith)), first_at ts i (omega arith) (λ k less. before (suc k) (omega arith)) past)

-- no frame of bytes brings a total with a small high half past 2^64-1
pub sure_sum :
    (ts frame : List ℕ) (k : ℕ) → k < length ts → get_or ts k 0 / 4294967296 < 4294967295 → ((j : ℕ) → get_or frame j 0 < 256)
    → get_or (sums ts frame) k 0 < 2 ^ 64
sure_sum ts frame k below small bytes =
    omega (arith, sum_at ts frame k below, bytes (k * 4), bytes (k * 4 + 1), bytes (k * 4 + 2), bytes (k * 4 + 3))

-- two lists of one length: the first i numbers of the one, and then the other's
module _ (s t : List ℕ) (i : ℕ) (below : i < length t) (same : length s ≡ length t) where
  taken : length (take i s) ≡ i
  taken = length-take-le i s (omega arith)

  -- at i stands the other's
  pub not_yet : get_or (take i s ++ drop i t) i 0 ≡ get_or t i 0
  not_yet = rw (drop-cons t i 0 below) (get_or_at (take i s) (get_or t i 0) (drop (suc i) t) 0 i taken)

  -- with the one's put there, they are the first i + 1
  pub one_more : set (take i s ++ drop i t) i (get_or s i 0) ≡ take (suc i) s ++ drop (suc i) t
  one_more =
      ap (λ (l : List ℕ). set (take i s ++ l) i (get_or s i 0)) (drop-cons t i 0 below)
      ∙ set_at (take i s) (get_or t i 0) (drop (suc i) t) (get_or s i 0) i taken
      ∙ sym (append_snoc (take i s) (get_or s i 0) (drop (suc i) t))
      ∙ ap (λ (l : List ℕ). l ++ drop (suc i) t) (sym (take-suc s i 0 (omega arith)))
