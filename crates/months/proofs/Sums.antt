-- Laws of sums over hours, and of frames that come first.
-- Assumes nothing.
use Rattle.std.specs.Prelude.{Option, None, Some}
use mathlib.Core.List.{List}
use mathlib.Core.Path.{◌≡◌, refl, sym}
use Prim.Native.Nat.{ℕ, zero, suc, ◌+◌, ◌*◌, ◌^◌, ◌≤◌, ◌<◌, zero-le}
use native.Mathlib.Decide.{ℕ_discrete}
use native.Mathlib.Omega.{arith}
use Rattle.months.specs.Month.{earlier, sum_over}

-- the same numbers have the same sum
pub sum_same : (k : ℕ) (f g : ℕ → ℕ) → ((h : ℕ) → h < k → g h ≡ f h) → sum_over k g ≡ sum_over k f
unfolding sum_over
sum_same zero f g same = refl
sum_same (suc k) f g same = omega (arith, sum_same k f g (λ h below. same h (omega arith)), same k (omega arith))

-- one number more at an hour that had none
pub sum_more :
    (k hour v : ℕ) (f g : ℕ → ℕ) → hour < k → f hour ≡ 0 → g hour ≡ v → ((h : ℕ) → (h ≡ hour → ⊥) → g h ≡ f h)
    → sum_over k g ≡ sum_over k f + v
unfolding sum_over
sum_more zero hour v f g below had is others = absurd (omega arith)
sum_more (suc k) hour v f g below had is others =
    go (λ less. sum_more k hour v f g less had is others) (ℕ_discrete hour k)
  where
    go : (hour < k → sum_over k g ≡ sum_over k f + v) → Dec (hour ≡ k) → sum_over k g + g k ≡ sum_over k f + f k + v
    go before (yes e) =
        let now : g k ≡ v = rw (← e) is in
        let was : f k ≡ 0 = rw (← e) had in
        omega (arith, sum_same k f g (λ h less. others h (λ (is : h ≡ hour). omega arith)))
    go before (no apart) = omega (arith, before (omega (arith, apart)), others k (λ (is : k ≡ hour). apart (sym is)))

-- so many numbers of 32 bits
pub sum_bound : (k : ℕ) (f : ℕ → ℕ) → ((h : ℕ) → f h < 2 ^ 32) → sum_over k f ≤ k * 4294967295
unfolding sum_over
sum_bound zero f small = zero-le
sum_bound (suc k) f small = omega (arith, sum_bound k f small, small k)

-- no number at all
pub sum_none : (k : ℕ) → sum_over k (λ h. 0) ≡ 0
unfolding sum_over
sum_none zero = refl
sum_none (suc k) = omega (arith, sum_none k)

-- the earlier of one and none
pub earlier_none : (a : Option (List ℕ)) → earlier a None ≡ a
earlier_none None = refl
earlier_none (Some rain) = refl

-- the earliest of three
pub earlier_three : (a b c : Option (List ℕ)) → earlier a (earlier b c) ≡ earlier (earlier a b) c
earlier_three None b c = refl
earlier_three (Some rain) b c = refl
