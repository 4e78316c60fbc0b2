-- An output over which a step stopped inside: where it was right before the step and would be right after it, it is
-- right.
-- Assumes nothing.
use mathlib.Core.Logic.{◌⊎◌, inl, inr}
use mathlib.Core.Path.{◌≡◌, sym, ◌∙◌, ap}
use mathlib.Core.List.{List}
use Prim.Native.Nat.{ℕ, ◌+◌, ◌<◌}
use native.Mathlib.Omega.{arith}
use lib.ListN.{length, get_or, take, drop, length-take, length-drop}
use lib.Seq.{get_or-take, get_or-drop, ext_get_or}
use Rattle.rules.specs.Step.{State}
use Rattle.demands.specs.TakeOver.{bytes_before}
use Rattle.demands.specs.Workers.{Partly}
use Rattle.demands.proofs.Course.{whole}
use Rattle.demands.proofs.Held.{Held}

-- what is byte by byte the one or the other of two lists that are the same is the same
one_or_other :
    (x y z want : List ℕ) → length x ≡ length want
    → ((i : ℕ) → i < length x → (get_or x i 0 ≡ get_or y i 0) ⊎ (get_or x i 0 ≡ get_or z i 0)) → y ≡ want → z ≡ want → x ≡ want
one_or_other x y z want long each first second = ext_get_or 0 x want long (λ i h. go i (each i h))
  where
    go : (i : ℕ) → (get_or x i 0 ≡ get_or y i 0) ⊎ (get_or x i 0 ≡ get_or z i 0) → get_or x i 0 ≡ get_or want i 0
    go i (inl e) = e ∙ ap (λ (l : List ℕ). get_or l i 0) first
    go i (inr e) = e ∙ ap (λ (l : List ℕ). get_or l i 0) second

module _ (o new o' : List ℕ) (partly : Partly o new o') where
  -- what stands up to a place before a step and after it stands there if it stops inside
  pub partly_take : (n : ℕ) (want : List ℕ) → take n o ≡ want → take n new ≡ want → take n o' ≡ want
  partly_take n want old done =
      one_or_other (take n o') (take n o) (take n new) want
      (simp length-take (omega (arith, partly.same_length, simp length-take at (ap length old))))
      (λ i h. go i (omega (arith, simp length-take at h)) (partly.each i)) old done
    where
      go :
          (i : ℕ) → i < n → (get_or o' i 0 ≡ get_or o i 0) ⊎ (get_or o' i 0 ≡ get_or new i 0)
          → (get_or (take n o') i 0 ≡ get_or (take n o) i 0) ⊎ (get_or (take n o') i 0 ≡ get_or (take n new) i 0)
      go i h (inl e) = inl (get_or-take n o' i 0 h ∙ e ∙ sym (get_or-take n o i 0 h))
      go i h (inr e) = inr (get_or-take n o' i 0 h ∙ e ∙ sym (get_or-take n new i 0 h))

  -- and from a place on
  partly_drop : (n : ℕ) (want : List ℕ) → drop n o ≡ want → drop n new ≡ want → drop n o' ≡ want
  partly_drop n want old done =
      one_or_other (drop n o') (drop n o) (drop n new) want
      (simp length-drop (omega (arith, partly.same_length, simp length-drop at (ap length old))))
      (λ i h. go i (partly.each (n + i))) old done
    where
      go :
          (i : ℕ) → (get_or o' (n + i) 0 ≡ get_or o (n + i) 0) ⊎ (get_or o' (n + i) 0 ≡ get_or new (n + i) 0)
          → (get_or (drop n o') i 0 ≡ get_or (drop n o) i 0) ⊎ (get_or (drop n o') i 0 ≡ get_or (drop n new) i 0)
      go i (inl e) = inl (get_or-drop n o' i 0 ∙ e ∙ sym (get_or-drop n o i 0))
      go i (inr e) = inr (get_or-drop n o' i 0 ∙ e ∙ sym (get_or-drop n new i 0))

  -- an output that a worker holds before a step and after it, it holds if the step stops inside
  pub held_partly : (m : List ℕ) (w : ℕ) (b : List ℕ) (t : State) → Held m w b o t → Held m w b new t → Held m w b o' t
  held_partly m w b t old done =
      record {
        same_length = partly.same_length ∙ old.same_length;
        before = partly_take (bytes_before t) _ old.before done.before;
        beyond = partly_drop (length (whole m w).bytes) _ old.beyond done.beyond;
        short = λ few. partly_drop 0 b (old.short few) (done.short few);
      }
