-- Laws of parts of a list, and of bytes put into an output at a place: what stands before and after them, and how
-- many there are.
-- Assumes nothing.
use mathlib.Core.Path.{◌≡◌, sym, ◌∙◌, ap}
use mathlib.Core.List.{List, [], ◌∷◌, ◌++◌, append_assoc, append-nil}
use Prim.Native.Nat.{ℕ, zero, suc, ◌+◌, ◌-◌, ◌*◌, ◌≤◌}
use native.Mathlib.Nat.{add_assoc, add-zero, suc-mul, zero-mul}
use native.Mathlib.Numerals.{towards_suc}
use native.Mathlib.Omega.{arith}
use lib.ListN.{length, take, drop, set, length-append, length-take, length-drop, take-append-drop}
use lib.Seq.{sets, sets-eq, length-take-le, take_all, take_at, drop_at, drop-drop, drop-length, take-length}
use borrow.Rule.Slice.PartMut.{put_mid, Post-is}
use Rattle.rules.specs.Bytes.{pasted, repeated}

-- all that follows a place is all that follows it
pub whole_tail : (l : List ℕ) (n : ℕ) → take (length l - n) (drop n l) ≡ drop n l
whole_tail l n = take_all (length l - n) (drop n l) (simp length-drop (omega arith))

-- what stands before the place is kept
pub before_pasted : (out : List ℕ) (at : ℕ) (bytes : List ℕ) → at ≤ length out → take at (pasted at bytes out) ≡ take at out
before_pasted out at bytes within =
    take_at (take at out) (bytes ++ drop (at + length bytes) out) at (length-take-le at out within)

module _ (out : List ℕ) (at : ℕ) (bytes : List ℕ) (fits : at + length bytes ≤ length out) where
  head_length : length (take at out ++ bytes) ≡ at + length bytes
  head_length = simp (length-append, length-take) (omega arith)

  -- the output up to the end of what was put
  pub take_pasted : take (at + length bytes) (pasted at bytes out) ≡ take at out ++ bytes
  take_pasted = rw (← append_assoc) (take_at (take at out ++ bytes) (drop (at + length bytes) out) (at + length bytes) head_length)

  -- and after it
  pub drop_pasted : drop (at + length bytes) (pasted at bytes out) ≡ drop (at + length bytes) out
  drop_pasted = rw (← append_assoc) (drop_at (take at out ++ bytes) (drop (at + length bytes) out) (at + length bytes) head_length)

  -- and from any later place on
  pub beyond_pasted : (e : ℕ) → at + length bytes ≤ e → drop e (pasted at bytes out) ≡ drop e out
  beyond_pasted e later =
      let rest : at + length bytes + (e - (at + length bytes)) ≡ e = omega arith in
      rw (← rest, ← drop-drop (e - (at + length bytes)) (at + length bytes) (pasted at bytes out), ← drop-drop (e - (at + length bytes)) (at + length bytes) out, drop_pasted)

  -- its length is kept
  pub length_pasted : length (pasted at bytes out) ≡ length out
  length_pasted = simp (length-append, length-take, length-drop) (omega arith)

-- a list of bytes stored one after another
pub stored : (bytes out : List ℕ) (at : ℕ) → at + length bytes ≤ length out → sets out at bytes ≡ pasted at bytes out
stored bytes out at fits = sets-eq bytes out at fits ∙ append_assoc (take at out) bytes (drop (at + length bytes) out)

-- three bytes and four, stored one after another
pub stored_three :
    (out : List ℕ) (at a b c : ℕ) → at + 3 ≤ length out
    → set (set (set out at a) (at + 1) b) (at + 2) c ≡ pasted at (a ∷ b ∷ c ∷ []) out
stored_three out at a b c fits = simp towards_suc (simp towards_suc at (stored (a ∷ b ∷ c ∷ []) out at fits))

pub stored_four :
    (out : List ℕ) (at a b c d : ℕ) → at + 4 ≤ length out
    → set (set (set (set out at a) (at + 1) b) (at + 2) c) (at + 3) d ≡ pasted at (a ∷ b ∷ c ∷ d ∷ []) out
stored_four out at a b c d fits = simp towards_suc (simp towards_suc at (stored (a ∷ b ∷ c ∷ d ∷ []) out at fits))

-- a part put after a part
pub pasted_next :
    (out : List ℕ) (at : ℕ) (x y : List ℕ) → at + length x + length y ≤ length out
    → pasted (at + length x) y (pasted at x out) ≡ pasted at (x ++ y) out
pasted_next out at x y fits =
    let first : at + length x ≤ length out = omega arith in
    let after : drop (at + length x + length y) (pasted at x out) ≡ drop (at + length x + length y) out =
    sym (drop-drop (length y) (at + length x) (pasted at x out)) ∙ ap (drop (length y)) (drop_pasted out at x first) ∙ drop-drop (length y) (at + length x) out in
    rw (take_pasted out at x first, after) (simp (length-append, append_assoc, add_assoc))

-- the part from a place on, with bytes put at its front, back in its place
pub put_back :
    (out : List ℕ) (at : ℕ) (bytes : List ℕ) → at ≤ length out
    → put_mid at (length out - at) out (bytes ++ drop (length bytes) (take (length out - at) (drop at out))) ≡ pasted at bytes out
put_back out at bytes within =
    rw (Post-is at (length out) out within, whole_tail out at, drop-drop (length bytes) at out, drop-length out, append-nil)

-- the same where the bytes were copied
pub copied_back :
    (out : List ℕ) (at : ℕ) (bytes : List ℕ) → at ≤ length out
    → (part : List ℕ) → part ≡ take (length bytes) bytes ++ drop (length bytes) (take (length out - at) (drop at out))
    → put_mid at (length out - at) out part ≡ pasted at bytes out
copied_back out at bytes within part is = rw (is, take-length bytes) (put_back out at bytes within)

-- nothing put
pub pasted_none : (out : List ℕ) (at : ℕ) → pasted at [] out ≡ out
pasted_none out at = simp add-zero (take-append-drop at out)

-- bytes written n times over are n times as many
pub repeated_length : (n : ℕ) (bytes : List ℕ) → length (repeated n bytes) ≡ n * length bytes
unfolding repeated
repeated_length zero bytes = sym (zero-mul (length bytes))
repeated_length (suc n) bytes = simp (length-append, suc-mul) (omega (arith, repeated_length n bytes))
