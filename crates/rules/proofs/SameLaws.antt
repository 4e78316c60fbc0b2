-- Laws of the test of two lists of bytes: it goes byte by byte.
-- Assumes nothing.
use mathlib.Core.Path.{◌≡◌}
use mathlib.Core.Bool.{◌&&◌, and-true, and_assoc}
use mathlib.Core.List.{List, [], ◌∷◌}
use Prim.Native.Nat.{ℕ, zero, suc, ◌<◌}
use native.Mathlib.Omega.{arith}
use lib.Dec.{eqb}
use lib.ListN.{length, get_or, take}
use Rattle.rules.specs.Bytes.{same_bytes}

-- one more byte of both is the same where that byte is
pub same_next :
    (i : ℕ) (a b : List ℕ) → i < length a → i < length b
    → same_bytes (take (suc i) a) (take (suc i) b) ≡ same_bytes (take i a) (take i b) && eqb (get_or a i 0) (get_or b i 0)
unfolding same_bytes
same_next i [] b less less' = absurd (omega arith)
same_next i (x ∷ xs) [] less less' = absurd (omega arith)
same_next zero (x ∷ xs) (y ∷ ys) less less' = and-true (eqb x y)
same_next (suc i) (x ∷ xs) (y ∷ ys) less less' =
    rw (same_next i xs ys (omega arith) (omega arith), and_assoc)
