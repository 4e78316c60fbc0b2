-- `chunk::read_end` meets its contract: the first eight bytes are the marker's or not.
-- Assumes nothing.
use mathlib.Core.Path.{◌≡◌, refl, ap}
use mathlib.Core.Bool.{Bool, ◌&&◌}
use mathlib.Core.List.{List, [], ◌∷◌}
use Prim.Native.Nat.{ℕ}
use lib.Dec.{eqb}
use lib.Pointwise.{pointwise}
use borrow.Author.Tests.{lt-ltb, le-ltb}
use Rattle.rules.specs.Bytes.{same_bytes}
use Rattle.chunk.specs.Found.{ending_at}
use Rattle.chunk.proofs.read_end.Goals as goal

-- what `==` of two lists of bytes computes
same : (a b : List ℕ) → same_bytes a b ≡ pointwise eqb a b
unfolding same_bytes
same [] [] = refl
same [] (y ∷ ys) = refl
same (x ∷ xs) [] = refl
same (x ∷ xs) (y ∷ ys) = ap (λ (rest : Bool). eqb x y && rest) (same xs ys)

pub returns-in_default : goal.returns-in_default
unfolding ending_at
returns-in_default c = rw (lt-ltb _ 8 c.in_default.ensures.cases)

pub returns-then-eq : goal.returns-then-eq
unfolding ending_at
returns-then-eq c =
    let is = c.in-Some.ensures.cases.0 in
    rw (le-ltb _ 8 (c.in-Some.ensures.variant.0 refl), ← is, same, ← c.if-eq.ensures)

pub returns-else-eq : goal.returns-else-eq
unfolding ending_at
returns-else-eq c =
    let is = c.in-Some.ensures.cases.0 in
    rw (le-ltb _ 8 (c.in-Some.ensures.variant.0 refl), ← is, same, ← c.if-eq.ensures)
