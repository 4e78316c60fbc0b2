-- The marker test of the part of a message from a place on.
-- Assumes nothing.
use Rattle.std.specs.Prelude.{Ok, Err}
use Rattle.pixel.specs.declared.error.Error.TheVariants.{InvalidPadding}
use Rattle.pixel.specs.Refusal.{ended_early}
use mathlib.Core.Path.{◌≡◌, refl}
use mathlib.Core.Bool.{Bool, true, false, cond}
use mathlib.Core.List.{List}
use Prim.Native.Nat.{ℕ}
use lib.Dec.{ltb}
use lib.ListN.{length, take, drop}
use Rattle.chunk.specs.Found.{ending_at, closed_by}
use Rattle.rules.specs.Bytes.{same_bytes}
use Rattle.rules.specs.Reading.{closing, marker}

-- the marker test at a place is that of the part from there on
pub closing_by : (size : ℕ) (message : List ℕ) (at : ℕ) → closing size message at ≡ closed_by size at (ending_at (drop at message))
unfolding closing ending_at
closing_by size message at = go (ltb (length (drop at message)) 8) (same_bytes (take 8 (drop at message)) marker)
  where
    go :
        (short same : Bool)
        → cond short (closed_by size at (Err ended_early)) (cond same (closed_by size at (Ok tt)) (closed_by size at (Err InvalidPadding)))
        ≡ closed_by size at (cond short (Err ended_early) (cond same (Ok tt) (Err InvalidPadding)))
    go true same = refl
    go false true = refl
    go false false = refl
