-- What the loop of `write` keeps.
use Prim.Native.Nat.{ℕ, ◌+◌, ◌^◌, ◌<◌}
use mathlib.Core.Path.{◌≡◌}
use mathlib.Core.List.{List, ◌++◌}
use lib.ListN.{length, take, drop}
use Rattle.number.specs.Seven.{seven_bits}
use Rattle.number.proofs.write.Given as goal

-- what `out` comes to hold where the bytes before `at` are written and `left` is to follow
abbrev pub filled : List ℕ → ℕ → ℕ → List ℕ
filled out at left = take at out ++ (seven_bits left ++ drop (at + length (seven_bits left)) out)

abbrev pub invariant-loop-at : goal.invariant-loop-at
invariant-loop-at l = (l.left < 2 ^ 64)
    × (l.at + length (seven_bits l.left) ≡ length (seven_bits l.value))
    × (length l.out ≡ length l.initial.out)
    × (filled l.out l.at l.left ≡ seven_bits l.value ++ drop (length (seven_bits l.value)) l.initial.out)
