-- What the loop of `adding::first_past` keeps.
use Rattle.std.proofs.Common.{ℕ, ◌<◌}
use Prim.Native.Nat.{◌^◌}
use lib.ListN.{get_or}
use Rattle.totals.specs.Framing.{sums}
use Rattle.totals.proofs.adding.first_past.Given as goal

abbrev pub invariant-loop-i : goal.invariant-loop-i
invariant-loop-i l = (k : ℕ) → k < l.i → get_or (sums l.totals l.frame) k 0 < 2 ^ 64
