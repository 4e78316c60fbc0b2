-- What the loop of `adding::add` keeps.
use Rattle.std.proofs.Common.{◌≡◌, ◌++◌, length, take, drop}
use Rattle.totals.specs.Framing.{sums}
use Rattle.totals.proofs.adding.add.Given as goal

abbrev pub invariant-loop-i : goal.invariant-loop-i
invariant-loop-i l =
    (length l.totals ≡ length l.initial.totals)
    × (l.totals ≡ take l.i (sums l.initial.totals l.frame) ++ drop l.i l.initial.totals)
