-- What the loop of `adding::sure_to_fit` keeps.
use Rattle.std.proofs.Common.{◌≡◌, ◌≤◌, length, drop}
use Rattle.std.specs.Slice.Iter.{chunks_rest, chunks_size}
use Rattle.totals.specs.Framing.{HighBelow}
use Rattle.totals.proofs.adding.sure_to_fit.Given as goal

abbrev pub invariant-loop-block : goal.invariant-loop-block
invariant-loop-block l =
    (goal.iterator-loop-block).can_next l.block-iterator
    × (goal.iterator-loop-block).is_finite l.block-iterator
    × (chunks_size l.block-iterator ≡ 4096)
    × (chunks_rest l.block-iterator ≡ drop l.sure l.totals)
    × (l.sure ≤ length l.totals)
    × HighBelow l.totals l.sure 4294967295
