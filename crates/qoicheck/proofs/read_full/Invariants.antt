-- What the loop of `read_full` keeps, and why it ends: each read that goes on takes room away.
use Rattle.std.proofs.Common.{length, ◌-◌, ◌≤◌}
use Rattle.qoicheck.proofs.read_full.Given as goal

abbrev pub invariant-loop-done : goal.invariant-loop-done
invariant-loop-done l = l.done ≤ length l.buf

abbrev pub decreases-loop-done : goal.decreases-loop-done
decreases-loop-done l = length l.initial.buf - l.done
