-- What the loop of `check` keeps, and why it ends.
use Rattle.header.specs.Header.{pixel_count}
use Rattle.strict.specs.Asked.{Head}
use Rattle.strict.proofs.check.Given as goal

abbrev pub invariant-loop-left : goal.invariant-loop-left
invariant-loop-left l = Head l.header l.message (pixel_count l.header) l.left l.at l.chunks

abbrev pub decreases-loop-left : goal.decreases-loop-left
decreases-loop-left l = l.left
