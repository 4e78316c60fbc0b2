-- What the loop of `quick::quick` keeps, and why it ends.
use Rattle.header.specs.Header.{pixel_count}
use Rattle.strict.specs.Asked.{Head}
use Rattle.strict.proofs.quick.quick.Given as goal

abbrev pub invariant-loop-reached : goal.invariant-loop-reached
invariant-loop-reached l = Head l.header l.message (pixel_count l.header) l.reached.left l.reached.at l.reached.chunks

abbrev pub decreases-loop-reached : goal.decreases-loop-reached
decreases-loop-reached l = l.before
