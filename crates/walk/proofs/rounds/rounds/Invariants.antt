-- What the loop of `rounds::rounds` keeps, and why it ends.
use mathlib.Core.List.{map}
use mathlib.Core.Path.{◌≡◌}
use lib.ListN.{length}
use Rattle.pixel.specs.Packed.{unpacked}
use Rattle.walk.specs.Asked.{Onward}
use Rattle.walk.proofs.rounds.rounds.Given as goal

abbrev pub invariant-loop-spot : goal.invariant-loop-spot
invariant-loop-spot g l = Onward g.L.Layout.CHANNELS l.message l.source l.missing l.initial.spot (map unpacked l.initial.held) l.initial.out l.spot (map unpacked l.held) l.out
    × (length l.out ≡ length l.initial.out)

abbrev pub decreases-loop-spot : goal.decreases-loop-spot
decreases-loop-spot g l = l.before
