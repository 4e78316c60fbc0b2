-- What the loop of `quick::quick` keeps, and why it ends.
use mathlib.Core.List.{map}
use Prim.Native.Nat.{◌+◌}
use Rattle.pixel.specs.Packed.{unpacked}
use Rattle.walk.specs.Asked.{spot_at}
use Rattle.walk.proofs.QuickLaws.{Head}
use Rattle.walk.proofs.quick.quick.Given as goal

abbrev pub invariant-loop-quota : goal.invariant-loop-quota
invariant-loop-quota g l = Head g.L.Layout.CHANNELS l.message l.source l.missing (spot_at l.initial.at l.initial.done (l.base + l.initial.quota) l.initial.l) (map unpacked l.initial.held) l.initial.out l.base (map unpacked l.held) l.out l.at l.done l.l l.quota

abbrev pub decreases-loop-quota : goal.decreases-loop-quota
decreases-loop-quota g l = l.quota
