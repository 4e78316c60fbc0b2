-- What the loop of `careful::careful` keeps, and why it ends.
use mathlib.Core.List.{map}
use Prim.Native.Nat.{◌+◌, ◌-◌}
use Rattle.pixel.specs.Packed.{unpacked}
use Rattle.walk.proofs.Loop.{Head, place_at}
use Rattle.walk.proofs.careful.careful.Given as goal

abbrev pub invariant-loop-done : goal.invariant-loop-done
invariant-loop-done g l = Head g.L.Layout.CHANNELS l.message l.source l.missing
    (λ from. place_at l.initial.at (from + l.initial.done) (unpacked l.initial.current) (map unpacked l.initial.held)) (l.initial.limit - l.initial.done) l.initial.out
    l.out (map unpacked l.held) (unpacked l.current) l.at l.done l.limit l.bound

abbrev pub decreases-loop-done : goal.decreases-loop-done
decreases-loop-done g l = l.missing - l.done
