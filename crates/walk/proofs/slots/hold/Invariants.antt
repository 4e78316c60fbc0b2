-- What the loop of `slots::hold` keeps.
use mathlib.Core.Path.{◌≡◌}
use mathlib.Core.List.{map}
use Prim.Native.Nat.{◌≤◌}
use lib.ListN.{length, take}
use Rattle.pixel.specs.Packed.{unpacked}
use Rattle.walk.proofs.slots.hold.Given as goal

abbrev pub invariant-loop-i : goal.invariant-loop-i
invariant-loop-i l = (l.i ≤ 64) × (length l.held ≡ 64) × (map unpacked (take l.i l.held) ≡ take l.i l.slots)
