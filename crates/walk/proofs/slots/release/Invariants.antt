-- What the loop of `slots::release` keeps.
use mathlib.Core.Path.{◌≡◌}
use mathlib.Core.List.{map}
use Prim.Native.Nat.{◌≤◌}
use lib.ListN.{length, take}
use Rattle.pixel.specs.Packed.{unpacked}
use Rattle.walk.proofs.slots.release.Given as goal

abbrev pub invariant-loop-i : goal.invariant-loop-i
invariant-loop-i l = (l.i ≤ 64) × (length l.slots ≡ 64) × (take l.i l.slots ≡ map unpacked (take l.i l.held))
