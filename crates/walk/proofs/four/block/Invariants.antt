-- What the loop of `four::block` keeps.
use mathlib.Core.Path.{◌≡◌}
use Prim.Native.Nat.{◌≤◌}
use lib.ListN.{length}
use Rattle.pixel.specs.Packed.{unpacked}
use Rattle.walk.specs.Asked.{bytes_in}
use Rattle.walk.proofs.Pasting.{Filled}
use Rattle.walk.proofs.four.block.Given as goal

abbrev pub invariant-loop-i : goal.invariant-loop-i
invariant-loop-i g l = (l.i ≤ g.row.N) × (length l.out ≡ length l.initial.out) × Filled l.initial.out l.at (bytes_in 4 (unpacked l.p)) l.i l.out
