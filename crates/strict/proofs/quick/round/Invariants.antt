-- What the loop of `quick::round` keeps, and why it ends.
use mathlib.Core.Path.{◌≡◌}
use Prim.Native.Nat.{◌+◌, ◌-◌, ◌*◌, ◌≤◌}
use lib.ListN.{length}
use Rattle.header.specs.Header.{pixel_count}
use Rattle.header.specs.declared.Header.{Header}
use Rattle.strict.specs.Asked.{Head}
use Rattle.strict.proofs.quick.round.Given as goal

-- the loop has no header of its own: what it reaches holds of each header with these channels that its start holds of
abbrev pub invariant-loop-quota : goal.invariant-loop-quota
invariant-loop-quota l = ((header : Header)
    → header.channels ≡ l.source
    → Head header l.message (pixel_count header) l.initial.left l.initial.at (l.most - l.initial.quota)
    → Head header l.message (pixel_count header) l.left l.at (l.most - l.quota))
    × (l.quota ≤ l.left)
    × (l.at + 8 * l.quota ≤ length l.message)
    × (l.quota ≤ l.most)

abbrev pub decreases-loop-quota : goal.decreases-loop-quota
decreases-loop-quota l = l.quota
