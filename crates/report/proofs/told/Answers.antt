-- `report::told` meets its contract: too long, or what the strict check's answer is called.
-- Assumes nothing.
use mathlib.Core.Bool.{false}
use mathlib.Core.List.{List}
use mathlib.Core.Path.{◌≡◌}
use Prim.Native.Nat.{ℕ, ◌≤◌}
use native.Mathlib.Omega.{arith}
use borrow.Author.Tests.{le-ltb}
use lib.Dec.{ltb}
use lib.ListN.{length}
use Rattle.report.specs.Line.{line_parts}
use Rattle.report.proofs.told.Goals as goal

-- an input that is checked is not too long
checked : (input : List ℕ) → length input ≤ 65536 → ltb 65536 (length input) ≡ false
checked input few = le-ltb 65536 (length input) few

pub returns-in-Err : goal.returns-in-Err
unfolding line_parts
returns-in-Err c =
    rw (checked c.args.input.now (omega arith), ← c.strict.ensures, c.in-Err.is, ← c.number.ensures) c.refused.ensures

pub returns-in-Ok : goal.returns-in-Ok
unfolding line_parts
returns-in-Ok c =
    rw (checked c.args.input.now (omega arith), ← c.strict.ensures, c.in-Ok.is) c.ok.ensures
