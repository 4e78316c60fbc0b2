-- `strict::close` meets its contract: the marker test of the part from the end on is the definition's at this place.
use Rattle.std.proofs.Common.{rules}
use Rattle.std.specs.Prelude.{Result}
use mathlib.Core.Path.{◌≡◌}
use mathlib.Core.List.{List}
use Prim.Native.Nat.{ℕ, ◌+◌, ◌-◌}
use native.Mathlib.Omega.{arith}
use lib.ListN.{length, take, drop}
use borrow.Author.Tests.{lt-ltb, le-ltb}
use Rattle.pixel.specs.declared.error.Error.{Error}
use Rattle.rules.specs.Reading.{closing}
use Rattle.rules.specs.Strict.{strict_closed}
use Rattle.rules.proofs.PastingLaws.{whole_tail}
use Rattle.chunk.specs.Found.{ending_at, closed_by}
use Rattle.chunk.proofs.Ends.{closing_by}
use Rattle.strict.proofs.close.Goals as goal

-- the marker test by what the reader of the end told
by :
    (message : List ℕ) (end : ℕ) (r r' : Result (Unit {0}) Error) → r ≡ r'
    → r ≡ ending_at (take (length message - end) (drop end message))
    → closing 0 message end ≡ closed_by 0 end r'
by message end r r' told e = rw (closing_by 0 message end, ← whole_tail message end, ← e, told)

pub returns-in_err-read_end : goal.returns-in_err-read_end
unfolding strict_closed
returns-in_err-read_end c =
    let args = c.args in
    let told = by args.message.now args.end _ _ c.in_err-read_end.was c.read_end.ensures in
    rw told (search rules)

pub returns-then-bytes-message : goal.returns-then-bytes-message
unfolding strict_closed
returns-then-bytes-message c =
    let args = c.args in
    let told = by args.message.now args.end _ _ c.in_ok-read_end.was c.read_end.ensures in
    rw (told, lt-ltb (args.end + 8) (length args.message.now) (omega (arith, c.if-bytes-message.true)))

pub returns : goal.returns
unfolding strict_closed
returns c =
    let args = c.args in
    let told = by args.message.now args.end _ _ c.in_ok-read_end.was c.read_end.ensures in
    rw (told, le-ltb (args.end + 8) (length args.message.now) (omega (arith, c.if-bytes-message.false)))
