-- A line always fits the room that `print_line` has for it; and what the line of an input is that is too long.
-- Assumes nothing.
use mathlib.Core.List.{List}
use mathlib.Core.Path.{◌≡◌}
use Prim.Native.Nat.{ℕ, ◌≤◌, ◌<◌}
use borrow.Author.Tests.{lt-ltb}
use lib.Dec.{ltb, lit≤}
use lib.ListN.{length}
use Rattle.text.specs.Text.{ascii}
use Rattle.text.proofs.Laws.{most, said_fits, either_fits}
use Rattle.rules.specs.Strict.{StrictAnswer, accepted, rejected, strict}
use Rattle.report.specs.Line.{verdict_parts, line_parts, line_of}

verdict_short : (answer : StrictAnswer) → most (verdict_parts answer) ≤ 160
verdict_short (accepted header chunks bytes) = lit≤ tt
verdict_short (rejected e) = lit≤ tt

-- no line is longer than 160 bytes
pub line_short : (input : List ℕ) → length (line_of input) ≤ 160
unfolding line_parts
line_short input = said_fits (line_parts input) (either_fits (ltb 65536 (length input)) _ _ (lit≤ tt) (verdict_short (strict input)))

-- the line of an input that is too long
pub long_line : (input : List ℕ) → 65536 < length input → line_of input ≡ ascii "too long\n"
unfolding line_parts
long_line input long = rw (lt-ltb 65536 (length input) long)
