-- `pixel::words::end` meets its contract: the words of an offset, or those without one.
-- Assumes nothing.
use mathlib.Core.Path.{refl}
use mathlib.Core.List.{[], ◌∷◌}
use borrow.Author.Tests.{ne_eqb}
use lib.Dec.{lit≤}
use Rattle.text.specs.Text.{say, figure}
use Rattle.text.proofs.Laws.{spoken_whole}
use Rattle.pixel.specs.Words.{end_parts}
use Rattle.pixel.proofs.words.end.Goals as goal

pub returns-then-offset-eq0 : goal.returns-then-offset-eq0
returns-then-offset-eq0 c =
    let none = c.empty-text in
    rw c.if-offset-eq0.true
    (spoken_whole (end_parts 0) none.result c.words.result (lit≤ tt) none.ensures (c.words.result, c.words.ensures, refl))

pub returns : goal.returns
returns c =
    let none = c.empty-text in
    let offset = c.args.offset in
    rw (ne_eqb offset 0 c.if-offset-eq0.false)
    (spoken_whole (figure "record is bad at byte " offset ∷ say " (unexpected end)" ∷ []) none.result c.words-2.result (lit≤ tt) none.ensures
    (c.figure.result, c.figure.ensures, (c.words-2.result, c.words-2.ensures, refl)))
