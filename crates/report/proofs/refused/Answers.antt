-- `report::refused` meets its contract: the word, the number and the line's end are the definition's.
-- Assumes nothing.
use mathlib.Core.Path.{refl}
use lib.Dec.{lit≤}
use Rattle.text.proofs.Laws.{spoken_whole}
use Rattle.report.specs.Line.{refused_parts}
use Rattle.report.proofs.refused.Goals as goal

pub returns : goal.returns
returns c =
    spoken_whole (refused_parts c.args.number) c.empty.result c.words.result (lit≤ tt) c.empty.ensures
    (c.figure.result, c.figure.ensures, (c.words.result, c.words.ensures, refl))
