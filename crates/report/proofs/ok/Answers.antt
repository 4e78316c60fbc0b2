-- `report::ok` meets its contract: the words and figures one after another are the definition's.
-- Assumes nothing.
use mathlib.Core.Path.{refl}
use lib.Dec.{lit≤}
use Rattle.text.proofs.Laws.{spoken_whole}
use Rattle.report.specs.Line.{ok_parts}
use Rattle.report.proofs.ok.Goals as goal

pub returns : goal.returns
returns c =
    let a = c.args in
    spoken_whole (ok_parts a.header a.chunks a.bytes) c.empty.result c.words.result (lit≤ tt) c.empty.ensures
    (c.figure.result, rw c.from.ensures at c.figure.ensures, (c.figure-2.result, rw c.from-2.ensures at c.figure-2.ensures, (c.figure-3.result, rw (c.from-3.ensures, c.as_u8.ensures) at c.figure-3.ensures, (c.figure-4.result, rw (c.from-4.ensures, c.as_u8-2.ensures) at c.figure-4.ensures, (c.figure-5.result, c.figure-5.ensures, (c.figure-6.result, c.figure-6.ensures, (c.words.result, c.words.ensures, refl)))))))
