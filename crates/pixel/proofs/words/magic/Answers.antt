-- `pixel::words::magic` meets its contract: words, four figures and a bracket.
-- Assumes nothing.
use Rattle.std.proofs.Common.{◌≡◌, ◌/◌, ◌%◌, refl, rules}
use lib.Dec.{lit≤}
use Rattle.text.proofs.Laws.{spoken_whole}
use Rattle.pixel.specs.Words.{magic_parts}
use Rattle.pixel.proofs.words.magic.Goals as goal

pub returns : goal.returns
returns c =
    let none = c.empty in
    let found = c.args.found in
    let first : c.from.result ≡ found / 16777216 % 256 = search rules in
    let second : c.from-2.result ≡ found / 65536 % 256 = search rules in
    let third : c.from-3.result ≡ found / 256 % 256 = search rules in
    let fourth : c.from-4.result ≡ found % 256 = search rules in
    spoken_whole (magic_parts found) none.result c.words.result (lit≤ tt) none.ensures
    (c.figure.result, rw first at c.figure.ensures, (c.figure-2.result, rw second at c.figure-2.ensures, (c.figure-3.result, rw third at c.figure-3.ensures, (c.figure-4.result, rw fourth at c.figure-4.ensures, (c.words.result, c.words.ensures, refl)))))
