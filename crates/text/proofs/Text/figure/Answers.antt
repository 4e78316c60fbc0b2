-- `text::Text::figure` meets its contract: the digits that `io` writes are the definition's.
-- Assumes nothing.
use mathlib.Core.Path.{◌∙◌, ap}
use mathlib.Core.List.{List, ◌++◌, append_assoc}
use Prim.Native.Nat.{ℕ}
use native.Mathlib.Omega.{arith}
use Rattle.text.specs.Text.{text_of, clipped, decimal}
use Rattle.text.proofs.Laws.{fewest_digits, twenty_hold, grown}
use Rattle.text.proofs.Text.figure.Goals as goal

pub returns : goal.returns
returns c = let d = c.decimal-k in
    let a = c.args in
    let fewest = d.ensures.len in
    let same = d.ensures.digits ∙ fewest_digits 20 a.n _ (twenty_hold a.n _ (omega arith) fewest) fewest in
    grown c.words.result c.words-2.result (text_of a.self ++ a.words.now) (decimal a.n) c.words.ensures
    (c.words-2.ensures ∙ ap (λ (r : List ℕ). clipped (text_of c.words.result ++ r)) same)
    ∙ ap clipped (append_assoc (text_of a.self) a.words.now (decimal a.n))
