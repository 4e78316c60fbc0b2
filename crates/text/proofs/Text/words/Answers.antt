-- `text::Text::words` meets its contract: the bytes copied are those for which there is room.
-- Assumes nothing.
use Rattle.std.specs.Prelude.{min}
use Rattle.std.proofs.Common.{◌≡◌, ℕ, ◌+◌, ◌-◌, ◌++◌, length, take, arith, rules, ◌∙◌, ap, ap₂}
use Rattle.std.proofs.lemmas.List.{length-take-le}
use Rattle.std.proofs.lemmas.Slice.{take-put_mid}
use Rattle.text.specs.Text.{text_of}
use Rattle.text.proofs.Laws.{as_long, added}
use Rattle.text.proofs.Text.words.Goals as goal

pub returns : goal.returns
returns c =
    let self = c.args.self in
    let words = c.args.words.now in
    let size = c.size-size in
    let more = c.min-more.result in
    let room : length self.bytes ≡ 160 = search rules in
    let copied : c.copy_from_slice.new.self ≡ take more words = c.copy_from_slice.ensures.after in
    let long = ap length copied ∙ length-take-le more words (omega arith) in
    let free = c.min-more.ensures ∙ ap (λ (n : ℕ). min (length words) (160 - n)) size.ensures.value in
    take-put_mid size.result _ self.bytes _ (size.result + more) (omega arith) (omega arith)
    ∙ ap₂ ◌++◌ (rw size.ensures.value (as_long self.len self.bytes)) (copied ∙ ap (λ (n : ℕ). take n words) free)
    ∙ added (text_of self) words (omega arith)
