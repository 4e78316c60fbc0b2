-- What `pixel::error::Error` prints is its words: there is room for them, and they are UTF-8.
-- Assumes nothing.
use Rattle.std.proofs.Common.{◌≡◌, ℕ, List, length, take, Result, Ok, Err, arith, sym, ◌∙◌, subst, refl, ap}
use Rattle.std.specs.Prelude.{replicate}
use Rattle.std.specs.Result.{IsOk, MatchResult}
use Rattle.std.specs.Str.{IsUtf8}
use Rattle.std.proofs.lemmas.List.{take_at}
use Rattle.text.proofs.Laws.{put_room, put_length}
use Rattle.text.specs.Text.{put_over}
use Rattle.pixel.specs.declared.error.Error.{Error}
use Rattle.pixel.specs.Refusal.{number_of, figures_of}
use Rattle.pixel.specs.Words.{words_of, worded_in}
use Rattle.pixel.proofs.WordsLaws.{words_short, words_utf8, long_enough}
use Rattle.pixel.proofs.error.ErrorDisplay.fmt.Goals as goal

-- the words of a refusal
abbrev words : Error → List ℕ
words e = words_of (number_of e) (figures_of e)

-- they are written whole
whole : (e : Error) (r : Result ℕ Error) → r ≡ worded_in (words e) 160 → r ≡ Ok (length (words e))
whole e r is = is ∙ long_enough (words e) 160 (words_short (number_of e) (figures_of e))

size_of : (e : Error) (r : Result ℕ Error) (size : ℕ) → r ≡ worded_in (words e) 160 → r ≡ Ok size → size ≡ length (words e)
size_of e r size is done = let all = whole e r is in cc

-- at the front
front :
    (e : Error) (size : ℕ) (out : List ℕ) → size ≡ length (words e) → out ≡ put_over (words e) (replicate 160 0)
    → take size out ≡ words e
front e size out all is =
    rw (all, is, put_room (words e) (replicate 160 0) (words_short (number_of e) (figures_of e))) (take_at (words e) _ _ refl)

-- what is UTF-8 is read as text
is_read :
    {S E : Type 0} (P : S → Type 0) (Q : E → Type 0) (bytes : List ℕ) (r : Result S E) → IsUtf8 bytes
    → MatchResult r P (λ e. ¬ IsUtf8 bytes × Q e) → IsOk r
is_read P Q bytes (Ok s) are cases = refl
is_read P Q bytes (Err e) are cases = absurd (cases.0 are)

pub unwrap-size-requires : goal.unwrap-size-requires
unwrap-size-requires g c = subst IsOk (sym (whole c.args.self.now _ c.text.ensures.value)) refl

pub slice_bounds-bytes-end : goal.slice_bounds-bytes-end
slice_bounds-bytes-end g c =
    let e = c.args.self.now in
    let all = size_of e _ c.unwrap-size.result c.text.ensures.value c.unwrap-size.ensures in
    let short = words_short (number_of e) (figures_of e) in
    let room : length c.text.new.out ≡ 160 = ap length c.text.ensures.out_after ∙ put_length (words e) (replicate 160 0) in
    omega arith

pub slice_bounds-from_utf8-end : goal.slice_bounds-from_utf8-end
slice_bounds-from_utf8-end g c =
    let all = size_of c.args.self.now _ c.unwrap-size.result c.text.ensures.value c.unwrap-size.ensures in
    all ∙ sym (ap length (front c.args.self.now _ _ all c.text.ensures.out_after))

pub unwrap-words-requires : goal.unwrap-words-requires
unwrap-words-requires g c =
    let e = c.args.self.now in
    let all = size_of e _ c.unwrap-size.result c.text.ensures.value c.unwrap-size.ensures in
    is_read _ _ _ _ (subst IsUtf8 (sym (front e _ _ all c.text.ensures.out_after)) (words_utf8 (number_of e) (figures_of e))) c.from_utf8.ensures.cases

pub returns-clause-writes : goal.returns-clause-writes
returns-clause-writes g c =
    let all = size_of c.args.self.now _ c.unwrap-size.result c.text.ensures.value c.unwrap-size.ensures in
    let same = (rw c.unwrap-words.ensures at c.from_utf8.ensures.cases).0 ∙ front c.args.self.now _ _ all c.text.ensures.out_after in
    rw same at c.write_str.ensures.writes
