-- `pixel::words::of` meets its contract: what is said under each number.
-- Assumes nothing.
use mathlib.Core.List.{[], ◌∷◌}
use mathlib.Core.Path.{◌≡◌, refl}
use Prim.Native.Nat.{ℕ, ◌≤◌}
use native.Mathlib.Omega.{arith}
use borrow.Author.Tests.{ne_eqb}
use lib.Dec.{lit≤}
use Rattle.text.specs.declared.Text.{Text}
use Rattle.text.specs.Text.{figure, said, text_of}
use Rattle.text.proofs.Laws.{most, Spoken, spoken_whole}
use Rattle.pixel.specs.Words.{sentence}
use Rattle.pixel.proofs.words.of.Goals as goal

-- the sentence of the number that a test found
told :
    (number n a b c : ℕ) (none : Text) → text_of none ≡ [] → n ≡ number → (t : Text) → most (sentence number a b c) ≤ 160
    → Spoken (sentence number a b c) none t → text_of t ≡ said (sentence n a b c)
told number n a b c none nothing found t room steps =
    rw found (spoken_whole (sentence number a b c) none t room nothing steps)

pub returns-in-1 : goal.returns-in-1
unfolding sentence
returns-in-1 c = rw c.in-1.is c.end.ensures

pub returns-in-2 : goal.returns-in-2
unfolding sentence
returns-in-2 c =
    told 2 c.args.number c.args.a c.args.b c.args.c c.empty-text.result c.empty-text.ensures c.in-2.is c.figure.result (lit≤ tt) (c.figure.result, c.figure.ensures, refl)

pub returns-in-3 : goal.returns-in-3
unfolding sentence
returns-in-3 c =
    told 3 c.args.number c.args.a c.args.b c.args.c c.empty-text.result c.empty-text.ensures c.in-3.is c.words.result (lit≤ tt) (c.figure-in-3.result, c.figure-in-3.ensures, (c.words.result, c.words.ensures, refl))

pub returns-in-4 : goal.returns-in-4
unfolding sentence
returns-in-4 c = rw c.in-4.is c.magic.ensures

pub returns-in-5 : goal.returns-in-5
unfolding sentence
returns-in-5 c =
    told 5 c.args.number c.args.a c.args.b c.args.c c.empty-text.result c.empty-text.ensures c.in-5.is c.figure-in-5-2.result (lit≤ tt) (c.figure-in-5.result, c.figure-in-5.ensures, (c.figure-in-5-2.result, c.figure-in-5-2.ensures, refl))

pub returns-in-6 : goal.returns-in-6
unfolding sentence
returns-in-6 c =
    told 6 c.args.number c.args.a c.args.b c.args.c c.empty-text.result c.empty-text.ensures c.in-6.is c.figure-in-6-3.result (lit≤ tt) (c.figure-in-6.result, c.figure-in-6.ensures, (c.figure-in-6-2.result, c.figure-in-6-2.ensures, (c.figure-in-6-3.result, c.figure-in-6-3.ensures, refl)))

pub returns-in-7 : goal.returns-in-7
unfolding sentence
returns-in-7 c =
    told 7 c.args.number c.args.a c.args.b c.args.c c.empty-text.result c.empty-text.ensures c.in-7.is c.words-in-7.result (lit≤ tt) (c.figure-in-7.result, c.figure-in-7.ensures, (c.figure-in-7-2.result, c.figure-in-7-2.ensures, (c.words-in-7.result, c.words-in-7.ensures, refl)))

pub returns-in-8 : goal.returns-in-8
unfolding sentence
returns-in-8 c =
    told 8 c.args.number c.args.a c.args.b c.args.c c.empty-text.result c.empty-text.ensures c.in-8.is c.words-in-8.result (lit≤ tt) (c.words-in-8.result, c.words-in-8.ensures, refl)

pub returns-in-9 : goal.returns-in-9
unfolding sentence
returns-in-9 c = rw c.in-9.is c.bad.ensures

pub returns-in-10 : goal.returns-in-10
unfolding sentence
returns-in-10 c =
    told 10 c.args.number c.args.a c.args.b c.args.c c.empty-text.result c.empty-text.ensures c.in-10.is c.words-in-10.result (lit≤ tt) (c.words-in-10.result, c.words-in-10.ensures, refl)

pub returns-in-11 : goal.returns-in-11
unfolding sentence
returns-in-11 c =
    told 11 c.args.number c.args.a c.args.b c.args.c c.empty-text.result c.empty-text.ensures c.in-11.is c.words-in-11.result (lit≤ tt) (c.words-in-11.result, c.words-in-11.ensures, refl)

pub returns-in-12 : goal.returns-in-12
unfolding sentence
returns-in-12 c =
    told 12 c.args.number c.args.a c.args.b c.args.c c.empty-text.result c.empty-text.ensures c.in-12.is c.figure-in-12.result (lit≤ tt) (c.figure-in-12.result, c.figure-in-12.ensures, refl)

pub returns-in-19 : goal.returns-in-19
unfolding sentence
returns-in-19 c =
    told 19 c.args.number c.args.a c.args.b c.args.c c.empty-text.result c.empty-text.ensures c.in-19.is c.words-in-19.result (lit≤ tt) (c.figure-in-19.result, c.figure-in-19.ensures, (c.words-in-19.result, c.words-in-19.ensures, refl))

pub returns-in-20 : goal.returns-in-20
unfolding sentence
returns-in-20 c =
    told 20 c.args.number c.args.a c.args.b c.args.c c.empty-text.result c.empty-text.ensures c.in-20.is c.words-in-20.result (lit≤ tt) (c.figure-in-20.result, c.figure-in-20.ensures, (c.figure-in-20-2.result, c.figure-in-20-2.ensures, (c.words-in-20.result, c.words-in-20.ensures, refl)))

pub returns-in-21 : goal.returns-in-21
unfolding sentence
returns-in-21 c =
    told 21 c.args.number c.args.a c.args.b c.args.c c.empty-text.result c.empty-text.ensures c.in-21.is c.words-in-21.result (lit≤ tt) (c.figure-in-21.result, c.figure-in-21.ensures, (c.words-in-21.result, c.words-in-21.ensures, refl))

pub returns-in_default : goal.returns-in_default
unfolding sentence
returns-in_default c =
    let number = c.args.number in
    rw (ne_eqb number 1 (omega arith), ne_eqb number 2 (omega arith), ne_eqb number 3 (omega arith), ne_eqb number 4 (omega arith), ne_eqb number 5 (omega arith), ne_eqb number 6 (omega arith), ne_eqb number 7 (omega arith), ne_eqb number 8 (omega arith), ne_eqb number 9 (omega arith), ne_eqb number 10 (omega arith), ne_eqb number 11 (omega arith), ne_eqb number 12 (omega arith), ne_eqb number 19 (omega arith), ne_eqb number 20 (omega arith), ne_eqb number 21 (omega arith))
    (spoken_whole (figure "unknown refusal: " number ∷ []) c.empty-text.result c.figure-in_default.result (lit≤ tt) c.empty-text.ensures (c.figure-in_default.result, c.figure-in_default.ensures, refl))
