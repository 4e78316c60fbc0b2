-- The laws of words, for the layers above to cite.
-- Assumes nothing.
use Rattle.std.specs.Prelude.{Ok}
use mathlib.Core.List.{List}
use mathlib.Core.Path.{◌≡◌}
use Prim.Native.Nat.{ℕ, ◌≤◌}
use borrow.Author.Tests.{le-ltb}
use lib.Dec.{eqb, lit≤}
use lib.ListN.{length, get_or}
use Rattle.text.proofs.Laws.{said_fits, either_fits}
use Rattle.text.proofs.Utf8.{said_utf8, either_plain}
use Rattle.std.specs.Str.{IsUtf8}
use Rattle.pixel.specs.Words.{sentence, words_of, worded_in}

-- room for the words
pub long_enough : (words : List ℕ) (room : ℕ) → length words ≤ room → worded_in words room ≡ Ok (length words)
unfolding worded_in
long_enough words room fits = rw (le-ltb room (length words) fits)

-- no words are longer than 160 bytes
pub words_short : (number : ℕ) (figures : List ℕ) → length (words_of number figures) ≤ 160
unfolding sentence
words_short number figures =
    said_fits (sentence number (get_or figures 0 0) (get_or figures 1 0) (get_or figures 2 0))
    (either_fits (eqb number 1) _ _ (either_fits (eqb (get_or figures 0 0) 0) _ _ (lit≤ tt) (lit≤ tt))
    (either_fits (eqb number 2) _ _ (lit≤ tt)
    (either_fits (eqb number 3) _ _ (lit≤ tt)
    (either_fits (eqb number 4) _ _ (lit≤ tt)
    (either_fits (eqb number 5) _ _ (lit≤ tt)
    (either_fits (eqb number 6) _ _ (lit≤ tt)
    (either_fits (eqb number 7) _ _ (lit≤ tt)
    (either_fits (eqb number 8) _ _ (lit≤ tt)
    (either_fits (eqb number 9) _ _ (either_fits (eqb (get_or figures 0 0) 0) _ _ (lit≤ tt) (lit≤ tt))
    (either_fits (eqb number 10) _ _ (lit≤ tt)
    (either_fits (eqb number 11) _ _ (lit≤ tt)
    (either_fits (eqb number 12) _ _ (lit≤ tt)
    (either_fits (eqb number 19) _ _ (lit≤ tt)
    (either_fits (eqb number 20) _ _ (lit≤ tt)
    (either_fits (eqb number 21) _ _ (lit≤ tt) (lit≤ tt))))))))))))))))

-- the words of a refusal are UTF-8
pub words_utf8 : (number : ℕ) (figures : List ℕ) → IsUtf8 (words_of number figures)
unfolding sentence
words_utf8 number figures =
    said_utf8 (sentence number (get_or figures 0 0) (get_or figures 1 0) (get_or figures 2 0))
    (either_plain (eqb number 1) _ _ (either_plain (eqb (get_or figures 0 0) 0) _ _ (tt, tt) (tt, (tt, tt)))
    (either_plain (eqb number 2) _ _ (tt, tt)
    (either_plain (eqb number 3) _ _ (tt, (tt, tt))
    (either_plain (eqb number 4) _ _ (tt, (tt, (tt, (tt, (tt, tt)))))
    (either_plain (eqb number 5) _ _ (tt, (tt, tt))
    (either_plain (eqb number 6) _ _ (tt, (tt, (tt, tt)))
    (either_plain (eqb number 7) _ _ (tt, (tt, (tt, tt)))
    (either_plain (eqb number 8) _ _ (tt, tt)
    (either_plain (eqb number 9) _ _ (either_plain (eqb (get_or figures 0 0) 0) _ _ (tt, tt) (tt, tt))
    (either_plain (eqb number 10) _ _ (tt, tt)
    (either_plain (eqb number 11) _ _ (tt, tt)
    (either_plain (eqb number 12) _ _ (tt, tt)
    (either_plain (eqb number 19) _ _ (tt, (tt, tt))
    (either_plain (eqb number 20) _ _ (tt, (tt, (tt, tt)))
    (either_plain (eqb number 21) _ _ (tt, (tt, tt)) (tt, tt))))))))))))))))
