-- Laws of texts as UTF-8: a sentence whose words are ASCII is.
-- Assumes nothing.
use mathlib.Core.Path.{◌≡◌, refl}
use mathlib.Core.Bool.{Bool, true, false, cond, ◌&&◌}
use mathlib.Core.List.{List, [], ◌∷◌, ◌++◌}
use Prim.Native.Nat.{ℕ, zero, suc, ◌+◌, ◌/◌, ◌%◌, ◌<◌}
use native.Mathlib.Omega.{arith}
use borrow.Author.Tests.{lt-ltb, ltb-true}
use lib.Dec.{T, ltb}
use lib.ListN.{get_or}
use Rattle.std.specs.Str.{IsUtf8}
use Rattle.std.proofs.lemmas.Str.{IsUtf8-nil, IsUtf8-append, IsUtf8-from_ascii}
use Rattle.io.specs.Digits.{hex_digit_ascii}
use Rattle.text.specs.Text.{Part, say, figure, ascii, decimal, decimal_in, said_after, said}

abbrev pub all_ascii : List ℕ → Bool
all_ascii [] = true
all_ascii (c ∷ rest) = ltb c 128 && all_ascii rest

each_ascii : (bytes : List ℕ) → T (all_ascii bytes) → (i : ℕ) → get_or bytes i 0 < 128
each_ascii [] t i = omega arith
each_ascii (c ∷ rest) t zero = first (ltb c 128) refl t
  where
    first : (low : Bool) → ltb c 128 ≡ low → T (low && all_ascii rest) → c < 128
    first false e t = absurd t
    first true e t = ltb-true c 128 e
each_ascii (c ∷ rest) t (suc i) = each_ascii rest (others (ltb c 128) t) i
  where
    others : (low : Bool) → T (low && all_ascii rest) → T (all_ascii rest)
    others false t = absurd t
    others true t = t

ascii_utf8 : (bytes : List ℕ) → T (all_ascii bytes) → IsUtf8 bytes
ascii_utf8 bytes t = IsUtf8-from_ascii bytes (each_ascii bytes t)

digit_utf8 : (d : ℕ) → d < 10 → IsUtf8 (hex_digit_ascii d ∷ [])
digit_utf8 d low = rw (lt-ltb d 10 low) (IsUtf8-from_ascii ((48 + d) ∷ []) one)
  where
    one : (i : ℕ) → get_or ((48 + d) ∷ []) i 0 < 128
    one zero = omega arith
    one (suc i) = omega arith

decimal_utf8 : (places n : ℕ) → IsUtf8 (decimal_in places n)
unfolding decimal_in
decimal_utf8 zero n = IsUtf8-nil
decimal_utf8 (suc places) n = go (ltb n 10) refl (decimal_utf8 places (n / 10))
  where
    go :
        (small : Bool) → ltb n 10 ≡ small → IsUtf8 (decimal_in places (n / 10))
        → IsUtf8 (cond small (hex_digit_ascii n ∷ []) (decimal_in places (n / 10) ++ (hex_digit_ascii (n % 10) ∷ [])))
    go true e above = digit_utf8 n (ltb-true n 10 e)
    go false e above = IsUtf8-append _ _ above (digit_utf8 (n % 10) (omega arith))

-- that each part's words are ASCII
abbrev pub Plain : List Part → Type 0
Plain [] = Unit {0}
Plain (say words ∷ parts) = T (all_ascii (ascii words)) × Plain parts
Plain (figure words n ∷ parts) = T (all_ascii (ascii words)) × Plain parts

said_after_utf8 : (before : List ℕ) (parts : List Part) → IsUtf8 before → Plain parts → IsUtf8 (said_after before parts)
said_after_utf8 before [] is plain = is
said_after_utf8 before (say words ∷ parts) is (words-are, plain) =
    said_after_utf8 (before ++ ascii words) parts (IsUtf8-append before (ascii words) is (ascii_utf8 (ascii words) words-are)) plain
said_after_utf8 before (figure words n ∷ parts) is (words-are, plain) =
    let part = IsUtf8-append (ascii words) (decimal n) (ascii_utf8 (ascii words) words-are) (decimal_utf8 20 n) in
    said_after_utf8 (before ++ (ascii words ++ decimal n)) parts (IsUtf8-append before (ascii words ++ decimal n) is part) plain

-- a sentence of plain parts
pub said_utf8 : (parts : List Part) → Plain parts → IsUtf8 (said parts)
said_utf8 parts plain = said_after_utf8 [] parts IsUtf8-nil plain

-- of two plain sentences whichever is said
pub either_plain : (first : Bool) (a b : List Part) → Plain a → Plain b → Plain (cond first a b)
either_plain true a b plain-a plain-b = plain-a
either_plain false a b plain-a plain-b = plain-b
