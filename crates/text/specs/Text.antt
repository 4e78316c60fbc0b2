-- Words and decimal numbers as bytes of ASCII, and where a text goes.
use Rattle.std.specs.Prelude.{cond, List, [], ◌∷◌, ◌++◌, ℕ, zero, suc, ◌/◌, ◌%◌, ltb, length, take, drop}
use Prim.Native.Char.{code}
use Prim.Native.String.{String, [] as end, ◌∷◌ as ◌then◌}
use Rattle.io.specs.Digits.{hex_digit_ascii}
use Rattle.text.specs.declared.Text.{Text}

-- the bytes of words, each a character of ASCII
abbrev pub ascii : String → List ℕ
ascii end = []
ascii (c then rest) = code c ∷ ascii rest

-- the decimal digits of a number that has at most `places` of them, with no leading zero
unfoldable pub decimal_in : ℕ → ℕ → List ℕ
decimal_in zero n = []
decimal_in (suc places) n = cond (ltb n 10) (hex_digit_ascii n ∷ []) (decimal_in places (n / 10) ++ (hex_digit_ascii (n % 10) ∷ []))

-- a number below 10^20, as those of 64 bits are
abbrev pub decimal : ℕ → List ℕ
decimal n = decimal_in 20 n

-- a part of a sentence: words, or words and the number after them
pub data Part : Type 0 where
  say : String → Part
  figure : String → ℕ → Part

abbrev pub part_bytes : Part → List ℕ
part_bytes (say words) = ascii words
part_bytes (figure words n) = ascii words ++ decimal n

-- parts one after another, after what was said before
abbrev pub said_after : List ℕ → List Part → List ℕ
said_after before [] = before
said_after before (part ∷ parts) = said_after (before ++ part_bytes part) parts

-- parts one after another
abbrev pub said : List Part → List ℕ
said parts = said_after [] parts

-- as much as a text has room for
abbrev pub clipped : List ℕ → List ℕ
clipped words = take 160 words

-- what a text says
abbrev pub text_of : Text → List ℕ
text_of t = take t.len t.bytes

-- an output at exit: a text that it has room for, then what it held after that; otherwise all that it held
unfoldable pub put_over : List ℕ → List ℕ → List ℕ
put_over words out = cond (ltb (length out) (length words)) out (words ++ drop (length words) out)
