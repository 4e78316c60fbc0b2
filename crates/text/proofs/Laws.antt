-- Laws of texts: how one grows byte by byte, and the digits of a number.
-- Assumes nothing.
use mathlib.Core.Path.{◌≡◌, refl, sym, ◌∙◌, ap}
use mathlib.Core.Bool.{Bool, true, false, cond}
use mathlib.Core.List.{List, [], ◌∷◌, ◌++◌}
use Prim.Native.Nat.{ℕ, zero, suc, ◌+◌, ◌-◌, ◌/◌, ◌%◌, ◌^◌, ◌≤◌, ◌<◌}
use native.Mathlib.Nat.{pow-suc, pow-le-pow_right, one-le-pow, mod-eq_of_lt, lt_of_not-le}
use native.Mathlib.Omega.{arith}
use borrow.Author.Tests.{lt-ltb, le-ltb, ltb-false}
use Rattle.std.specs.Prelude.{min}
use Rattle.std.proofs.Math.Nat.{min_comm}
use Rattle.std.proofs.lemmas.List.{take_min}
use lib.Dec.{ltb}
use lib.ListN.{length, take, drop, length-take, length-drop, length-append}
use lib.Seq.{take_all, take-length, take-append-add}
use Rattle.io.specs.Digits.{hex_digit_ascii, last_digits, IsDigitCount}
use Rattle.text.specs.declared.Text.{Text}
use Rattle.text.specs.Text.{Part, say, figure, ascii, decimal, decimal_in, part_bytes, said_after, said, clipped, text_of, put_over}

-- what is clipped again later may be clipped first
pub onto : (n : ℕ) (words more : List ℕ) → take n (take n words ++ more) ≡ take n (words ++ more)
onto zero words more = refl
onto (suc n) [] more = refl
onto (suc n) (x ∷ words) more = ap (λ (r : List ℕ). x ∷ r) (onto n words more)

-- the first bytes, by how many there are
pub as_long : (len : ℕ) (bytes : List ℕ) → take (length (take len bytes)) bytes ≡ take len bytes
as_long len bytes = rw (length-take, take_min)

-- an output that has room holds the words, then what it held after them
pub put_room : (words out : List ℕ) → length words ≤ length out → put_over words out ≡ words ++ drop (length words) out
unfolding put_over
put_room words out fits = rw (le-ltb (length out) (length words) fits)

-- a copy to the front of an output that has room
pub placed :
    (words out : List ℕ) → length words ≤ length out
    → take (length words) words ++ drop (length words) out ≡ put_over words out
placed words out fits = rw (take-length words, put_room words out fits)

-- the bytes added are those for which there is room
pub added :
    (said words : List ℕ) → length said ≤ 160 → said ++ take (min (length words) (160 - length said)) words ≡ clipped (said ++ words)
added said words fits =
    let room : 160 ≡ length said + (160 - length said) = omega arith in
    rw (min_comm, take_min) (sym (take-append-add said words (160 - length said)) ∙ ap (λ (n : ℕ). take n (said ++ words)) (sym room))

-- a number's digits, where the fewest that hold it are at most `places`
pub fewest_digits : (places n k : ℕ) → k ≤ places → IsDigitCount 10 1 n k → last_digits 10 k n ≡ decimal_in places n
unfolding decimal_in
fewest_digits places n zero fits (least, below, above) = absurd (omega arith)
fewest_digits zero n (suc k) fits (least, below, above) = absurd (omega arith)
fewest_digits (suc places) n (suc zero) fits (least, below, above) =
    rw (lt-ltb n 10 below, mod-eq_of_lt {n = n} {m = 10} below) (rw (lt-ltb n 10 below) refl)
fewest_digits (suc places) n (suc (suc k)) fits (least, below, above) =
    let longer : 10 ^ suc k ≤ n = rw (e k) at (above (omega arith)) in
    rw (le-ltb n 10 (omega (arith, pow-suc 10 k, one-le-pow k 10 (omega arith))))
    (ap (λ (r : List ℕ). r ++ (hex_digit_ascii (n % 10) ∷ []))
    (fewest_digits places (n / 10) (suc k) (omega arith) (omega arith, omega (arith, pow-suc 10 (suc k)), λ more. rw (f k) (omega (arith, pow-suc 10 k)))))
  where
    e : (k : ℕ) → suc (suc k) - 1 ≡ suc k
    e k = omega arith

    f : (k : ℕ) → suc k - 1 ≡ k
    f k = omega arith

-- twenty hold a number of 64 bits
pub twenty_hold : (n k : ℕ) → n < 2 ^ 64 → IsDigitCount 10 1 n k → k ≤ 20
twenty_hold n k fits (least, below, above) =
    omega (arith, lt_of_not-le {n = 21} {m = k} (λ more. omega (arith, above (omega arith), pow-le-pow_right {n = 10} (omega arith) {i = 20} {j = k - 1} (omega arith))))

-- and there are at most `places` of them
pub decimal_short : (places n : ℕ) → length (decimal_in places n) ≤ places
unfolding decimal_in
decimal_short zero n = omega arith
decimal_short (suc places) n = go (ltb n 10) (decimal_short places (n / 10))
  where
    go :
        (small : Bool) → length (decimal_in places (n / 10)) ≤ places
        → length (cond small (hex_digit_ascii n ∷ []) (decimal_in places (n / 10) ++ (hex_digit_ascii (n % 10) ∷ []))) ≤ suc places
    go true fits = omega arith
    go false fits = rw (length-append (decimal_in places (n / 10)) (hex_digit_ascii (n % 10) ∷ [])) (omega arith)

-- how many bytes parts have at most
abbrev pub most : List Part → ℕ
most [] = 0
most (say words ∷ parts) = length (ascii words) + most parts
most (figure words n ∷ parts) = length (ascii words) + (20 + most parts)

said_short : (before : List ℕ) (parts : List Part) → length (said_after before parts) ≤ length before + most parts
said_short before [] = omega arith
said_short before (say words ∷ parts) =
    omega (arith, rw (length-append before (ascii words)) at (said_short (before ++ ascii words) parts))
said_short before (figure words n ∷ parts) =
    omega (arith, decimal_short 20 n, length-append before (ascii words ++ decimal n), length-append (ascii words) (decimal n), said_short (before ++ (ascii words ++ decimal n)) parts)

-- a sentence whose parts have at most 160 bytes fits a text
pub said_fits : (parts : List Part) → most parts ≤ 160 → length (said parts) ≤ 160
said_fits parts room = omega (arith, said_short [] parts)

-- of two sentences that fit, whichever is said
pub either_fits : (first : Bool) (a b : List Part) → most a ≤ 160 → most b ≤ 160 → most (cond first a b) ≤ 160
either_fits true a b fits-a fits-b = fits-a
either_fits false a b fits-a fits-b = fits-b

-- what a text says that grew by more bytes
pub grown :
    (t t' : Text) (before more : List ℕ) → text_of t ≡ clipped before → text_of t' ≡ clipped (text_of t ++ more)
    → text_of t' ≡ clipped (before ++ more)
grown t t' before more so then = then ∙ rw so (onto 160 before more)

-- from one text to another, part by part
abbrev pub Spoken : List Part → Text → Text → Type 0
Spoken [] t t' = text_of t' ≡ text_of t
Spoken (part ∷ parts) t t' = (next : Text) × (text_of next ≡ clipped (text_of t ++ part_bytes part)) × Spoken parts next t'

spoken :
    (parts : List Part) (t t' : Text) (before : List ℕ) → text_of t ≡ clipped before → Spoken parts t t'
    → text_of t' ≡ clipped (said_after before parts)
spoken [] t t' before so same = same ∙ so
spoken (part ∷ parts) t t' before so (next, step, rest) =
    spoken parts next t' (before ++ part_bytes part) (grown t next before (part_bytes part) so step) rest

-- a sentence for which there is room, from nothing said
pub spoken_whole :
    (parts : List Part) (t t' : Text) → most parts ≤ 160 → text_of t ≡ [] → Spoken parts t t' → text_of t' ≡ said parts
spoken_whole parts t t' room none steps =
    spoken parts t t' [] none steps ∙ take_all 160 (said parts) (said_fits parts room)

-- an output keeps its length
pub put_length : (words out : List ℕ) → length (put_over words out) ≡ length out
unfolding put_over
put_length words out = go (ltb (length out) (length words)) refl
  where
    go :
        (short : Bool) → ltb (length out) (length words) ≡ short
        → length (cond short out (words ++ drop (length words) out)) ≡ length out
    go true e = refl
    go false e =
        rw (length-append words (drop (length words) out), length-drop (length words) out)
        (omega (arith, ltb-false (length out) (length words) e))
