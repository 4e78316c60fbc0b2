-- The number code's laws: a written number reads back, cut short it is 1 where it starts, how long it is, what a number
-- that is read is below, that it is written back, and which refusals there are. Assumes nothing.
use Rattle.std.specs.Prelude.{Result, Ok, Err}
use Rattle.pixel.specs.declared.error.Error.{Error}
use Rattle.number.specs.declared.Number.{Number}
use Prim.Native.Nat.{ℕ, zero, suc, ◌+◌, ◌-◌, ◌*◌, ◌/◌, ◌%◌, ◌^◌, ◌≤◌, ◌<◌}
use mathlib.Core.Path.{◌≡◌, refl, sym, ap, subst, ◌∙◌}
use mathlib.Core.Bool.{Bool, true, false, cond}
use mathlib.Core.List.{List, [], ◌∷◌, ◌++◌}
use native.Mathlib.Nat.{pow-suc, pow-le-pow_right, one-le-pow, lt_of_not-le}
use lib.Pow.{pow-add}
use Rattle.std.specs.Prelude.{max}
use native.Mathlib.Numerals.{add-one}
use native.Mathlib.Decide.{dec_le}
use native.Mathlib.Omega.{arith}
use lib.Dec.{eqb, ltb}
use lib.ListN.{length, take, drop, length-append, length-drop, take-append-drop}
use lib.Seq.{drop-append_seam, get_or-drop, drop-drop}
use borrow.Author.Tests.{eqb-true, eqb-false, lt-ltb, le-ltb, eq-eqb, ne_eqb}
use Rattle.pixel.specs.Bytes.{AllBytes}
use Rattle.pixel.specs.declared.error.Error.TheVariants.{UnexpectedBufferEnd, BadState}
use Rattle.number.specs.Seven.{number_read, seven_bits, seven_bits_of, read_number, read_first, read_more, group_below}

-- a number is one group of seven bits, or more
by_size : {P : Type 0} (n : ℕ) → (n < 128 → P) → (128 ≤ n → P) → P
by_size {P} n one more = go (dec_le 128 n)
  where
    go : Dec (128 ≤ n) → P
    go (yes h) = more h
    go (no h) = one (lt_of_not-le h)

-- one group is one byte, itself
last_byte : (more n : ℕ) → n < 128 → seven_bits_of more n ≡ n ∷ []
unfolding seven_bits_of
last_byte zero n h = refl
last_byte (suc more) n h = rw (lt-ltb n 128 h)

-- of more groups the lowest comes first, with the top bit set
next_byte : (more n : ℕ) → 128 ≤ n → seven_bits_of (suc more) n ≡ (128 + n % 128) ∷ seven_bits_of more (n / 128)
unfolding seven_bits_of
next_byte more n h = rw (le-ltb n 128 h)

-- bytes beyond those that a number needs may be allowed: they are not written
enough : (k more n : ℕ) → n < 128 ^ suc k → k ≤ more → seven_bits_of more n ≡ seven_bits_of k n
enough zero more n h le = last_byte more n h ∙ sym (last_byte zero n h)
enough (suc k) zero n h le = absurd (omega arith)
enough (suc k) (suc more) n h le =
    by_size n (λ low. last_byte (suc more) n low ∙ sym (last_byte (suc k) n low))
    (λ high.
    next_byte more n high
    ∙ ap {B = List ℕ} (λ l. (128 + n % 128) ∷ l) (enough k more (n / 128) (omega (arith, pow-suc 128 (suc k))) (omega arith))
    ∙ sym (next_byte k n high))

-- a number below 128 is written as one byte, itself
pub one_byte : (n : ℕ) → n < 128 → seven_bits n ≡ n ∷ []
unfolding seven_bits
one_byte n h = last_byte 9 n h

-- any other is its lowest group with the top bit set, and then what is left of it as it would be written
pub first_byte : (n : ℕ) → 128 ≤ n → n < 2 ^ 64 → seven_bits n ≡ (128 + n % 128) ∷ seven_bits (n / 128)
unfolding seven_bits
first_byte n high fits =
    next_byte 8 n high ∙ ap {B = List ℕ} (λ l. (128 + n % 128) ∷ l) (sym (enough 8 9 (n / 128) (omega arith) (omega arith)))

-- with `more` bytes allowed after the first, a number takes one byte at least and `more` and one at most
length_of : (more n : ℕ) → (1 ≤ length (seven_bits_of more n)) × (length (seven_bits_of more n) ≤ suc more)
unfolding seven_bits_of
length_of zero n = omega arith
length_of (suc more) n =
    by_size n (λ low. rw (last_byte (suc more) n low) (omega arith))
    (λ high. rw (next_byte more n high) (omega (arith, length_of more (n / 128))))

-- a number takes one byte at least
pub length_at_least_one : (n : ℕ) → 1 ≤ length (seven_bits n)
unfolding seven_bits
length_at_least_one n = (length_of 9 n).0

-- a number takes ten bytes at most
pub length_at_most_ten : (n : ℕ) → length (seven_bits n) ≤ 10
unfolding seven_bits
length_at_most_ten n = (length_of 9 n).1

-- a number below 128^(k + 1), k + 1 groups, takes k + 1 bytes at most
pub length_at_most : (k n : ℕ) → k ≤ 9 → n < 128 ^ suc k → length (seven_bits n) ≤ suc k
unfolding seven_bits
length_at_most k n le h = rw (enough k 9 n h le) (length_of k n).1

-- a number of k + 1 groups takes k + 1 bytes
length_is : (k more n : ℕ) → k ≤ more → 128 ^ k ≤ n → n < 128 ^ suc k → length (seven_bits_of more n) ≡ suc k
length_is zero more n le least below = ap length (last_byte more n below)
length_is (suc k) zero n le least below = absurd (omega arith)
length_is (suc k) (suc more) n le least below =
    let some = one-le-pow k 128 (omega arith) in
    let first : 128 ≤ n = omega (arith, pow-suc 128 k) in
    ap length (next_byte more n first)
    ∙ ap suc (length_is k more (n / 128) (omega arith) (omega (arith, pow-suc 128 k)) (omega (arith, pow-suc 128 (suc k))))

seven_bits_each : (k : ℕ) → 2 ^ (7 * k) ≡ 128 ^ k
seven_bits_each zero = refl
seven_bits_each (suc k) =
    let one_more : 7 * suc k ≡ 7 * k + 7 = omega arith in
    rw (one_more, pow-add 2 (7 * k) 7, seven_bits_each k) (omega (arith, pow-suc 128 k))

-- as many as there are sevens in its bits; one bit is the least
pub length_by_bits :
    (n r : ℕ) → 2 ^ r ≤ max n 1 → max n 1 < 2 * 2 ^ r → r < 64 → length (seven_bits n) ≡ r / 7 + 1
unfolding seven_bits
length_by_bits n r least below fits =
    let k = r / 7 in
    let low : 2 ^ (7 * k) ≤ 2 ^ r = pow-le-pow_right {n = 2} (omega arith) (omega arith) in
    let high : 2 ^ suc r ≤ 2 ^ (7 * suc k) = pow-le-pow_right {n = 2} (omega arith) (omega arith) in
    let floor : 128 ^ k ≤ max n 1 = omega (arith, seven_bits_each k) in
    let limit : max n 1 < 128 ^ suc k = omega (arith, seven_bits_each (suc k), pow-suc 2 r) in
    same ∙ length_is k 9 (max n 1) (omega arith) floor limit ∙ sym (add-one k)
  where
    same : length (seven_bits_of 9 n) ≡ length (seven_bits_of 9 (max n 1))
    same =
        by_size n (λ low. ap length (last_byte 9 n low) ∙ sym (ap length (last_byte 9 (max n 1) (omega arith))))
        (λ high. ap (λ (m : ℕ). length (seven_bits_of 9 m)) (omega arith))

-- a number below 128 takes one byte
pub length_one : (n : ℕ) → n < 128 → length (seven_bits n) ≡ 1
length_one n h = ap length (one_byte n h)

-- what takes two bytes or more is no single group
pub more_than_one : (n : ℕ) → 2 ≤ length (seven_bits n) → 128 ≤ n
more_than_one n two = by_size n (λ low. absurd (omega (arith, length_one n low))) (λ high. high)

-- and what takes one is one
pub only_one : (n : ℕ) → n < 2 ^ 64 → length (seven_bits n) ≡ 1 → n < 128
only_one n fits one =
    by_size n (λ low. low)
    (λ high. absurd (omega (arith, ap length (first_byte n high fits), length_at_least_one (n / 128))))

-- a number of 35 bits takes five bytes at most
pub length_at_most_five : (n : ℕ) → n < 2 ^ 35 → length (seven_bits n) ≤ 5
length_at_most_five n h = length_at_most 4 n (omega arith) h

-- the lowest group below what is left of a number gives the number
below_written : (n used : ℕ) → group_below (128 + n % 128) (number_read (n / 128) used) ≡ number_read n (suc used)
unfolding group_below
below_written n used =
    let back : 128 + n % 128 - 128 + 128 * (n / 128) ≡ n = omega arith in
    rw (back, add-one)

-- bytes after the first read back: they stand for a number above 0
more_read_written : (start more n : ℕ) (rest : List ℕ) → 1 ≤ n → n < 2 * 128 ^ more
    → read_more start more (seven_bits_of more n ++ rest) ≡ number_read n (length (seven_bits_of more n))
unfolding read_more seven_bits_of
more_read_written start zero n rest some fits =
    let one : n ≡ 1 = omega arith in
    rw (eq-eqb n 1 one, one)
more_read_written start (suc more) n rest some fits =
    by_size n (λ low. rw (last_byte (suc more) n low, lt-ltb n 128 low, ne_eqb n 0 (omega arith)))
    (λ high.
    rw (next_byte more n high, le-ltb (128 + n % 128) 128 (omega arith))
    (ap (group_below (128 + n % 128)) (more_read_written _ more (n / 128) rest (omega arith) (omega (arith, pow-suc 128 more)))
    ∙ below_written n (length (seven_bits_of more (n / 128)))))

-- all its bytes read back
first_read_written :
    (start n : ℕ) (rest : List ℕ) → n < 2 ^ 64 → read_first start (seven_bits n ++ rest) ≡ number_read n (length (seven_bits n))
unfolding read_first seven_bits
first_read_written start n rest fits =
    by_size n (λ low. rw (last_byte 9 n low, lt-ltb n 128 low))
    (λ high.
    rw (next_byte 8 n high, le-ltb (128 + n % 128) 128 (omega arith))
    (ap (group_below (128 + n % 128)) (more_read_written _ 8 (n / 128) rest (omega arith) (omega arith))
    ∙ below_written n (length (seven_bits_of 8 (n / 128)))))

-- where a number stands written
module _ (n start : ℕ) (bytes rest : List ℕ) (stands : drop start bytes ≡ seven_bits n ++ rest) where
  -- reading gives it back
  pub read_written : n < 2 ^ 64 → read_number bytes start ≡ number_read n (length (seven_bits n))
  unfolding read_number
  read_written fits = rw stands (first_read_written start n rest fits)

  -- after the bytes that it took stands what follows it
  pub rest_after_written : drop (start + length (seven_bits n)) bytes ≡ rest
  rest_after_written = sym (drop-drop (length (seven_bits n)) start bytes) ∙ rw stands (drop-append_seam (seven_bits n) rest)

-- of the bytes after the first some are missing: 1
more_cut : (start more n k : ℕ) → 1 ≤ n → n < 2 * 128 ^ more → k < length (seven_bits_of more n)
    → read_more start more (take k (seven_bits_of more n)) ≡ Err (UnexpectedBufferEnd start)
unfolding read_more seven_bits_of group_below
more_cut start more n zero some fits cut = refl
more_cut start zero n (suc k) some fits cut = absurd (omega (arith, cut))
more_cut start (suc more) n (suc k) some fits cut =
    by_size n (λ low. absurd (omega (arith, cut, ap length (last_byte (suc more) n low))))
    (λ high.
    let fewer : k < length (seven_bits_of more (n / 128)) = omega (arith, cut, ap length (next_byte more n high)) in
    rw (next_byte more n high, le-ltb (128 + n % 128) 128 (omega arith))
    (ap (group_below (128 + n % 128)) (more_cut _ more (n / 128) k (omega arith) (omega (arith, pow-suc 128 more)) fewer)))

-- of all its bytes
first_cut : (start n k : ℕ) → n < 2 ^ 64 → k < length (seven_bits n)
    → read_first start (take k (seven_bits n)) ≡ Err (UnexpectedBufferEnd start)
unfolding read_first seven_bits group_below
first_cut start n zero fits cut = refl
first_cut start n (suc k) fits cut =
    by_size n (λ low. absurd (omega (arith, cut, ap length (last_byte 9 n low))))
    (λ high.
    let fewer : k < length (seven_bits_of 8 (n / 128)) = omega (arith, cut, ap length (next_byte 8 n high)) in
    rw (next_byte 8 n high, le-ltb (128 + n % 128) 128 (omega arith))
    (ap (group_below (128 + n % 128)) (more_cut _ 8 (n / 128) k (omega arith) (omega arith) fewer)))

-- a number that is cut short is 1 where it starts
pub number_cut : (n start k : ℕ) (bytes : List ℕ) → drop start bytes ≡ take k (seven_bits n) → n < 2 ^ 64 → k < length (seven_bits n)
    → read_number bytes start ≡ Err (UnexpectedBufferEnd start)
unfolding read_number
number_cut n start k bytes stands fits cut = rw stands (first_cut start n k fits cut)

-- what is read lies below a limit, and took at least one and at most `most` of the bytes
abbrev pub Within : ℕ → ℕ → List ℕ → Result Number Error → Type 0
Within limit most bytes (Ok number) =
    (number.value < limit) × (1 ≤ number.used) × (number.used ≤ most) × (number.used ≤ length bytes)
Within limit most bytes (Err e) = Unit {0}

-- what holds of both ways of a test holds of what it picks
either_read : (P : Result Number Error → Type 0) (test : Bool) (a b : Result Number Error) → P a → P b → P (cond test a b)
either_read P true a b ha hb = ha
either_read P false a b ha hb = hb

-- a group below it keeps it so
group_within : (byte limit above most : ℕ) (rest : List ℕ) (after : Result Number Error) → 128 ≤ byte → byte < 256 → limit * 128 ≤ above
    → Within limit most rest after → Within above (suc most) (byte ∷ rest) (group_below byte after)
unfolding group_below
group_within byte limit above most rest (Ok number) low high room within = omega arith
group_within byte limit above most rest (Err e) low high room within = tt

-- what the bytes after the first say, `more` and one at most
pub more_within :
    (start more : ℕ) (bytes : List ℕ) → AllBytes bytes → Within (2 * 128 ^ more) (suc more) bytes (read_more start more bytes)
unfolding read_more
more_within start more [] are = tt
more_within start zero (byte ∷ rest) are = either_read (Within 2 1 (byte ∷ rest)) (eqb byte 1) _ _ (omega arith) tt
more_within start (suc more) (byte ∷ rest) are =
    by_size byte
    (λ low. rw (lt-ltb byte 128 low) (either_read (Within (2 * 128 ^ suc more) (suc (suc more)) (byte ∷ rest)) (eqb byte 0) _ _ tt (omega (arith, pow-suc 128 more, one-le-pow more 128 (omega arith)))))
    (λ high. rw (le-ltb byte 128 high) (group_within byte (2 * 128 ^ more) (2 * 128 ^ suc more) (suc more) rest (read_more start more rest) high (are 0 (omega arith)) (omega (arith, pow-suc 128 more)) (more_within start more rest (λ i h. are (suc i) (omega arith)))))

-- what all its bytes say
first_within : (start : ℕ) (bytes : List ℕ) → AllBytes bytes → Within (2 ^ 64) 10 bytes (read_first start bytes)
unfolding read_first
first_within start [] are = tt
first_within start (byte ∷ rest) are =
    by_size byte (λ low. rw (lt-ltb byte 128 low) (omega arith))
    (λ high. rw (le-ltb byte 128 high) (group_within byte (2 ^ 57) (2 ^ 64) 9 rest (read_more start 8 rest) high (are 0 (omega arith)) (omega arith) (more_within start 8 rest (λ i h. are (suc i) (omega arith)))))

-- the bytes from an offset on are bytes
pub dropped_bytes : (n : ℕ) (bytes : List ℕ) → AllBytes bytes → AllBytes (drop n bytes)
dropped_bytes n bytes are i h = rw (get_or-drop n bytes i 0) (are (n + i) (omega (arith, length-drop n bytes)))

-- a number that is read from bytes is below 2^64 and took one to ten of them
pub read_bounds : (bytes : List ℕ) (start value used : ℕ) → AllBytes bytes → read_number bytes start ≡ number_read value used
    → (value < 2 ^ 64) × (1 ≤ used) × (used ≤ 10) × (start + used ≤ length bytes)
unfolding read_number
read_bounds bytes start value used are e =
    let within = subst (Within (2 ^ 64) 10 (drop start bytes)) e (first_within start (drop start bytes) (dropped_bytes start bytes are)) in
    (within.0, within.1, within.2, omega (arith, within.1, within.3, length-drop start bytes))

-- what is read is at least so much, and is written again, with `more` bytes after the first, as the bytes that it took
abbrev Again : ℕ → ℕ → List ℕ → Result Number Error → Type 0
Again least more bytes (Ok number) = (least ≤ number.value) × (seven_bits_of more number.value ≡ take number.used bytes)
Again least more bytes (Err e) = Unit {0}

-- a group below it keeps it so
group_again :
    (least byte more : ℕ) (rest : List ℕ) (after : Result Number Error) → least ≤ 1 → 128 ≤ byte → byte < 256
    → Again 1 more rest after → Again least (suc more) (byte ∷ rest) (group_below byte after)
unfolding group_below
group_again least byte more rest (Ok number) few low high again =
    let n = byte - 128 + 128 * number.value in
    let first : 128 + n % 128 ≡ byte = omega arith in
    let above : n / 128 ≡ number.value = omega arith in
    (omega arith, next_byte more n (omega arith) ∙ rw (first, above, again.1, add-one))
group_again least byte more rest (Err e) few low high again = tt

-- the bytes after the first stand for a number above 0, and are written again
more_again : (start more : ℕ) (bytes : List ℕ) → AllBytes bytes → Again 1 more bytes (read_more start more bytes)
unfolding read_more
more_again start more [] are = tt
more_again start zero (byte ∷ rest) are = go (eqb byte 1) refl
  where
    go :
        (one : Bool) → eqb byte 1 ≡ one
        → Again 1 zero (byte ∷ rest) (cond one (number_read 1 1) (Err (BadState start)))
    go true e = (omega arith, rw (eqb-true byte 1 e) (last_byte zero 1 (omega arith)))
    go false e = tt
more_again start (suc more) (byte ∷ rest) are =
    by_size byte (λ low. rw (lt-ltb byte 128 low) (go low (eqb byte 0) refl))
    (λ high.
    let after = more_again start more rest (λ i h. are (suc i) (omega arith)) in
    rw (le-ltb byte 128 high)
    (group_again 1 byte more rest (read_more start more rest) (omega arith) high (are 0 (omega arith)) after))
  where
    go :
        byte < 128 → (none : Bool) → eqb byte 0 ≡ none
        → Again 1 (suc more) (byte ∷ rest) (cond none (Err (BadState start)) (number_read byte 1))
    go low true e = tt
    go low false e = (omega (arith, eqb-false byte 0 e), last_byte (suc more) byte low)

-- all the bytes of what is read are written again
first_again : (start : ℕ) (bytes : List ℕ) → AllBytes bytes → Again 0 9 bytes (read_first start bytes)
unfolding read_first
first_again start [] are = tt
first_again start (byte ∷ rest) are =
    by_size byte (λ low. rw (lt-ltb byte 128 low) (omega arith, last_byte 9 byte low))
    (λ high.
    let after = more_again start 8 rest (λ i h. are (suc i) (omega arith)) in
    rw (le-ltb byte 128 high)
    (group_again 0 byte 8 rest (read_more start 8 rest) (omega arith) high (are 0 (omega arith)) after))

-- a number that is read from bytes is written back where it stood, before what follows it
pub read_written_back :
    (bytes : List ℕ) (start value used : ℕ) → AllBytes bytes → read_number bytes start ≡ number_read value used
    → seven_bits value ++ drop (start + used) bytes ≡ drop start bytes
unfolding seven_bits read_number
read_written_back bytes start value used are e =
    let again = subst (Again 0 9 (drop start bytes)) e (first_again start (drop start bytes) (dropped_bytes start bytes are)) in
    rw (again.1, ← drop-drop used start bytes) (take-append-drop used (drop start bytes))

-- it took as many bytes as it is written in
pub read_used : (bytes : List ℕ) (start value used : ℕ) → AllBytes bytes → read_number bytes start ≡ number_read value used
    → length (seven_bits value) ≡ used
read_used bytes start value used are e =
    let back = ap length (read_written_back bytes start value used are e) in
    omega (arith, simp length-append at back, length-drop start bytes, length-drop (start + used) bytes, (read_bounds bytes start value used are e).3)

-- what reading a number that starts at an offset of a part of some size answers: a number, or 1 or 9 with that offset
pub data ReadAt (start size : ℕ) : Result Number Error → Type 0 where
  is_read : (value used : ℕ) → ReadAt start size (number_read value used)
  is_cut : ReadAt start size (Err (UnexpectedBufferEnd start))
  is_bad : start < size → ReadAt start size (Err (BadState start))

-- a group below it keeps it so
group_at : (start size byte : ℕ) (after : Result Number Error) → ReadAt start size after → ReadAt start size (group_below byte after)
unfolding group_below
group_at start size byte _ (is_read value used) = is_read _ _
group_at start size byte _ is_cut = is_cut
group_at start size byte _ (is_bad inside) = is_bad inside

more_at : (start size more : ℕ) (bytes : List ℕ) → start < size → ReadAt start size (read_more start more bytes)
unfolding read_more
more_at start size more [] inside = is_cut
more_at start size zero (byte ∷ rest) inside = either_read (ReadAt start size) (eqb byte 1) _ _ (is_read _ _) (is_bad inside)
more_at start size (suc more) (byte ∷ rest) inside =
    either_read (ReadAt start size) (ltb byte 128) _ _
    (either_read (ReadAt start size) (eqb byte 0) _ _ (is_bad inside) (is_read _ _))
    (group_at start size byte (read_more start more rest) (more_at start size more rest inside))

first_at : (start size : ℕ) (bytes : List ℕ) → start + length bytes ≤ size → ReadAt start size (read_first start bytes)
unfolding read_first
first_at start size [] fits = is_cut
first_at start size (byte ∷ rest) fits =
    either_read (ReadAt start size) (ltb byte 128) _ _ (is_read _ _)
    (group_at start size byte (read_more start 8 rest) (more_at start size 8 rest (omega (arith, fits))))

-- a number is refused with 1 or 9 alone, and with the offset at which it starts
pub number_at_lem : (bytes : List ℕ) (start : ℕ) → start ≤ length bytes → ReadAt start (length bytes) (read_number bytes start)
unfolding read_number
number_at_lem bytes start inside = first_at start (length bytes) (drop start bytes) (omega (arith, inside, length-drop start bytes))
