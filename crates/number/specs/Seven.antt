-- Numbers in groups of seven bits, low group first, top bit set on all but the last byte, in shortest form, at most
-- 2^64-1.
use Rattle.std.specs.Prelude.{cond, List, [], ◌∷◌, ◌++◌, ℕ, zero, suc, ◌+◌, ◌-◌, ◌*◌, ◌/◌, ◌%◌, ltb, eqb, leb, length, drop, Result, Ok, Err}
use Rattle.pixel.specs.declared.error.Error.TheVariants.{UnexpectedBufferEnd, BadState, OutputBufferTooSmall}
use Rattle.pixel.specs.declared.error.Error.{Error}
use Rattle.number.specs.declared.Number.{Number}

-- the bytes of n, of which `more` may follow the first
unfoldable pub seven_bits_of : ℕ → ℕ → List ℕ
seven_bits_of zero n = n ∷ []
seven_bits_of (suc more) n = cond (ltb n 128) (n ∷ []) ((128 + n % 128) ∷ seven_bits_of more (n / 128))

-- the bytes of a number up to 2^64-1, ten at most
unfoldable pub seven_bits : ℕ → List ℕ
seven_bits n = seven_bits_of 9 n

-- a number that was read, and how many bytes it took
abbrev pub number_read : ℕ → ℕ → Result Number Error
number_read value used = Ok (record { value = value; used = used })

-- a group with the top bit set stands below what the bytes after it say
unfoldable pub group_below : ℕ → Result Number Error → Result Number Error
group_below byte (Ok number) = number_read (byte - 128 + 128 * number.value) (number.used + 1)
group_below byte (Err e) = Err e

-- the bytes after the first, `more` and one at most: cut short is 1; a last byte 00 is not shortest, 9; a tenth byte
-- other than 01 is 9. Whichever byte fails, the refusal carries the offset at which the number starts
unfoldable pub read_more : ℕ → ℕ → List ℕ → Result Number Error
read_more start more [] = Err (UnexpectedBufferEnd start)
read_more start zero (byte ∷ rest) = cond (eqb byte 1) (number_read 1 1) (Err (BadState start))
read_more start (suc more) (byte ∷ rest) =
    cond (ltb byte 128) (cond (eqb byte 0) (Err (BadState start)) (number_read byte 1))
    (group_below byte (read_more start more rest))

-- all bytes of a number that starts at `start`; only one of a single byte may be 00
unfoldable pub read_first : ℕ → List ℕ → Result Number Error
read_first start [] = Err (UnexpectedBufferEnd start)
read_first start (byte ∷ rest) = cond (ltb byte 128) (number_read byte 1) (group_below byte (read_more start 8 rest))

-- the number that starts at an offset of a part, and how many bytes it took
unfoldable pub read_number : List ℕ → ℕ → Result Number Error
read_number bytes start = read_first start (drop start bytes)

-- writing into a part: 7 with the number's length where there is no room
unfoldable pub writing_number : ℕ → List ℕ → Result ℕ Error
writing_number n out =
    cond (leb (length (seven_bits n)) (length out)) (Ok (length (seven_bits n)))
    (Err (OutputBufferTooSmall (length out) (length (seven_bits n))))

-- what the part then holds: the number's bytes and what stood after them; without room, what it held
unfoldable pub written_number : ℕ → List ℕ → List ℕ
written_number n out =
    cond (leb (length (seven_bits n)) (length out)) (seven_bits n ++ drop (length (seven_bits n)) out) out
