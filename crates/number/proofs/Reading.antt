-- What the proofs of `read` and `read_more` share: reading, in terms of a slice's length, the byte at an offset and the
-- rest; and what `group_below` requires.
use Rattle.std.specs.Prelude.{Result, Ok, Err}
use Rattle.pixel.specs.declared.error.Error.{Error}
use Rattle.number.specs.declared.Number.{Number}
use Prim.Native.Nat.{ℕ, zero, suc, ◌+◌, ◌-◌, ◌*◌, ◌^◌, ◌≤◌, ◌<◌}
use mathlib.Core.Path.{◌≡◌, refl, ◌∙◌}
use mathlib.Core.Bool.{cond}
use mathlib.Core.List.{List, [], ◌∷◌}
use native.Mathlib.Nat.{pow-le-pow_right}
use native.Mathlib.Numerals.{add-one}
use native.Mathlib.Omega.{arith}
use lib.Dec.{ltb, eqb}
use lib.ListN.{length, get_or, take, drop, length-drop, drop_of_length-le}
use lib.Seq.{take_all, drop-cons}
use Rattle.pixel.specs.Bytes.{AllBytes}
use Rattle.pixel.specs.declared.error.Error.TheVariants.{UnexpectedBufferEnd, BadState}
use Rattle.number.specs.Asked.{GroupFits}
use Rattle.number.specs.Seven.{number_read, read_number, read_first, read_more, group_below}
use Rattle.number.proofs.Laws.{Within, more_within, dropped_bytes}

-- the byte at an offset of a slice, and `&bytes[start + 1..]`
abbrev pub byte_at : List ℕ → ℕ → ℕ
byte_at bytes start = get_or bytes start 0

abbrev pub after : List ℕ → ℕ → List ℕ
after bytes start = take (length bytes - (start + 1)) (drop (start + 1) bytes)

-- which is all that stands after that byte
all_after : (bytes : List ℕ) (start : ℕ) → after bytes start ≡ drop (start + 1) bytes
all_after bytes start =
    take_all (length bytes - (start + 1)) (drop (start + 1) bytes) (omega (arith, length-drop (start + 1) bytes))

-- what stands from an offset on is the byte there and those after it
from_there : (bytes : List ℕ) (start : ℕ) → start < length bytes → drop start bytes ≡ byte_at bytes start ∷ after bytes start
from_there bytes start inside = drop-cons bytes start 0 inside ∙ rw (all_after bytes start, add-one start)

pub number_empty : (bytes : List ℕ) (start : ℕ) → length bytes ≤ start → read_number bytes start ≡ Err (UnexpectedBufferEnd start)
unfolding read_number read_first
number_empty bytes start none = rw (drop_of_length-le bytes none)

pub number_first : (bytes : List ℕ) (start : ℕ) → start < length bytes
    → read_number bytes start
    ≡ cond (ltb (byte_at bytes start) 128) (number_read (byte_at bytes start) 1)
    (group_below (byte_at bytes start) (read_more start 8 (after bytes start)))
unfolding read_number read_first
number_first bytes start inside = rw (from_there bytes start inside)

pub more_empty :
    (start more : ℕ) (bytes : List ℕ) → length bytes ≡ 0 → read_more start more bytes ≡ Err (UnexpectedBufferEnd start)
unfolding read_more
more_empty start more [] none = refl
more_empty start more (byte ∷ bytes) none = absurd (omega arith)

pub more_last : (start more : ℕ) (bytes : List ℕ) → more ≡ 0 → (length bytes ≡ 0 → ⊥)
    → read_more start more bytes ≡ cond (eqb (byte_at bytes 0) 1) (number_read 1 1) (Err (BadState start))
unfolding read_more
more_last start more [] last some = absurd (some refl)
more_last start zero (byte ∷ bytes) last some = refl
more_last start (suc more) (byte ∷ bytes) last some = absurd (omega arith)

pub more_first : (start more : ℕ) (bytes : List ℕ) → (more ≡ 0 → ⊥) → (length bytes ≡ 0 → ⊥)
    → read_more start more bytes
    ≡ cond (ltb (byte_at bytes 0) 128) (cond (eqb (byte_at bytes 0) 0) (Err (BadState start)) (number_read (byte_at bytes 0) 1))
    (group_below (byte_at bytes 0) (read_more start (more - 1) (after bytes 0)))
unfolding read_more
more_first start more [] follow some = absurd (some refl)
more_first start zero (byte ∷ bytes) follow some = absurd (follow refl)
more_first start (suc more) (byte ∷ bytes) follow some =
    let fewer : suc more - 1 ≡ more = omega arith in
    rw (all_after (byte ∷ bytes) 0, fewer)

fits_of : (byte more : ℕ) (bytes : List ℕ) (rest : Result Number Error) → 128 ≤ byte → more ≤ 8
    → Within (2 * 128 ^ more) (suc more) bytes rest → GroupFits byte rest
fits_of byte more bytes (Ok number) high le within = omega (arith, pow-le-pow_right {n = 128} (omega arith) le)
fits_of byte more bytes (Err e) high le within = tt

-- a group can stand below what `read_more` answers of the bytes after it
pub group_fits :
    (start more : ℕ) (bytes : List ℕ) (at : ℕ) → at < length bytes → 128 ≤ byte_at bytes at → more ≤ 8 → AllBytes bytes
    → GroupFits (byte_at bytes at) (read_more start more (after bytes at))
group_fits start more bytes at inside high le are =
    rw (all_after bytes at)
    (fits_of (byte_at bytes at) more (drop (at + 1) bytes) (read_more start more (drop (at + 1) bytes)) high le (more_within start more (drop (at + 1) bytes) (dropped_bytes (at + 1) bytes are)))
