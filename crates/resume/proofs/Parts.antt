-- Parts of a record put one after another into an output.
-- Assumes nothing.
use Prim.Native.Nat.{ℕ, ◌+◌, ◌≤◌}
use Rattle.std.specs.Prelude.{Ok}
use mathlib.Core.Path.{◌≡◌, refl, ◌∙◌}
use mathlib.Core.List.{List, ◌++◌, append_assoc}
use native.Mathlib.Omega.{arith}
use lib.ListN.{length, drop, length-append}
use borrow.Author.Tests.{le-leb}
use Rattle.number.specs.Seven.{seven_bits, writing_number, written_number}
use Rattle.header.specs.Header.{header_bytes}
use Rattle.header.proofs.Laws.{header_length}
use Rattle.rules.specs.Bytes.{pasted, Puts}
use Rattle.rules.specs.Step.{State}
use Rattle.rules.specs.Record.{pixels_bytes, record_bytes}
use Rattle.rules.proofs.PastingLaws.{pasted_next}

-- a part put, and then the one after it
pub put_next :
    (out out' : List ℕ) (at next : ℕ) (x y : List ℕ) → out' ≡ pasted at x out → next ≡ at + length x
    → at + length x + length y ≤ length out → pasted next y out' ≡ pasted at (x ++ y) out
put_next out out' at next x y is follows fits = rw (is, follows) (pasted_next out at x y fits)

-- a number with room is written
pub number_written :
    (value : ℕ) (out : List ℕ) → length (seven_bits value) ≤ length out
    → (writing_number value out ≡ Ok (length (seven_bits value)))
    × (written_number value out ≡ seven_bits value ++ drop (length (seven_bits value)) out)
unfolding writing_number written_number
number_written value out fits = rw (le-leb (length (seven_bits value)) (length out) fits) (refl, refl)

-- a part put, and then the one after it, are both put
pub puts_next :
    (out out' out'' : List ℕ) (at next end : ℕ) (x y : List ℕ) → Puts at x out next out' → Puts next y out' end out''
    → at + length x + length y ≤ length out → Puts at (x ++ y) out end out''
puts_next out out' out'' at next end x y first second fits =
    (simp length-append (omega (arith, first.0, second.0)), second.1 ∙ put_next out out' at next x y first.1 first.0 fits)

module _ (s : State) where
  -- the bytes of the three numbers
  abbrev pub numbers_of : List ℕ
  numbers_of = seven_bits s.wanted ++ (seven_bits s.place.at ++ seven_bits s.place.pixel)

  -- and those of the pixels
  abbrev pub pixels_of : List ℕ
  pixels_of = s.place.current.rgba ++ pixels_bytes s.place.slots

  -- header, numbers, pixels and the message's number are the record
  pub record_joined : header_bytes s.header ++ (numbers_of ++ (pixels_of ++ seven_bits s.number)) ≡ record_bytes s
  unfolding record_bytes
  record_joined = simp append_assoc

-- the record is as long as its parts
pub record_parts :
    (s : State)
    → length (record_bytes s)
    ≡ 14 + length (seven_bits s.wanted) + length (seven_bits s.place.at) + length (seven_bits s.place.pixel) + length s.place.current.rgba + length (pixels_bytes s.place.slots) + length (seven_bits s.number)
unfolding record_bytes
record_parts s = simp (length-append, header_length s.header) (omega arith)
