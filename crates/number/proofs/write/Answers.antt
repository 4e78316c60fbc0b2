-- `number::write` meets its contract: at each turn what is written, the bytes of what is left and what stands after
-- them are the whole answer.
use Rattle.std.specs.Prelude.{Result, Ok}
use Rattle.pixel.specs.declared.error.Error.{Error}
use Prim.Native.Nat.{ℕ, suc, ◌+◌, ◌/◌, ◌%◌, ◌^◌, ◌<◌, ◌≤◌, ◌-◌}
use mathlib.Core.Path.{◌≡◌, ap, ◌∙◌}
use mathlib.Core.List.{List, ◌++◌}
use native.Mathlib.Numerals.{add-one}
use native.Mathlib.Omega.{arith}
use lib.ListN.{length, take, drop, set, length-set}
use lib.Seq.{take-suc-set, drop-set-lt, append_snoc, set_split}
use borrow.Author.Tests.{le-leb, lt-leb}
use Rattle.number.specs.Seven.{seven_bits, writing_number, written_number}
use Rattle.number.proofs.Laws.{length_at_least_one, more_than_one, only_one, one_byte, first_byte}
use Rattle.number.proofs.write.Invariants.{filled}
use Rattle.number.proofs.write.Goals as goal

filled_next : (out : List ℕ) (at left : ℕ) → 128 ≤ left → left < 2 ^ 64 → at + length (seven_bits left) ≤ length out
    → filled (set out at (128 + left % 128)) (at + 1) (left / 128) ≡ filled out at left
filled_next out at left high fits room =
    let byte = 128 + left % 128 in
    let after = seven_bits (left / 128) in
    let e : length (seven_bits left) ≡ suc (length after) = ap length (first_byte left high fits) in
    let same : at + 1 + length after ≡ at + suc (length after) = omega arith in
    rw (first_byte left high fits, same, add-one at, take-suc-set out at byte (omega arith), drop-set-lt (at + suc (length after)) out at byte (omega arith))
    (append_snoc (take at out) byte (after ++ drop (at + suc (length after)) out))

filled_last : (out : List ℕ) (at left : ℕ) → left < 128 → at < length out → set out at left ≡ filled out at left
filled_last out at left low room = rw (one_byte left low, add-one at) (set_split out at left room)

pub returns-then-out-required : goal.returns-then-out-required
unfolding writing_number written_number
returns-then-out-required c =
    let a = c.args in
    let short : length a.out.now < length (seven_bits a.value) = omega arith in
    (rw (lt-leb _ _ short, c.len-required.ensures), rw (lt-leb _ _ short))

pub overflow_sub-last : goal.overflow_sub-last
overflow_sub-last c = omega (arith, length_at_least_one c.args.value)

pub loop-at-preserved : goal.loop-at-preserved
loop-at-preserved c =
    let l = c.loop-at in
    let high = more_than_one l.left (omega arith) in
    let e = ap length (first_byte l.left high (omega arith)) in
    (omega arith, omega arith, simp length-set (omega arith), filled_next l.out l.at l.left high (omega arith) (omega arith) ∙ l.invariant.3)

pub overflow_cast-out-2 : goal.overflow_cast-out-2
overflow_cast-out-2 c =
    let l = c.loop-at in
    let some = length_at_least_one c.args.value in
    record { fits = omega (arith, only_one l.left (omega arith) (omega arith)) }

pub bounds-out-last : goal.bounds-out-last
bounds-out-last c = omega (arith, length_at_least_one c.args.value)

pub returns : goal.returns
unfolding writing_number written_number
returns c =
    let a = c.args in
    let l = c.loop-at in
    let room : length (seven_bits a.value) ≤ length a.out.now = omega arith in
    let some = length_at_least_one a.value in
    let end : c.len-required.result - 1 ≡ l.at = omega arith in
    let low = only_one l.left (omega arith) (omega arith) in (
      rw (le-leb _ _ room) (ap {B = (Result ℕ Error)} Ok (omega arith)),
      rw (le-leb _ _ room, end) (filled_last l.out l.at l.left low (omega arith) ∙ l.invariant.3),
    )
