-- `number::read` meets its contract: each test picks the case of `read_number` that it answers.
use mathlib.Core.Path.{sym, ap, ◌∙◌}
use native.Mathlib.Omega.{arith}
use borrow.Author.Tests.{lt-ltb, le-ltb}
use Rattle.number.specs.Seven.{group_below}
use Rattle.number.proofs.Reading.{byte_at, number_empty, number_first, group_fits}
use Rattle.number.proofs.read.Goals as goal

pub returns-then-bytes-start : goal.returns-then-bytes-start
returns-then-bytes-start c = sym (number_empty _ _ c.if-bytes-start.true)

pub returns-then-byte-lt128 : goal.returns-then-byte-lt128
returns-then-byte-lt128 c =
    let a = c.args in
    simp (c.from.ensures, number_first a.bytes.now a.start (omega arith), lt-ltb _ _ c.if-byte-lt128.true)

pub group_below-requires : goal.group_below-requires
group_below-requires c =
    let a = c.args in
    rw c.read_more.ensures
    (group_fits _ _ a.bytes.now a.start (omega arith) c.if-byte-lt128.false (omega arith) (λ i h. (c.type_inv.bytes i).fits))

pub returns : goal.returns
returns c =
    let a = c.args in
    c.group_below.ensures
    ∙ ap (group_below (byte_at a.bytes.now a.start)) c.read_more.ensures
    ∙ sym (simp (number_first a.bytes.now a.start (omega arith), le-ltb _ _ c.if-byte-lt128.false))
