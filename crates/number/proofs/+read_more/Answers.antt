-- `number::read_more` meets its contract: each test picks the case of `read_more` that it answers.
use Prim.Native.Nat.{◌-◌}
use mathlib.Core.Path.{sym, ap, ◌∙◌}
use native.Mathlib.Omega.{arith}
use borrow.Author.Tests.{lt-ltb, le-ltb, eq-eqb, ne_eqb}
use Rattle.number.specs.Seven.{group_below}
use Rattle.number.proofs.Reading.{byte_at, more_empty, more_last, more_first, group_fits}
use Rattle.number.proofs.+read_more.Goals as goal

pub returns-in_default : goal.returns-in_default
returns-in_default t c = sym (more_empty _ _ _ (omega arith))

pub returns-then-byte-eq1 : goal.returns-then-byte-eq1
returns-then-byte-eq1 t c =
    let a = c.args in
    simp (more_last a.start a.more a.bytes.now c.if-more-eq0.true (omega arith), eq-eqb _ _ c.if-byte-eq1.true)

pub returns-then-more-eq0 : goal.returns-then-more-eq0
returns-then-more-eq0 t c =
    let a = c.args in
    simp (more_last a.start a.more a.bytes.now c.if-more-eq0.true (omega arith), ne_eqb _ _ c.if-byte-eq1.false)

pub returns-then-byte-eq0 : goal.returns-then-byte-eq0
returns-then-byte-eq0 t c =
    let a = c.args in
    simp (more_first a.start a.more a.bytes.now c.if-more-eq0.false (omega arith), lt-ltb _ _ c.if-byte-lt128.true, eq-eqb _ _ c.if-byte-eq0.true)

pub returns-then-byte-lt128 : goal.returns-then-byte-lt128
returns-then-byte-lt128 t c =
    let a = c.args in
    simp (c.from.ensures, more_first a.start a.more a.bytes.now c.if-more-eq0.false (omega arith), lt-ltb _ _ c.if-byte-lt128.true, ne_eqb _ _ c.if-byte-eq0.false)

pub group_below-requires : goal.group_below-requires
group_below-requires t c =
    let a = c.args in
    rw c.read_more.ensures
    (group_fits a.start (a.more - 1) a.bytes.now 0 (omega arith) c.if-byte-lt128.false (omega arith) (λ i h. (c.type_inv.bytes i).fits))

pub returns : goal.returns
returns t c =
    let a = c.args in
    c.group_below.ensures
    ∙ ap (group_below (byte_at a.bytes.now 0)) c.read_more.ensures
    ∙ sym (simp (more_first a.start a.more a.bytes.now c.if-more-eq0.false (omega arith), le-ltb _ _ c.if-byte-lt128.false))
