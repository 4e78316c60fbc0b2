-- `strict::quick::round` meets its contract: each arm is a row of the chunk table, and wherever the loop stops, the
-- check from there is the check of the message.
use mathlib.Core.List.{List}
use mathlib.Core.Path.{◌∙◌, subst}
use Prim.Native.Nat.{ℕ, ◌+◌, ◌-◌, ◌≤◌, ◌<◌}
use native.Mathlib.Omega.{arith}
use Rattle.header.specs.declared.Header.{Header}
use Rattle.strict.specs.Asked.{Head}
use Rattle.strict.proofs.Arms.{past_luma, past_rgb, past_rgba, past_one}
use Rattle.strict.proofs.quick.round.Goals as goal

-- one less of the quota is one chunk more
counted :
    {header : Header} {message : List ℕ} {pixels left at most quota : ℕ}
    → 0 < quota
    → quota ≤ most
    → Head header message pixels left at (most - quota + 1)
    → Head header message pixels left at (most - (quota - 1))
counted {header} {message} {pixels} {left} {at} turn few h =
    subst (λ (n : ℕ). Head header message pixels left at n) (omega arith) h

pub loop-quota-preserved-then-byte-eq2 : goal.loop-quota-preserved-then-byte-eq2
loop-quota-preserved-then-byte-eq2 c =
    let i = c.loop-quota.invariant in
    let turn = c.loop-quota-test.true in (
      λ header is h.
          counted turn i.3 (past_luma (i.0 header is h) (omega arith) (omega arith) c.if-byte-eq2.true),
      omega arith,
      omega arith,
      omega arith,
    )

pub loop-quota-preserved-then-byte : goal.loop-quota-preserved-then-byte
loop-quota-preserved-then-byte c =
    let i = c.loop-quota.invariant in
    let turn = c.loop-quota-test.true in (
      λ header is h.
          counted turn i.3 (past_rgb (i.0 header is h) (omega arith) (omega arith) c.if-byte.true),
      omega arith,
      omega arith,
      omega arith,
    )

pub loop-quota-preserved-in-Rgba : goal.loop-quota-preserved-in-Rgba
loop-quota-preserved-in-Rgba c =
    let i = c.loop-quota.invariant in
    let turn = c.loop-quota-test.true in (
      λ header is h.
          counted turn i.3
          (past_rgba (i.0 header is h) (omega arith) (omega arith) (is ∙ c.in-Rgba.is)
          c.if-byte-2.true),
      omega arith,
      omega arith,
      omega arith,
    )

pub loop-quota-preserved : goal.loop-quota-preserved
loop-quota-preserved c =
    let l = c.loop-quota in
    let i = l.invariant in
    let turn = c.loop-quota-test.true in
    let byte = c.type_inv.message l.at in (
      λ header is h.
          counted turn i.3
          (past_one (i.0 header is h) (omega arith) (omega arith) c.if-byte-eq2.false
          (omega (arith, byte, c.if-byte.false, c.if-byte-2.false)) _ c.times-times.ensures
          (omega arith)),
      omega arith,
      omega arith,
      omega arith,
    )
