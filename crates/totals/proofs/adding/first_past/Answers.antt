-- `totals::adding::first_past` meets its contract: each sum passed fits 64 bits.
use Rattle.std.proofs.Common.{rules, ◌+◌, ◌<◌, ◌≤◌, length, sym, arith}
use Prim.Native.Nat.{◌^◌}
use lib.ListN.{get_or}
use borrow.Author.Count.{below_more}
use Rattle.totals.specs.Framing.{sums}
use Rattle.totals.proofs.Sums.{sure_sum, sum_at, sums_length, none_past, first_at}
use Rattle.totals.proofs.adding.first_past.Goals as goal

pub loop-i-init : goal.loop-i-init
loop-i-init c =
    let a = c.args in
    let sure = c.sure_to_fit-i.ensures in
    λ k (below : k < c.sure_to_fit-i.result).
    sure_sum a.totals.now a.frame.now k (omega arith) (sure.1 k below) (λ j. omega (arith, c.type_inv.frame j))

pub returns-then-is_none : goal.returns-then-is_none
returns-then-is_none c =
    let a = c.args in
    let l = c.loop-i in
    let below : l.i < length a.totals.now = omega arith in
    let past : 2 ^ 64 ≤ get_or a.totals.now l.i 0 + c.rain_at.result = search rules in
    sym
    (first_at (sums a.totals.now a.frame.now) l.i (omega (arith, sums_length a.totals.now a.frame.now)) l.invariant
    (omega (arith, sum_at a.totals.now a.frame.now l.i below, c.rain_at.ensures.0, past)))

pub loop-i-preserved : goal.loop-i-preserved
loop-i-preserved c =
    let a = c.args in
    let l = c.loop-i in
    let below : l.i < length a.totals.now = omega arith in
    let fits : get_or a.totals.now l.i 0 + c.rain_at.result < 2 ^ 64 = search rules in
    below_more _ _ l.invariant (omega (arith, sum_at a.totals.now a.frame.now l.i below, c.rain_at.ensures.0, fits))

pub returns : goal.returns
returns c =
    let a = c.args in
    let same = sums_length a.totals.now a.frame.now in
    sym
    (none_past (sums a.totals.now a.frame.now)
    (λ i (below : i < length (sums a.totals.now a.frame.now)). c.loop-i.invariant i (omega arith)))
