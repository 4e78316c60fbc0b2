-- `totals::adding::add` meets its contract: the totals passed are the sums, and the others are as they were.
use Rattle.std.proofs.Common.{◌≡◌, ℕ, ◌+◌, ◌*◌, ◌<◌, List, ◌++◌, length, take, drop, sym, ap, ◌∙◌, arith, append-nil, add-one}
use mathlib.Core.Path.{ap₂}
use lib.ListN.{get_or, set, length-set}
use lib.Seq.{take_all, drop-length}
use Rattle.header.specs.Header.{number_at}
use Rattle.totals.proofs.Sums.{sum_at, sums_length, past_none, not_yet, one_more}
use Rattle.totals.specs.Framing.{sums}
use Rattle.totals.proofs.adding.add.Goals as goal

-- the total at a place, not changed so far, and its rain are the sum
sum_here :
    (totals frame now : List ℕ) (i rain : ℕ) → i < length totals → now ≡ take i (sums totals frame) ++ drop i totals
    → rain ≡ number_at frame (i * 4) → get_or now i 0 + rain ≡ get_or (sums totals frame) i 0
sum_here totals frame now i rain below so_far is =
    omega (arith, ap (λ (l : List ℕ). get_or l i 0) so_far, not_yet (sums totals frame) totals i below (sums_length totals frame), is, sum_at totals frame i below)

pub overflow_add-total : goal.overflow_add-total
overflow_add-total c =
    let a = c.args in
    let l = c.loop-i in
    let below : l.i < length a.totals.now = omega arith in
    let fits = past_none (sums a.totals.now a.frame.now) c.requires.frame_value l.i (omega (arith, sums_length a.totals.now a.frame.now)) in
    record { fits = omega (arith, sum_here a.totals.now a.frame.now l.totals l.i _ below l.invariant.1 c.rain_at.ensures.0) }

pub loop-i-preserved : goal.loop-i-preserved
loop-i-preserved c =
    let a = c.args in
    let l = c.loop-i in
    let s = sums a.totals.now a.frame.now in
    let below : l.i < length a.totals.now = omega arith in (
      length-set l.totals l.i _ ∙ l.invariant.0,
      ap (set l.totals l.i) (sum_here a.totals.now a.frame.now l.totals l.i _ below l.invariant.1 c.rain_at.ensures.0)
          ∙ ap (λ (x : List ℕ). set x l.i (get_or s l.i 0)) l.invariant.1
          ∙ one_more s a.totals.now l.i below (sums_length a.totals.now a.frame.now)
          ∙ ap (λ (n : ℕ). take n s ++ drop n a.totals.now) (sym (add-one l.i)),
    )

pub returns : goal.returns
returns c =
    let a = c.args in
    let l = c.loop-i in
    let s = sums a.totals.now a.frame.now in
    let all : l.i ≡ length a.totals.now = omega arith in
    l.invariant.1
    ∙ ap (λ (n : ℕ). take n s ++ drop n a.totals.now) all
    ∙ ap₂ (λ (x y : List ℕ). x ++ y)
    (take_all (length a.totals.now) s (omega (arith, sums_length a.totals.now a.frame.now))) (drop-length a.totals.now)
    ∙ append-nil s
