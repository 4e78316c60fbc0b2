-- `totals::adding::sure_to_fit` meets its contract: the high half of each total passed is below 2^32-1.
use Rattle.std.proofs.Common.{◌≡◌, ℕ, ◌+◌, ◌-◌, ◌/◌, ◌<◌, List, ◌++◌, length, drop, sym, ap, ◌∙◌, arith, rules}
use Rattle.std.proofs.lemmas.List.{drop-drop}
use Rattle.std.proofs.lemmas.List.Sums.{get_or-le-sum_by}
use Rattle.std.proofs.Math.Seq.{drop-append_seam}
use Rattle.std.specs.List.{sum_by}
use Rattle.std.specs.Slice.Iter.{chunks_rest}
use native.Mathlib.Decide.{dec_lt}
use lib.ListN.{get_or, length-drop, length-append, get_or-append}
use lib.Seq.{get_or-drop}
use Rattle.totals.specs.Framing.{HighBelow}
use Rattle.totals.proofs.adding.sure_to_fit.Goals as goal

-- one more block
module _ (totals block rest : List ℕ) (sure : ℕ) (is : drop sure totals ≡ block ++ rest) where
  after : rest ≡ drop (sure + length block) totals
  after = sym (drop-append_seam block rest) ∙ ap (drop (length block)) (sym is) ∙ drop-drop (length block) sure totals

  -- if its high halves add up to less than the bound, each of them is below it
  more_high :
      (bound : ℕ) → HighBelow totals sure bound → sum_by (λ (t : ℕ). t / 4294967296) block < bound
      → HighBelow totals (sure + length block) bound
  more_high bound before low k below = go (dec_lt k sure)
    where
      go : Dec (k < sure) → get_or totals k 0 / 4294967296 < bound
      go (yes passed) = before k passed
      go (no from) =
          let here : get_or totals k 0 ≡ get_or block (k - sure) 0 =
          ap (λ (n : ℕ). get_or totals n 0) (omega (arith, from))
          ∙ sym (get_or-drop sure totals (k - sure) 0)
          ∙ ap (λ (l : List ℕ). get_or l (k - sure) 0) is
          ∙ get_or-append block rest 0 (k - sure) (omega (arith, from)) in
          rw here
          (omega (arith, get_or-le-sum_by (λ (t : ℕ). t / 4294967296) block (k - sure) 0 (omega (arith, from)), low))

pub loop-block-preserved : goal.loop-block-preserved
loop-block-preserved c =
    let i = c.loop-block.invariant in
    let steps = c.in-Some.ensures.steps in
    let block = c.in-Some.block.now in
    let is = sym i.3 ∙ steps.1.0 in
    let long : length (drop c.loop-block.sure c.args.totals.now) ≡ length (block ++ chunks_rest c.next.new.self) = ap length is in
    let parts = simp (length-drop, length-append) at long in (
      search rules,
      tt,
      steps.0 ∙ i.2,
      after c.args.totals.now block _ c.loop-block.sure is,
      omega (arith, parts, i.4),
      more_high c.args.totals.now block _ c.loop-block.sure is 4294967295 i.5
          (omega (arith, c.high_halves.ensures, c.if-high_halves-ge4294967295.false)),
    )
