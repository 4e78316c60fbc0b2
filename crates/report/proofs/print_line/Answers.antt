-- `report::print_line` meets its contract: there is always room for the line, which lies within it.
use Rattle.std.specs.Prelude.{Result}
use Rattle.std.specs.Result.{result_unwrap_or}
use mathlib.Core.Path.{◌≡◌, sym, ◌∙◌}
use mathlib.Core.List.{List}
use Prim.Native.Nat.{ℕ, ◌≤◌}
use lib.ListN.{length}
use lib.Seq.{length-take-le}
use borrow.Author.Tests.{le-ltb}
use Rattle.text.specs.Text.{put_over}
use Rattle.text.proofs.Laws.{put_length}
use Rattle.pixel.specs.declared.error.Error.{Error}
use Rattle.pixel.specs.Words.{worded_in}
use Rattle.report.proofs.LineLaws.{line_short}
use Rattle.report.proofs.print_line.Goals as goal

-- words that fit a room were all put there
put_whole :
    (words before after : List ℕ) (size : ℕ) (r : Result ℕ Error)
    → length words ≤ length before → r ≡ worded_in words (length before) → after ≡ put_over words before
    → size ≡ result_unwrap_or r 0 → (size ≡ length words) × (size ≤ length after)
unfolding worded_in
put_whole words before after size r fits told put is =
    let whole : size ≡ length words = is ∙ rw (told, le-ltb (length before) (length words) fits) in
    (whole, rw (whole, put, put_length words before) fits)

pub slice_bounds-out-end : goal.slice_bounds-out-end
slice_bounds-out-end c =
    (put_whole _ _ _ _ _ (line_short _) c.line.ensures.value c.line.ensures.out_after c.unwrap_or-size.ensures).1

pub slice_bounds-write_all-end : goal.slice_bounds-write_all-end
slice_bounds-write_all-end c =
    let whole = put_whole _ _ _ _ _ (line_short _) c.line.ensures.value c.line.ensures.out_after c.unwrap_or-size.ensures in
    sym (length-take-le _ _ whole.1)

pub returns : goal.returns
returns c =
    (put_whole _ _ _ _ _ (line_short _) c.line.ensures.value c.line.ensures.out_after c.unwrap_or-size.ensures).0
