-- Rain totals for hosts: a table that a host keeps from call to call. `IsCount` is the contract of pivotshade_count.
use Rattle.std.specs.Prelude.{List, [], ◌∷◌, ◌++◌, ℕ, length}
use Rattle.pixel.specs.Bytes.{AllBytes}
use Rattle.totals.specs.Counting.{Table, fresh, Call}
use Rattle.qoi.specs.Hosted.{IsCount}

-- A table of so many cells, and the calls that led to it, the last one last: it was fresh, and each call was lent the
-- table that the one before had left. A message is bytes, as a slice's are.
pub data Kept (cell_count : ℕ) : List Call → Table → Type 0 where
  begun : Kept cell_count [] (fresh cell_count)
  called :
      {cs : List Call} {t : Table} → Kept cell_count cs t → (hour : ℕ) (message frame : List ℕ) → AllBytes message
      → (figures left_frame left_totals left_marks : List ℕ)
      → IsCount message hour frame t.totals t.marks figures left_frame left_totals left_marks
      → Kept cell_count (cs ++ (record { hour = hour; message = message; room = length frame } ∷ []))
      (record { totals = left_totals; marks = left_marks })
