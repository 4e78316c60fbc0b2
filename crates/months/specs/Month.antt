-- Document 02's Q-13, a month: any calls one after another, the first frame accepted for an hour, and what the table
-- must then add up to.
use Rattle.std.specs.Prelude.{cond, ◌≡◌, ℕ, zero, suc, ◌+◌, ◌<◌, ltb, eqb, length, get_or, Result, Ok, Err, Option, None, Some}
use mathlib.Core.List.{List, [], ◌∷◌, ◌++◌, Memᴰ}
use Rattle.pixel.specs.declared.error.Error.TheVariants.{InvalidHour}
use Rattle.pixel.specs.Bytes.{AllBytes}
use Rattle.pixel.specs.declared.error.Error.{Error}
use Rattle.totals.specs.declared.Counted.{Counted}
use Rattle.totals.specs.declared.Counted.TheVariants.{Done, Already}
use Rattle.totals.specs.Counting.{hours_of_month, Table, Frame, cells, unread, frame_of, fitting, Call, counting}

-- the table after some calls
unfoldable pub month : Table → List Call → Table
month t [] = t
month t (c ∷ cs) = month (counting t c).table cs

-- every message is bytes, which the type of a slice says by itself
abbrev pub MessagesOfBytes : List Call → Type 0
MessagesOfBytes cs = (c : Call) → Memᴰ c cs → AllBytes c.message

-- a frame's cells
abbrev pub rain_of : Frame → Option (List ℕ)
rain_of (unread e) = None
rain_of (cells used rain) = Some rain

-- the cells of a frame that a table of so many cells accepts: no test is left but that of 21
unfoldable pub accepted : ℕ → Frame → Option (List ℕ)
accepted cell_count frame = rain_of (fitting cell_count frame)

-- what a call brings a table of so many cells
abbrev pub brings : ℕ → Call → Option (List ℕ)
brings cell_count c = accepted cell_count (frame_of c.message c.room)

-- and for an hour: nothing where that is not its own
abbrev pub brought_for : ℕ → ℕ → Call → Option (List ℕ)
brought_for cell_count hour c = cond (eqb c.hour hour) (brings cell_count c) None

-- the earlier of two, if there is one
abbrev pub earlier : Option (List ℕ) → Option (List ℕ) → Option (List ℕ)
earlier None later = later
earlier (Some rain) later = Some rain

-- the first frame accepted for an hour
unfoldable pub first_for : ℕ → List Call → ℕ → Option (List ℕ)
first_for cell_count [] hour = None
first_for cell_count (c ∷ cs) hour = earlier (brought_for cell_count hour c) (first_for cell_count cs hour)

-- the mark of an hour: 1 where it has a frame
abbrev pub mark_of : Option (List ℕ) → ℕ
mark_of None = 0
mark_of (Some rain) = 1

-- a cell of an hour's frame; nothing where it has none
abbrev pub cell_in : ℕ → Option (List ℕ) → ℕ
cell_in i None = 0
cell_in i (Some rain) = get_or rain i 0

-- the sum over the hours below k
unfoldable pub sum_over : ℕ → (ℕ → ℕ) → ℕ
sum_over zero f = 0
sum_over (suc k) f = sum_over k f + f k

-- A table of so many cells adds up to one frame, or none, an hour: the hours that have one are marked, and each total
-- is the sum of that cell in them. Frames determine the table that adds up to them (`same_table`).
pub record AddsUp (cell_count : ℕ) (first : ℕ → Option (List ℕ)) (t : Table) : Type 0 where
  pub cells_are : length t.totals ≡ cell_count
  pub hours_are : length t.marks ≡ hours_of_month
  pub marks_are : (hour : ℕ) → hour < hours_of_month → get_or t.marks hour 0 ≡ mark_of (first hour)
  pub totals_are : (i : ℕ) → i < cell_count → get_or t.totals i 0 ≡ sum_over hours_of_month (λ hour. cell_in i (first hour))

-- the answer to a frame where no total would pass 2^64-1
abbrev pub answer_to : Frame → Result Counted Error
answer_to (unread e) = Err e
answer_to (cells used rain) = Ok (Done used)

-- 'counted already' for an hour that has a frame
abbrev pub unless_counted : Option (List ℕ) → Result Counted Error → Result Counted Error
unless_counted None answer = answer
unless_counted (Some rain) answer = Ok Already

-- the answer to a call after others from a fresh table: 19, counted already, the frame's refusals; no 21
unfoldable pub answer_after : ℕ → (ℕ → Option (List ℕ)) → Call → Result Counted Error
answer_after cell_count first c =
    cond (ltb c.hour hours_of_month)
    (unless_counted (first c.hour) (answer_to (fitting cell_count (frame_of c.message c.room))))
    (Err (InvalidHour c.hour))

-- some call for an hour was counted, among calls from a table
pub record CountedAmong (t : Table) (cs : List Call) (hour : ℕ) : Type 0 where
  pub before : List Call
  pub call : Call
  pub after : List Call
  pub used : ℕ
  pub one_of_them : cs ≡ before ++ (call ∷ after)
  pub for_the_hour : call.hour ≡ hour
  pub counted : (counting (month t before) call).answer ≡ Ok (Done used)
