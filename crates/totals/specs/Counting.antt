-- Document 02's Q-13, one call: the table, the frame's cells, what is added, and the order of refusals.
-- The order reads from the bottom up: the last definition of it makes the first test.
use Rattle.std.specs.Prelude.{Bool, cond, not, ◌&&◌, List, [], ◌∷◌, ◌≡◌, ℕ, zero, suc, ◌+◌, ◌^◌, ltb, eqb, length, get_or, set, drop, replicate, Result, Ok, Err, Option, None, Some, option_map}
use Rattle.pixel.specs.declared.error.Error.{Error}
use Rattle.pixel.specs.declared.error.Error.TheVariants.{InvalidChannels, InvalidHour, InvalidCellCount, TotalTooLarge}
use Rattle.pixel.specs.declared.types.Channels.{Channels}
use Rattle.pixel.specs.declared.types.Channels.TheVariants.{Rgb, Rgba}
use Rattle.header.specs.Header.{pixel_count, header_of, number_at}
use Rattle.rules.specs.Bytes.{written_over}
use Rattle.rules.specs.Reading.{Answer, done, refused}
use Rattle.rules.specs.Decode.{decoding}
use Rattle.totals.specs.declared.Counted.{Counted}
use Rattle.totals.specs.declared.Counted.TheVariants.{Done, Already}
use Rattle.header.specs.declared.Header.{Header}

-- the month's hours are 0 to 743
unfoldable pub hours_of_month : ℕ
hours_of_month = 744

-- a total for each cell, in hundredths of a millimetre, and a mark for each hour
pub record Table : Type 0 where
  pub totals : List ℕ
  pub marks : List ℕ

-- no rain, and no hour marked
unfoldable pub fresh : ℕ → Table
fresh cell_count = record { totals = replicate cell_count 0; marks = replicate hours_of_month 0 }

-- a mark other than 0 is marked
abbrev pub is_marked : Table → ℕ → Bool
is_marked t hour = not (eqb (get_or t.marks hour 0) 0)

-- a cell's rain is its four bytes as one big-endian number
unfoldable pub cells_of : ℕ → List ℕ → List ℕ
cells_of zero bytes = []
cells_of (suc n) bytes = number_at bytes 0 ∷ cells_of n (drop 4 bytes)

-- each total with its cell's rain added
unfoldable pub added_to : List ℕ → List ℕ → List ℕ
added_to [] rain = []
added_to (t ∷ ts) rain = (t + get_or rain 0 0) ∷ added_to ts (drop 1 rain)

-- the first total that is past 2^64-1
unfoldable pub first_past : List ℕ → Option ℕ
first_past [] = None
first_past (t ∷ ts) = cond (ltb t (2 ^ 64)) (option_map suc (first_past ts)) (Some 0)

-- a frame: the message bytes used and its cells, or why there are none
pub data Frame : Type 0 where
  cells : ℕ → List ℕ → Frame
  unread : Error → Frame

-- 2 for a source of three channels
abbrev pub with_four : Channels → ℕ → List ℕ → Frame
with_four Rgb used rain = unread (InvalidChannels 3)
with_four Rgba used rain = cells used rain

-- the decode's refusals come first; it accepts no message whose header is refused
unfoldable pub frame_from : Result Header Error → Answer → List ℕ → Frame
frame_from header (refused e) bytes = unread e
frame_from (Err e) (done size used) bytes = unread e
frame_from (Ok header) (done size used) bytes =
    with_four header.channels used (cells_of (pixel_count header) bytes)

-- a message wholly decoded to four channels into a buffer of `room` bytes
unfoldable pub frame_of : List ℕ → ℕ → Frame
frame_of message room =
    frame_from (header_of message) (decoding message 4 room).answer (decoding message 4 room).bytes

-- 20 where there is not one pixel a cell
unfoldable pub fitting : ℕ → Frame → Frame
fitting cell_count (unread e) = unread e
fitting cell_count (cells used rain) =
    cond (eqb (length rain) cell_count) (cells used rain) (unread (InvalidCellCount (length rain) cell_count))

-- an answer, and the table after it
pub record Outcome : Type 0 where
  pub answer : Result Counted Error
  pub table : Table

-- a refusal, and 'counted already', leave the table as it was
abbrev pub unchanged : Table → Result Counted Error → Outcome
unchanged t answer = record { answer = answer; table = t }

-- a frame added, and its hour marked
abbrev pub with_frame : Table → ℕ → List ℕ → Table
with_frame t hour rain = record { totals = added_to t.totals rain; marks = set t.marks hour 1 }

-- 21 for the first cell whose total would pass 2^64-1; else the frame is counted
abbrev pub unless_past : Table → ℕ → ℕ → List ℕ → Option ℕ → Outcome
unless_past t hour used rain (Some cell) = unchanged t (Err (TotalTooLarge cell))
unless_past t hour used rain None = record { answer = Ok (Done used); table = with_frame t hour rain }

-- a frame's refusal; then its cells
unfoldable pub counting_frame : Table → ℕ → Frame → Outcome
counting_frame t hour (unread e) = unchanged t (Err e)
counting_frame t hour (cells used rain) = unless_past t hour used rain (first_past (added_to t.totals rain))

-- a call: the hour, its message, and the size of the buffer that the frame is decoded into
pub record Call : Type 0 where
  pub hour : ℕ
  pub message : List ℕ
  pub room : ℕ

-- one call: 19, counted already, then the frame
unfoldable pub counting : Table → Call → Outcome
counting t c =
    cond (ltb c.hour hours_of_month)
    (cond (is_marked t c.hour) (unchanged t (Ok Already))
    (counting_frame t c.hour (fitting (length t.totals) (frame_of c.message c.room))))
    (unchanged t (Err (InvalidHour c.hour)))

-- what stands in the frame's buffer then: as it was after 19 and 'counted already', else what the decode to four leaves
unfoldable pub frame_after : Table → ℕ → List ℕ → List ℕ → List ℕ
frame_after t hour message before =
    cond (ltb hour hours_of_month && not (is_marked t hour)) (written_over (decoding message 4 (length before)).bytes before)
    before

-- What a call leaves, given hour, message, a frame's buffer that held `before` and the totals and marks of a table:
-- its answer, the buffer, the totals and the marks.
abbrev pub Counts : ℕ → List ℕ → List ℕ → List ℕ → List ℕ → Result Counted Error → List ℕ → List ℕ → List ℕ → Type 0
Counts hour message before totals marks r after totals' marks' =
    let table : Table = record { totals = totals; marks = marks } in
    let call : Call = record { hour = hour; message = message; room = length before } in
    (record { answer = r; table = record { totals = totals'; marks = marks' } } ≡ counting table call)
    × (after ≡ frame_after table hour message before)
