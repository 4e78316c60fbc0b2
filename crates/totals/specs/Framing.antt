-- What the parts of a call answer: the frame that was read, the sums, and the search for one that would pass 2^64-1.
use Rattle.std.specs.Prelude.{List, ◌≡◌, ℕ, ◌/◌, ◌<◌, length, get_or, Result, Ok, Err}
use Rattle.rules.specs.Bytes.{written_over}
use Rattle.rules.specs.Decode.{decoding}
use Rattle.pixel.specs.declared.error.Error.{Error}
use Rattle.totals.specs.Counting.{cells_of, added_to, Frame, cells, unread, frame_of, fitting}

-- the totals with the cells that stand in a buffer added
abbrev pub sums : List ℕ → List ℕ → List ℕ
sums totals buffer = added_to totals (cells_of (length totals) buffer)

-- the high halves of the first so many numbers are below a bound
abbrev pub HighBelow : List ℕ → ℕ → ℕ → Type 0
HighBelow totals count bound = (k : ℕ) → k < count → get_or totals k 0 / 4294967296 < bound

-- the answer for a frame: its cells stand in the buffer
abbrev pub read_as : Frame → Result ℕ Error
read_as (cells used rain) = Ok used
read_as (unread e) = Err e

-- what reading a frame of so many cells answers, and what a buffer that held `before` holds after it
abbrev pub Frames : List ℕ → ℕ → List ℕ → Result ℕ Error → List ℕ → Type 0
Frames message cell_count before r after =
    (r ≡ read_as (fitting cell_count (frame_of message (length before))))
    × (after ≡ written_over (decoding message 4 (length before)).bytes before)
