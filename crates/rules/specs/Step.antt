-- Steps: the state that moves on by value, when it is well formed, a start, one step, and n steps.
-- The order of refusals reads from the bottom up: the last definition of it makes the first test.
use Rattle.std.specs.Prelude.{Bool, cond, not, ◌&&◌, ◌||◌, List, ◌≡◌, ℕ, zero, suc, ◌+◌, ◌-◌, ◌*◌, ◌^◌, ◌<◌, ltb, leb, eqb, length, get_or, Result, Ok, Err}
use Rattle.pixel.specs.declared.error.Error.{Error}
use Rattle.pixel.specs.declared.error.Error.TheVariants.{OutputBufferTooSmall}
use Rattle.pixel.specs.Refusal.{bad_state}
use Rattle.pixel.specs.Colour.{alpha, clear_pixel}
use Rattle.pixel.specs.Types.{channels_number, channels_from}
use Rattle.header.specs.declared.Header.{Header}
use Rattle.header.specs.Header.{pixel_count, dimensions_fit, header_of}
use Rattle.rules.specs.Bytes.{pasted}
use Rattle.rules.specs.Reading.{Place, Answer, refused, Move, start_place, size_wanted, move}
use Rattle.rules.specs.Decode.{decoder}
use Rattle.pixel.specs.declared.types.Channels.{Channels}

-- header, wanted channels, the place (byte position, pixel position, current pixel, slots), the pixels left, and the
-- broker's number of the message
pub record State : Type 0 where
  pub header : Header
  pub wanted : ℕ
  pub place : Place
  pub left : ℕ
  pub number : ℕ

-- the header passes its own test
abbrev pub header_passes : State → Bool
header_passes s = dimensions_fit s.header.width s.header.height

-- wanted is 3 or 4
abbrev pub wanted_passes : State → Bool
wanted_passes s = eqb s.wanted 3 || eqb s.wanted 4

-- byte position is at least 14
abbrev pub at_passes : State → Bool
at_passes s = leb 14 s.place.at

-- pixel position at most the pixels
abbrev pub pixel_passes : State → Bool
pixel_passes s = leb s.place.pixel (pixel_count s.header)

-- pixel position and pixels left add up to the pixels (document 02, Q-11)
abbrev pub left_passes : State → Bool
left_passes s = eqb (s.place.pixel + s.left) (pixel_count s.header)

-- the current pixel's fourth byte is 255 when wanted is 3
abbrev pub alpha_passes : State → Bool
alpha_passes s = not (eqb s.wanted 3) || eqb (alpha s.place.current) 255

-- a state is well formed if it passes all six; it may have any number
unfoldable pub well_formed : State → Bool
well_formed s =
    header_passes s && (wanted_passes s && (at_passes s && (pixel_passes s && (left_passes s && alpha_passes s))))

-- what the types of a state's parts say by themselves: numbers that fit, four bytes a pixel, 64 slots
pub record Typed (s : State) : Type 0 where
  pub width_fits : s.header.width < 2 ^ 32
  pub height_fits : s.header.height < 2 ^ 32
  pub at_fits : s.place.at < 2 ^ 64
  pub number_fits : s.number < 2 ^ 64
  pub current_is : length s.place.current.rgba ≡ 4
  pub slots_are : length s.place.slots ≡ 64
  pub slot_is : (i : ℕ) → i < 64 → length (get_or s.place.slots i clear_pixel).rgba ≡ 4

-- a state, or a refusal
pub data Started : Type 0 where
  started : State → Started
  not_started : Error → Started

-- the state before the first chunk of the message with a number: every pixel is left
abbrev pub start_state : Header → ℕ → ℕ → State
start_state header number wanted =
    record { header = header; wanted = wanted; place = start_place; left = pixel_count header; number = number }

-- 2 for wanted other than 3 or 4; else the start's state
unfoldable pub start_wanted : Header → ℕ → Result Channels Error → Started
start_wanted header number (Err e) = not_started e
start_wanted header number (Ok channels) = started (start_state header number (channels_number channels))

-- the header's refusals come first
unfoldable pub start_header : ℕ → ℕ → Result Header Error → Started
start_header number wanted (Err e) = not_started e
start_header number wanted (Ok header) = start_wanted header number (channels_from wanted)

-- starting a stepwise decode of a message, given its number and wanted: header, 2
unfoldable pub starting : List ℕ → ℕ → ℕ → Started
starting message number wanted = start_header number wanted (header_of message)

-- the next state and the bytes that the step writes, or the end, which writes nothing and leaves the state
pub data Step : Type 0 where
  more : State → List ℕ → Step
  end : Answer → Step

-- a state moved on to a place: the pixels that this brings are no longer left
abbrev pub moved_to : State → Place → State
moved_to s place =
    record {
      header = s.header;
      wanted = s.wanted;
      place = place;
      left = s.left - (place.pixel - s.place.pixel);
      number = s.number;
    }

-- a move of the decoder as a step
unfoldable pub step_by : State → Move → Step
step_by s (Move.more place bytes) = more (moved_to s place) bytes
step_by s (Move.end answer) = end answer

-- a step into an output of `room` bytes: 9, 7, then the chunk (a byte position past the message has none: 1)
unfoldable pub step : State → List ℕ → ℕ → Step
step s message room =
    cond (well_formed s)
    (cond (ltb room (size_wanted s.header s.wanted))
    (end (refused (OutputBufferTooSmall room (size_wanted s.header s.wanted))))
    (step_by s (move decoder s.header s.wanted message s.place)))
    (end (refused bad_state))

-- a lent output after a step: the bytes from the state's pixel on, and all others as they were
abbrev pub stepped_over : State → List ℕ → List ℕ → List ℕ
stepped_over s bytes out = pasted (s.place.pixel * s.wanted) bytes out

-- after some steps: the state and the output, with more to do or at the end
pub data Ran : Type 0 where
  going : State → List ℕ → Ran
  ended : Answer → State → List ℕ → Ran

-- the output that a run leaves
abbrev pub output_of : Ran → List ℕ
output_of (going s out) = out
output_of (ended answer s out) = out

-- a step, and then those that follow it
abbrev pub run_on : (State → List ℕ → Ran) → State → List ℕ → Step → Ran
run_on next s out (more s' bytes) = next s' (stepped_over s bytes out)
run_on next s out (end answer) = ended answer s out

-- at most n steps; none tests nothing
unfoldable pub running : List ℕ → ℕ → State → List ℕ → Ran
running message zero s out = going s out
running message (suc n) s out = run_on (running message n) s out (step s message (length out))
