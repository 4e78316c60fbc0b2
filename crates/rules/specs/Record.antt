-- The record of a state: its bytes, writing them, and reading them left to right with the order of the refusals.
-- The order of refusals reads from the bottom up: the last definition of it makes the first test.
use Rattle.std.specs.Prelude.{cond, List, [], ◌∷◌, ◌++◌, ℕ, ◌+◌, ◌-◌, ltb, eqb, length, drop, Result, Ok, Err}
use Rattle.pixel.specs.declared.Pixel.{Pixel}
use Rattle.pixel.specs.declared.error.Error.{Error}
use Rattle.pixel.specs.declared.error.Error.TheVariants.{UnexpectedBufferEnd, BadState, OutputBufferTooSmall, OtherMessage}
use Rattle.pixel.specs.Refusal.{bad_state}
use Rattle.pixel.specs.Types.{channels_number, channels_from}
use Rattle.number.specs.declared.Number.{Number}
use Rattle.number.specs.Seven.{seven_bits, read_number}
use Rattle.header.specs.declared.Header.{Header}
use Rattle.header.specs.Header.{pixel_count, header_bytes, header_of}
use Rattle.rules.specs.Bytes.{written_over}
use Rattle.pixel.specs.Bytes.{pixel_from, pixels_from}
use Rattle.rules.specs.Step.{State, at_passes, pixel_passes, well_formed, Started, started, not_started}
use Rattle.pixel.specs.declared.types.Channels.{Channels}

-- pixels one after another, four bytes each
unfoldable pub pixels_bytes : List Pixel → List ℕ
pixels_bytes [] = []
pixels_bytes (p ∷ ps) = p.rgba ++ pixels_bytes ps

-- 14 header bytes; wanted, byte position, pixel position in groups of seven bits; current pixel; slots in order; the
-- message's number in groups of seven bits
unfoldable pub record_bytes : State → List ℕ
record_bytes s =
    header_bytes s.header
    ++ (seven_bits s.wanted
    ++ (seven_bits s.place.at
    ++ (seven_bits s.place.pixel
    ++ (s.place.current.rgba
    ++ (pixels_bytes s.place.slots
    ++ seven_bits s.number)))))

-- the record's length, or a refusal
pub data Recorded : Type 0 where
  recorded : ℕ → Recorded
  not_recorded : Error → Recorded

-- writing a record into `room` bytes: 9, 7 with its length
unfoldable pub recording : State → ℕ → Recorded
recording s room =
    cond (well_formed s)
    (cond (ltb room (length (record_bytes s))) (not_recorded (OutputBufferTooSmall room (length (record_bytes s))))
    (recorded (length (record_bytes s))))
    (not_recorded bad_state)

-- the output then: the record and what stood after it; after a refusal, what it held
unfoldable pub recorded_over : State → List ℕ → List ℕ
recorded_over s out =
    cond (well_formed s) (cond (ltb (length out) (length (record_bytes s))) out (written_over (record_bytes s) out)) out

-- a number that starts at an offset, and then what starts where it ends
unfoldable pub after_number : ℕ → Result Number Error → (ℕ → ℕ → Started) → Started
after_number start (Ok number) next = next number.value (start + number.used)
after_number start (Err e) next = not_started e

-- last of all 12, with the number found, for another number than the one expected
unfoldable pub accept_number : ℕ → State → Started
accept_number expected s = cond (eqb s.number expected) (started s) (not_started (OtherMessage s.number))

-- where the record of a state has its byte position
abbrev pub at_offset : State → ℕ
at_offset s = 14 + length (seven_bits s.wanted)

-- its pixel position
abbrev pub pixel_offset : State → ℕ
pixel_offset s = at_offset s + length (seven_bits s.place.at)

-- its current pixel
abbrev pub current_offset : State → ℕ
current_offset s = pixel_offset s + length (seven_bits s.place.pixel)

-- and the first of these fields that has a fault of state
unfoldable pub fault_offset : State → ℕ
fault_offset s = cond (at_passes s) (cond (pixel_passes s) (current_offset s) (pixel_offset s)) (at_offset s)

-- after the number, which ends at `end` of a record of `size` bytes: the other faults of state, 9 at the first; extra
-- bytes, 9 where they begin
unfoldable pub accept_state : ℕ → State → ℕ → ℕ → Started
accept_state expected s end size =
    cond (well_formed s) (cond (eqb end size) (accept_number expected s) (not_started (BadState end)))
    (not_started (BadState (fault_offset s)))

-- the current pixel, 4 bytes, and the slots, 256 bytes, each cut short is 1; then the message's number. The record does
-- not hold the pixels left: they are those from the pixel position on
unfoldable pub read_slots : ℕ → Header → ℕ → ℕ → ℕ → List ℕ → ℕ → Started
read_slots expected header wanted at pixel bytes start =
    cond (ltb (length bytes) (start + 4)) (not_started (UnexpectedBufferEnd start))
    (cond (ltb (length bytes) (start + 260)) (not_started (UnexpectedBufferEnd (start + 4)))
    (after_number (start + 260) (read_number bytes (start + 260))
    (λ number end.
    accept_state expected
    (record {
      header = header;
      wanted = wanted;
      place = record {
        at = at;
        pixel = pixel;
        current = pixel_from 4 (drop start bytes);
        slots = pixels_from 64 4 (drop (start + 4) bytes);
      };
      left = pixel_count header - pixel;
      number = number;
    })
    end (length bytes))))

-- after wanted, where other than 3 or 4 is 2: byte position and pixel position
unfoldable pub read_positions : ℕ → Header → Result Channels Error → List ℕ → ℕ → Started
read_positions expected header (Err e) bytes start = not_started e
read_positions expected header (Ok channels) bytes start =
    after_number start (read_number bytes start)
    (λ at next.
    after_number next (read_number bytes next)
    (λ pixel last. read_slots expected header (channels_number channels) at pixel bytes last))

-- after the header, with its refusals: wanted
unfoldable pub read_wanted : ℕ → Result Header Error → List ℕ → Started
read_wanted expected (Err e) bytes = not_started e
read_wanted expected (Ok header) bytes =
    after_number 14 (read_number bytes 14) (λ wanted next. read_positions expected header (channels_from wanted) bytes next)

-- reading a record, given the message's number that is expected: header; numbers, cut 1 or not shortest 9; wanted 2 at
-- its place; slots; the number; the faults of state; extra bytes; another number. Each 1 and 9 carries the offset of
-- the field that is cut or has the fault: a cut header's is 0
unfoldable pub read_record : ℕ → List ℕ → Started
read_record expected bytes = read_wanted expected (header_of bytes) bytes
