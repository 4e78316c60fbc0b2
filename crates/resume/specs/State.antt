-- What a decoder's fields and the answers of its functions mean: a state, a start and a record of the rules.
use Rattle.std.specs.Prelude.{◌≡◌, List, ℕ, length, Result, Ok, Err}
use Rattle.std.proofs.Common.{ap}
use Rattle.header.specs.Header.{default_header}
use Rattle.rules.specs.Step.{State, start_state, Started, started, not_started}
use Rattle.rules.specs.Record.{Recorded, recorded, not_recorded, recording, recorded_over}
use Rattle.resume.specs.declared.Decoder.{Decoder}
use Rattle.resume.specs.declared.Started as code
use Rattle.pixel.specs.declared.error.Error.{Error}

-- the state that a decoder holds, field by field
abbrev pub state_of : Decoder → State
state_of d =
    record {
      header = d.header;
      wanted = d.wanted;
      place = record { at = d.at; pixel = d.pixel; current = d.current; slots = d.slots };
      left = d.left;
      number = d.number;
    }

-- a state to start from
abbrev pub idle_state : State
idle_state = start_state default_header 0 3

-- the start that a function answers: the state, or the refusal
abbrev pub started_of : Result Decoder Error → Started
started_of (Ok decoder) = started (state_of decoder)
started_of (Err e) = not_started e

-- a start's answer: accepted, or the refusal
abbrev pub start_answer : Started → Result (Unit {0}) Error
start_answer (started s) = Ok tt
start_answer (not_started e) = Err e

-- the state then: the new one, or after a refusal the old
abbrev pub state_after : State → Started → State
state_after old (started s) = s
state_after old (not_started e) = old

-- a start of the rules is answered, and the state is the one that it leaves
abbrev pub Answers : Started → Decoder → code.Started → Type 0
Answers s old r = (r.answer ≡ start_answer s) × (state_of r.decoder ≡ state_after (state_of old) s)

-- a record's length, or the refusal
abbrev pub written_answer : Recorded → Result ℕ Error
written_answer (recorded size) = Ok size
written_answer (not_recorded e) = Err e

-- what writing a record answers, and what a lent part that held `before` holds after it
abbrev pub Records : State → List ℕ → Result ℕ Error → List ℕ → Type 0
Records s before r after = (r ≡ written_answer (recording s (length before))) × (after ≡ recorded_over s before)

-- the decoder that holds a state
abbrev decoder_of : State → Decoder
decoder_of s =
    record {
      header = s.header;
      wanted = s.wanted;
      at = s.place.at;
      pixel = s.place.pixel;
      left = s.left;
      current = s.place.current;
      slots = s.place.slots;
      number = s.number;
    }

-- two decoders that hold the same state are the same
pub state_determined : (a b : Decoder) → state_of a ≡ state_of b → a ≡ b
state_determined a b same = ap decoder_of same
