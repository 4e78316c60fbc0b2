-- What the crate's own parts ask of one another; nothing that a public contract cites.
use Rattle.std.specs.Prelude.{◌≡◌, Bool, cond, List, ℕ, zero, suc, ◌+◌, ◌≤◌, T, ltb, length, take, drop, Result, Ok, Err}
use Rattle.std.specs.Borrow.{Bor}
use Rattle.pixel.specs.Refusal.{bad_state, ended_early}
use Rattle.pixel.specs.declared.error.Error.{Error}
use Rattle.pixel.specs.declared.error.Error.TheVariants.{UnexpectedBufferEnd, OutputBufferTooSmall}
use Rattle.number.specs.declared.Number.{Number}
use Rattle.rules.specs.Reading.{Answer, size_wanted}
use Rattle.rules.specs.Step.{State, well_formed, Started, started, not_started}
use Rattle.resume.specs.declared.Decoder.{Decoder}
use Rattle.resume.specs.declared.Progress.{Progress}
use Rattle.resume.specs.declared.Progress.TheVariants.{More}
use Rattle.resume.specs.Run.{end_answer}
use Rattle.resume.specs.State.{state_of}

-- the start with a decoder that is accepted, or its refusal
abbrev pub started_if : Result (Unit {0}) Error → Decoder → Started
started_if (Ok passed) decoder = started (state_of decoder)
started_if (Err e) decoder = not_started e

-- the number of an answer
abbrev pub value_of : Result Number Error → Result ℕ Error
value_of (Ok number) = Ok number.value
value_of (Err e) = Err e

-- and the bytes that it took
abbrev pub used_of : Result Number Error → ℕ
used_of (Ok number) = number.used
used_of (Err e) = 0

-- the bytes of a part that is handed over
abbrev pub part_of : Result (Bor (List ℕ)) Error → Result (List ℕ) Error
part_of (Ok part) = Ok part.now
part_of (Err e) = Err e

-- so many bytes from a place on; cut short they are 1 there
abbrev pub next_bytes : List ℕ → ℕ → ℕ → Result (List ℕ) Error
next_bytes bytes at size = cond (ltb (length bytes) (at + size)) (Err (UnexpectedBufferEnd at)) (Ok (take size (drop at bytes)))

-- a state that a run goes on from: well formed, with room for the picture, its byte position within the message
pub record Ready (s : State) (message out : List ℕ) (size : ℕ) : Type 0 where
  pub well : T (well_formed s)
  pub counted : size ≡ size_wanted s.header s.wanted
  pub room : size ≤ length out
  pub inside : s.place.at ≤ length message

-- the picture's size, where a run may go on in a message and an output of these sizes: 9, 7, 1
abbrev pub size_for : State → ℕ → ℕ → Result ℕ Error
size_for s message room =
    cond (well_formed s)
    (cond (ltb room (size_wanted s.header s.wanted)) (Err (OutputBufferTooSmall room (size_wanted s.header s.wanted)))
    (cond (ltb message s.place.at) (Err ended_early) (Ok (size_wanted s.header s.wanted))))
    (Err bad_state)

-- with no step left there is more to do; else the marker test was one
abbrev pub spare_answer : ℕ → Answer → Result Progress Error
spare_answer zero closing = Ok More
spare_answer (suc n) closing = end_answer closing

-- what a walk answers: a chunk is cut short, no step is left, or else the marker test
abbrev pub walk_answer : Bool → ℕ → Answer → Result Progress Error
walk_answer cut spare closing = cond cut (Err ended_early) (spare_answer spare closing)
