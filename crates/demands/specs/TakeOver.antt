-- Demand 3, take-over: every history of starts, steps and take-ups on one message under one number, and how each must
-- end.
use Rattle.std.specs.Prelude.{List, ◌≡◌, ℕ, ◌+◌, ◌*◌, ◌^◌, ◌<◌, length, take}
use Rattle.rules.specs.Bytes.{written_over}
use Rattle.rules.specs.Decode.{decoding}
use Rattle.rules.specs.Step.{State, started, starting, more, step, stepped_over, Ran, going, ended, running}
use Rattle.rules.specs.Record.{record_bytes, read_record}

-- how many bytes of the output stand before a state's pixel
abbrev pub bytes_before : State → ℕ
bytes_before s = s.place.pixel * s.wanted

-- A history of message m under its number, at wanted w: the state, the output now, and the output as the last take-up,
-- or the start, found it.
-- No output is asked to be long enough, nor a take-up's to be as long as the last: into too few bytes steps and the
-- uncut decode answer the same 7.
pub data Life (m : List ℕ) (number w : ℕ) : State → List ℕ → List ℕ → Type 0 where
  -- a start on any output; the message's length and its number fit 64 bits, which their types say by themselves
  begun :
      {s : State} (o : List ℕ) → length m < 2 ^ 64 → number < 2 ^ 64 → starting m number w ≡ started s
      → Life m number w s o o
  -- a step that goes on
  stepped :
      {s s' : State} {o b bytes : List ℕ} → Life m number w s o b → step s m (length o) ≡ more s' bytes
      → Life m number w s' (stepped_over s bytes o) b
  -- a take-up of the record written of s, however long ago, by a worker on the message with this number, on any output
  -- that holds before s's pixel what the one of that moment held
  taken_up :
      {s s' : State} {o b : List ℕ} → Life m number w s o b → (o' : List ℕ)
      → take (bytes_before s) o' ≡ take (bytes_before s) o → read_record number (record_bytes s) ≡ started s'
      → Life m number w s' o' o'

-- the pixels left plus one: the steps within which the end must come
abbrev pub steps_left : State → ℕ
steps_left s = s.left + 1

-- A run on an output that was b when it was taken up has ended as the uncut decode into b: with its answer, every
-- byte that it writes, and after them what b held.
abbrev pub EndsAsUncut : List ℕ → ℕ → List ℕ → Ran → Type 0
EndsAsUncut m w b run =
    (last : State) × (run ≡ ended (decoding m w (length b)).answer last (written_over (decoding m w (length b)).bytes b))

-- k steps more, where a run has not ended
abbrev pub running_on : List ℕ → ℕ → Ran → Ran
running_on m k (going s o) = running m k s o
running_on m k (ended answer s o) = ended answer s o
