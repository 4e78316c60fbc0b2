-- Demand 3 for a host that has only the exported functions and keeps the state as its record: the host's histories,
-- and what holds of each.
use Rattle.std.specs.Prelude.{List, [], ◌∷◌, ◌≡◌, ℕ, ◌+◌, ◌^◌, ◌≤◌, ◌<◌, length, get_or, take}
use Rattle.pixel.specs.declared.error.Error.{Error}
use Rattle.rules.specs.Bytes.{written_over}
use Rattle.rules.specs.Decode.{decoding}
use Rattle.rules.specs.Figures.{answer_figures, refusal_figures}
use Rattle.rules.specs.Step.{State, started, not_started, starting}
use Rattle.rules.specs.Record.{read_record}
use Rattle.demands.specs.TakeOver.{bytes_before, steps_left}
use Rattle.qoi.specs.Hosted.{started_figures, started_over, host_figures, host_out, host_next}

-- a number with one figure: 0 or 256, and a record's length
abbrev pub says : ℕ → ℕ → List ℕ
says number size = number ∷ size ∷ 0 ∷ 0 ∷ 0 ∷ []

-- the number that is returned
abbrev pub returned : List ℕ → ℕ
returned figures = get_or figures 0 0

-- the bytes that always suffice for a record: PIVOTSHADE_RECORD_MAX
abbrev pub record_room : ℕ
record_room = 300

-- A host's history of message m under its number, at wanted w: the record in its hands, the output now, and the output
-- as the last take-up, or the start, found it.
pub data Host (m : List ℕ) (number w : ℕ) : List ℕ → List ℕ → List ℕ → Type 0 where
  -- pivotshade_start returned 0: the record is the first n bytes of the part lent for it; the message's length and its
  -- number fit 64 bits, as their types say
  starts :
      (o part : List ℕ) (n : ℕ) → length m < 2 ^ 64 → number < 2 ^ 64
      → started_figures (starting m number w) part ≡ says 0 n
      → Host m number w (take n (started_over (starting m number w) part)) o o
  -- pivotshade_run returned 256: the next record is the first n bytes of the part lent for it
  runs :
      {r o b : List ℕ} → Host m number w r o b → (steps : ℕ) (next : List ℕ) (n : ℕ)
      → host_figures m steps o next (read_record number r) ≡ says 256 n
      → Host m number w (take n (host_next m steps o next (read_record number r)))
      (host_out m steps o (read_record number r)) b
  -- a record kept, however long ago, is handed in on any output that holds before its pixel what the output of that
  -- moment held
  takes_over :
      {r o b : List ℕ} → Host m number w r o b → (s : State) → read_record number r ≡ started s → (o' : List ℕ)
      → take (bytes_before s) o' ≡ take (bytes_before s) o → Host m number w r o' o'

-- figures and output are those of pivotshade_decode of m at w into b; the part for the next record is as it was
pub record EndsAsDecode (m : List ℕ) (w : ℕ) (b next figures out after : List ℕ) : Type 0 where
  pub figures_are : figures ≡ answer_figures (decoding m w (length b)).answer
  pub output_is : out ≡ written_over (decoding m w (length b)).bytes b
  pub next_stays : after ≡ next

-- What holds whenever a host has record r and output o, and the last take-up, or the start, found b.
pub record TakesOver (m : List ℕ) (number w : ℕ) (r o b : List ℕ) : Type 0 where
  -- the record is read, and is at most 300 bytes long
  pub state : State
  pub reads : read_record number r ≡ started state
  pub fits : length r ≤ record_room
  -- with 300 bytes for the next record, a run of any number of steps that does not return 256 ends as pivotshade_decode
  pub ends_as_decode :
      (steps : ℕ) (next : List ℕ) → record_room ≤ length next
      → (returned (host_figures m steps o next (read_record number r)) ≡ 256 → ⊥)
      → EndsAsDecode m w b next (host_figures m steps o next (read_record number r))
      (host_out m steps o (read_record number r))
      (host_next m steps o next (read_record number r))
  -- one that returns 256 leads to a record with fewer steps left, by as many as it was given
  pub nearer :
      (steps : ℕ) (next : List ℕ) (n : ℕ) → host_figures m steps o next (read_record number r) ≡ says 256 n
      → (s' : State) × (read_record number (take n (host_next m steps o next (read_record number r))) ≡ started s')
      × (steps_left s' + steps ≤ steps_left state)
  -- with the pixels left plus one steps, or more, it does not return 256
  pub ends_within :
      (steps : ℕ) (next : List ℕ) → steps_left state ≤ steps
      → returned (host_figures m steps o next (read_record number r)) ≡ 256 → ⊥

-- what holds of a start with 300 bytes for its record: it returns 0, or ends as pivotshade_decode into any output,
-- and leaves the part as it was
pub record Starts (m : List ℕ) (number w : ℕ) (part : List ℕ) : Type 0 where
  pub refuses_as_decode :
      (returned (started_figures (starting m number w) part) ≡ 0 → ⊥) → (o : List ℕ)
      → EndsAsDecode m w o part (started_figures (starting m number w) part) o (started_over (starting m number w) part)

-- what a run of 0 steps does with record r and 300 bytes for the next one: it tests the record alone
pub record TestsRecord (m : List ℕ) (number : ℕ) (r o next : List ℕ) : Type 0 where
  -- the output is as it was
  pub output_stays : host_out m 0 o (read_record number r) ≡ o
  -- a record that is not read: its refusal, and no next one
  pub refuses :
      (e : Error) → read_record number r ≡ not_started e
      → (host_figures m 0 o next (read_record number r) ≡ refusal_figures e)
      × (host_next m 0 o next (read_record number r) ≡ next)
  -- one that is read: 256, and the same record
  pub accepts :
      (s : State) → read_record number r ≡ started s
      → (host_figures m 0 o next (read_record number r) ≡ says 256 (length r))
      × (host_next m 0 o next (read_record number r) ≡ written_over r next)

-- a run of message m under its number refuses record r with e, and changes nothing
pub record RefusesRecord (m : List ℕ) (number : ℕ) (r : List ℕ) (e : Error) : Type 0 where
  pub figures_are :
      (steps : ℕ) (o next : List ℕ) → host_figures m steps o next (read_record number r) ≡ refusal_figures e
  pub output_stays : (steps : ℕ) (o : List ℕ) → host_out m steps o (read_record number r) ≡ o
  pub next_stays : (steps : ℕ) (o next : List ℕ) → host_next m steps o next (read_record number r) ≡ next
