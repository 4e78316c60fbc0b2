-- Beyond demand 3: any number of workers at once on one output that only their steps write, in any order of their
-- steps, and with steps that stop inside.
use Rattle.std.specs.Prelude.{List, [], ◌∷◌, ◌++◌, ◌⊎◌, ◌≡◌, ℕ, ◌^◌, ◌≤◌, ◌<◌, length, get_or, take}
use Rattle.header.specs.Header.{pixel_count}
use Rattle.rules.specs.Reading.{Answer}
use Rattle.rules.specs.Bytes.{written_over}
use Rattle.rules.specs.Decode.{decoding}
use Rattle.rules.specs.Step.{State, started, starting, more, end, step, stepped_over}
use Rattle.rules.specs.Record.{record_bytes, read_record}
use Rattle.demands.specs.TakeOver.{bytes_before, steps_left}

-- a step from o to new that stopped inside: each byte is the old one or the new one
pub record Partly (o new o' : List ℕ) : Type 0 where
  pub same_length : length o' ≡ length o
  pub each : (i : ℕ) → (get_or o' i 0 ≡ get_or o i 0) ⊎ (get_or o' i 0 ≡ get_or new i 0)

-- The workers on message m under its number, at wanted w, and the output now, which was o₀ at first. A worker that
-- stops, or dies, stays in the list and steps no more; one that takes up an old record was in the list since that
-- record was written, and stood still.
pub data Crew (m : List ℕ) (number w : ℕ) (o₀ : List ℕ) : List State → List ℕ → Type 0 where
  -- no worker yet; the message's length and its number fit 64 bits, which their types say by themselves: nothing more
  -- is asked
  nobody : length m < 2 ^ 64 → number < 2 ^ 64 → Crew m number w o₀ [] o₀
  -- one more starts
  joins :
      {s : State} {ss : List State} {o : List ℕ} → Crew m number w o₀ ss o → starting m number w ≡ started s
      → Crew m number w o₀ (s ∷ ss) o
  -- one more takes up the record of a worker s, which stays
  takes_up :
      (left right : List State) (s : State) {s' : State} {o : List ℕ} → Crew m number w o₀ (left ++ (s ∷ right)) o
      → read_record number (record_bytes s) ≡ started s' → Crew m number w o₀ (s' ∷ (left ++ (s ∷ right))) o
  -- one of them makes a step
  steps :
      (left right : List State) (s : State) {s' : State} {o bytes : List ℕ} → Crew m number w o₀ (left ++ (s ∷ right)) o
      → step s m (length o) ≡ more s' bytes → Crew m number w o₀ (left ++ (s' ∷ right)) (stepped_over s bytes o)
  -- one of them stops inside a step and stands where it stood; it may make the step again, so steps may mix byte by
  -- byte
  stops_inside :
      (left right : List State) (s : State) {s' : State} {o bytes : List ℕ} (o' : List ℕ)
      → Crew m number w o₀ (left ++ (s ∷ right)) o
      → step s m (length o) ≡ more s' bytes → Partly o (stepped_over s bytes o) o'
      → Crew m number w o₀ (left ++ (s ∷ right)) o'

-- what holds of each worker s whenever the output is o
pub record Undisturbed (m : List ℕ) (w : ℕ) (o₀ : List ℕ) (s : State) (o : List ℕ) : Type 0 where
  -- the output keeps its length
  pub same_length : length o ≡ length o₀
  -- the uncut decode writes all the bytes before the worker's pixel,
  pub reaches : bytes_before s ≤ length (decoding m w (length o₀)).bytes
  -- and they stand in the output
  pub stand : take (bytes_before s) o ≡ take (bytes_before s) (decoding m w (length o₀)).bytes
  -- its pixel is not past the picture, and a step that goes on brings it further
  pub within : s.place.pixel ≤ pixel_count s.header
  pub further : (s' : State) (bytes : List ℕ) → step s m (length o) ≡ more s' bytes → s.place.pixel < s'.place.pixel
  -- and leaves fewer steps, so its own steps are at most the pixels left plus one
  pub nearer : (s' : State) (bytes : List ℕ) → step s m (length o) ≡ more s' bytes → steps_left s' < steps_left s
  -- its end is the uncut decode's, with the right output
  pub ends :
      (answer : Answer) → step s m (length o) ≡ end answer
      → (answer ≡ (decoding m w (length o₀)).answer) × (o ≡ written_over (decoding m w (length o₀)).bytes o₀)
