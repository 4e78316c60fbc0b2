-- Beyond demand 3: any number of live workers at once whose output lies in a store, with steps that stop inside and
-- with crashes, after which new workers go on.
use mathlib.Core.List.{List, [], ◌∷◌, ◌++◌, Memᴰ}
use Rattle.std.specs.Prelude.{◌≡◌, ℕ, ◌^◌, ◌<◌, length}
use Rattle.rules.specs.Step.{State, started, starting, more, step, stepped_over}
use Rattle.rules.specs.Record.{record_bytes, read_record}
use Rattle.demands.specs.Workers.{Partly}
use Rattle.demands.specs.Flushing.{Torn}

-- a worker: the state where it stands, and the one whose record it may save: that at its own last flush or, before
-- its first, the one where it began
abbrev pub Worker : Type 0
Worker = State × State

-- The workers on message m under its number, at wanted w; the output that the store shows; the output as the last
-- crash, or the beginning, left it; the outputs shown before, back to the last flush, whoever made it; the states whose
-- records are saved for good.
-- A worker that is killed stays in the list and steps no more.
pub data Shared (m : List ℕ) (number w : ℕ) : List Worker → List ℕ → List ℕ → List (List ℕ) → List State → Type 0 where
  -- no worker yet, and any output: while no record is saved, a crash may leave any bytes
  nobody : (o : List ℕ) → length m < 2 ^ 64 → number < 2 ^ 64 → Shared m number w [] o o [] []
  -- one more starts
  joins :
      {s : State} {ws : List Worker} {o b : List ℕ} {since : List (List ℕ)} {saved : List State}
      → Shared m number w ws o b since saved
      → starting m number w ≡ started s → Shared m number w ((s, s) ∷ ws) o b since saved
  -- one more takes up any record ever saved, while the others live
  takes_up :
      {s : State} {ws : List Worker} {o b : List ℕ} {since : List (List ℕ)} {saved : List State}
      → Shared m number w ws o b since saved
      → (r : State) → Memᴰ r saved → read_record number (record_bytes r) ≡ started s
      → Shared m number w ((s, s) ∷ ws) o b since saved
  -- one of them makes a step: what the store showed before may come back
  steps :
      (left right : List Worker) (s f : State) {s' : State} {o b bytes : List ℕ} {since : List (List ℕ)}
      {saved : List State} → Shared m number w (left ++ ((s, f) ∷ right)) o b since saved
      → step s m (length o) ≡ more s' bytes
      → Shared m number w (left ++ ((s', f) ∷ right)) (stepped_over s bytes o) b (o ∷ since) saved
  -- one of them stops inside a step; it may make the step again, so steps may mix byte by byte
  stops_inside :
      (left right : List Worker) (s f : State) {s' : State} {o b bytes : List ℕ} {since : List (List ℕ)}
      {saved : List State} (o' : List ℕ) → Shared m number w (left ++ ((s, f) ∷ right)) o b since saved
      → step s m (length o) ≡ more s' bytes
      → Partly o (stepped_over s bytes o) o' → Shared m number w (left ++ ((s, f) ∷ right)) o' b (o ∷ since) saved
  -- one of them flushes: the output lasts as it is
  flushes :
      (left right : List Worker) (s f : State) {o b : List ℕ} {since : List (List ℕ)} {saved : List State}
      → Shared m number w (left ++ ((s, f) ∷ right)) o b since saved
      → Shared m number w (left ++ ((s, s) ∷ right)) o b [] saved
  -- one of them saves a record, whole or not at all, of the state at its own last flush
  saves :
      (left right : List Worker) (s f : State) {o b : List ℕ} {since : List (List ℕ)} {saved : List State}
      → Shared m number w (left ++ ((s, f) ∷ right)) o b since saved
      → Shared m number w (left ++ ((s, f) ∷ right)) o b since (f ∷ saved)
  -- a crash ends them all; no flush has made last what it left
  crashes :
      {ws : List Worker} {o b : List ℕ} {since : List (List ℕ)} {saved : List State} (o' : List ℕ)
      → Shared m number w ws o b since saved
      → Torn o since saved o' → Shared m number w [] o' o' (o ∷ since) saved
