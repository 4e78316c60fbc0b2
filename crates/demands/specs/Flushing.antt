-- Beyond demand 3: a worker whose output lies in a store. A write shows at once and lasts only from the next flush
-- on; a crash may lose or keep each one.
use mathlib.Core.List.{List, [], ◌∷◌, Memᴰ}
use Rattle.std.specs.Prelude.{◌⊎◌, ◌≡◌, ℕ, ◌^◌, ◌≤◌, ◌<◌, length, get_or}
use Rattle.rules.specs.Step.{State, started, starting, more, step, stepped_over}
use Rattle.rules.specs.Record.{record_bytes, read_record}
use Rattle.demands.specs.TakeOver.{bytes_before}

-- a byte that stood at place i in one of some outputs
abbrev pub Shown : List (List ℕ) → ℕ → ℕ → Type 0
Shown outputs i byte = (x : List ℕ) × Memᴰ x outputs × (byte ≡ get_or x i 0)

-- What a killed process, or a power cut, may leave of an output o, where `since` are the outputs that the store
-- showed before o, back to the last flush:
-- each byte is one that stood there since that flush, in any mixture; at and after the pixels of all saved records it
-- may be anything.
-- What is assumed of a store: it keeps the output's length, and a flushed byte that is written again comes out as
-- before or as after, and as nothing else.
pub record Torn (o : List ℕ) (since : List (List ℕ)) (saved : List State) (o' : List ℕ) : Type 0 where
  pub same_length : length o' ≡ length o
  pub each : (i : ℕ) → Shown (o ∷ since) i (get_or o' i 0) ⊎ ((r : State) → Memᴰ r saved → bytes_before r ≤ i)

-- A history of message m under its number, at wanted w, over a store: the state; the output that the store shows; the
-- output as the last take-up, or the start, found it; the outputs shown before, back to the last flush; the state at
-- that flush, which the worker remembers; the states whose records are saved for good.
pub data Stored (m : List ℕ) (number w : ℕ) :
    State → List ℕ → List ℕ → List (List ℕ) → State → List State → Type 0 where
  -- a start on any output, which lasts; to start anew needs no byte of it, so the start's record counts as saved
  begun :
      {s : State} (o : List ℕ) → length m < 2 ^ 64 → number < 2 ^ 64 → starting m number w ≡ started s
      → Stored m number w s o o [] s (s ∷ [])
  -- a step that goes on: what the store showed before may come back
  stepped :
      {s s' f : State} {o b bytes : List ℕ} {since : List (List ℕ)} {saved : List State}
      → Stored m number w s o b since f saved
      → step s m (length o) ≡ more s' bytes → Stored m number w s' (stepped_over s bytes o) b (o ∷ since) f saved
  -- a flush: the output lasts as it is
  flushed :
      {s f : State} {o b : List ℕ} {since : List (List ℕ)} {saved : List State} → Stored m number w s o b since f saved
      → Stored m number w s o b [] s saved
  -- a record is saved, whole or not at all, of the state at the last flush and of no later one
  saves :
      {s f : State} {o b : List ℕ} {since : List (List ℕ)} {saved : List State} → Stored m number w s o b since f saved
      → Stored m number w s o b since f (f ∷ saved)
  -- a crash, and a take-up of any record ever saved on what it left; no flush has made that last
  taken_up :
      {s s' f : State} {o b : List ℕ} {since : List (List ℕ)} {saved : List State}
      → Stored m number w s o b since f saved
      → (r : State) → Memᴰ r saved → (o' : List ℕ) → Torn o since saved o'
      → read_record number (record_bytes r) ≡ started s'
      → Stored m number w s' o' o' (o ∷ since) s' saved
