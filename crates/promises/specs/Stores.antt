-- A host whose output lies in a store, where a write lasts only from the next flush on: it runs, flushes the output,
-- and then saves the record.
use Rattle.std.specs.Prelude.{List, [], ◌∷◌, ◌≡◌, ℕ, take}
use Rattle.rules.specs.Step.{State, starting}
use Rattle.rules.specs.Record.{record_bytes, read_record}
use Rattle.demands.specs.Flushing.{Stored}
use Rattle.qoi.specs.Hosted.{started_over, host_out, host_next}

-- After a run from record r on output o that returned 256 with n, a flush of the output, and the saving of the first
-- n bytes of the part for the next record: they are the record of a state, and the history over the store goes on from
-- there, with that state among the saved ones.
pub record Checkpoint (m : List ℕ) (number w : ℕ) (r o b : List ℕ) (saved : List State) (steps : ℕ) (next : List ℕ)
    (n : ℕ) : Type 0 where
  pub state : State
  pub record_is : take n (host_next m steps o next (read_record number r)) ≡ record_bytes state
  pub history : Stored m number w state (host_out m steps o (read_record number r)) b [] state (state ∷ saved)

-- After a start that returned 0 with n: the first n bytes of the part for the record are the record of a state, and a
-- history over the store begins there, on any output.
pub record Beginning (m : List ℕ) (number w : ℕ) (o part : List ℕ) (n : ℕ) : Type 0 where
  pub state : State
  pub record_is : take n (started_over (starting m number w) part) ≡ record_bytes state
  pub history : Stored m number w state o o [] state (state ∷ [])
