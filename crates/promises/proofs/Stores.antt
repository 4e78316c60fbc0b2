-- The order of flushing for a host that has only the exported calls, proved: what it saves after a flush survives a
-- crash.
-- Assumes nothing.
use mathlib.Core.Path.{◌≡◌, refl, ◌∙◌, ap}
use mathlib.Core.List.{List, Memᴰ}
use Prim.Native.Nat.{ℕ, ◌^◌, ◌<◌}
use native.Mathlib.Omega.{arith}
use lib.ListN.{length}
use Rattle.pixel.specs.Refusal.{number_of}
use Rattle.rules.specs.Reading.{done, refused}
use Rattle.rules.specs.Step.{State, Started, started, not_started, starting, Ran, going, ended, running}
use Rattle.rules.specs.Record.{Recorded, recorded, not_recorded, recording, record_bytes, read_record}
use Rattle.demands.specs.Flushing.{Torn, Stored, begun}
use Rattle.demands.proofs.Flushing.{stored_lives, crash_lives, checkpointed}
use Rattle.demands.proofs.TakeOver.{reached_readable}
use Rattle.demands.proofs.Written.{written_record}
use Rattle.qoi.specs.Hosted.{started_figures, recorded_figures, ran_figures, host_figures}
use Rattle.promises.specs.Hosts.{says, TakesOver}
use Rattle.promises.specs.Stores.{Checkpoint, Beginning}
use Rattle.promises.proofs.Hosts.{number_small, life_takes_over}

-- a start begins a history over the store
pub host_begins :
    (m : List ℕ) (number w : ℕ) (o part : List ℕ) (n : ℕ) → length m < 2 ^ 64 → number < 2 ^ 64 → started_figures (starting m number w) part ≡ says 0 n
    → Beginning m number w o part n
host_begins m number w o part n small fits said = go (starting m number w) refl said
  where
    on : (s : State) → starting m number w ≡ started s → (v : Recorded) → recording s (length part) ≡ v → recorded_figures 0 v ≡ says 0 n → Beginning m number w o part n
    on s is (recorded k) e told =
        let same : k ≡ n = cc in
        record { state = s; record_is = rw is (written_record s part n (e ∙ ap recorded same)); history = begun o small fits is }
    on s is (not_recorded x) e told = let z : number_of x ≡ 0 = cc in absurd (omega (arith, (number_small x).0))

    go : (v : Started) → starting m number w ≡ v → started_figures v part ≡ says 0 n → Beginning m number w o part n
    go (not_started e) is told = let z : number_of e ≡ 0 = cc in absurd (omega (arith, (number_small e).0))
    go (started s) is told = on s is (recording s (length part)) refl told

module _ {m : List ℕ} {number w : ℕ} {s f : State} {o b : List ℕ} {since : List (List ℕ)} {saved : List State}
    (h : Stored m number w s o b since f saved) where
  -- run, flush, save: the next record is saved of a state that the flush has followed
  pub host_checkpoint :
      (steps : ℕ) (next : List ℕ) (n : ℕ) → host_figures m steps o next (read_record number (record_bytes s)) ≡ says 256 n
      → Checkpoint m number w (record_bytes s) o b saved steps next n
  host_checkpoint steps next n said =
      let reads = reached_readable (stored_lives h) in
      go (running m steps s o) refl (rw reads at said)
    where
      on :
          (s' : State) (o' : List ℕ) → running m steps s o ≡ going s' o' → (v : Recorded) → recording s' (length next) ≡ v
          → recorded_figures 256 v ≡ says 256 n → Checkpoint m number w (record_bytes s) o b saved steps next n
      on s' o' e (recorded k) is told =
          let reads = reached_readable (stored_lives h) in
          let same : k ≡ n = cc in
          record {
            state = s';
            record_is = rw (reads, e) (written_record s' next n (is ∙ ap recorded same));
            history = rw (reads, e) (checkpointed steps h s' o' e);
          }
      on s' o' e (not_recorded x) is told = let z : number_of x ≡ 256 = cc in absurd (omega (arith, (number_small x).1))

      go : (v : Ran) → running m steps s o ≡ v → ran_figures v next ≡ says 256 n → Checkpoint m number w (record_bytes s) o b saved steps next n
      go (going s' o') e told = on s' o' e (recording s' (length next)) refl told
      go (ended (done size used) last left) e told = let z : ◌≡◌ {A = ℕ} 0 256 = cc in absurd (omega arith)
      go (ended (refused x) last left) e told = let z : number_of x ≡ 256 = cc in absurd (omega (arith, (number_small x).1))

  -- whatever a crash leaves, any record saved may be handed in on it, and ends as pivotshade_decode
  pub host_after_crash : (t : State) → Memᴰ t saved → (o' : List ℕ) → Torn o since saved o' → TakesOver m number w (record_bytes t) o' o'
  host_after_crash t is o' torn = life_takes_over t (crash_lives h t is o' torn)
