-- A record as it is written: the first bytes of what writing it leaves are the record that histories take up.
-- Assumes nothing.
use mathlib.Core.Path.{◌≡◌}
use mathlib.Core.Bool.{Bool, true, false, cond}
use mathlib.Core.List.{List}
use Prim.Native.Nat.{ℕ}
use native.Mathlib.Nat.{zero-add}
use native.Mathlib.Omega.{arith}
use lib.Dec.{ltb}
use lib.ListN.{length, take, drop}
use lib.Seq.{take_at}
use Rattle.pixel.specs.declared.error.Error.{Error}
use Rattle.pixel.specs.declared.error.Error.TheVariants.{OutputBufferTooSmall}
use Rattle.pixel.specs.Refusal.{bad_state}
use Rattle.rules.specs.Bytes.{written_over}
use Rattle.rules.specs.Step.{State, well_formed}
use Rattle.rules.specs.Record.{recorded, not_recorded, record_bytes, recording, recorded_over}

refused_is_no_record : {e : Error} {n : ℕ} → not_recorded e ≡ recorded n → ⊥
refused_is_no_record p = let z : ◌≡◌ {A = ℕ} 0 1 = cc in omega arith

same_length : {k n : ℕ} → recorded k ≡ recorded n → k ≡ n
same_length p = cc

pub written_record : (s : State) (out : List ℕ) (n : ℕ) → recording s (length out) ≡ recorded n → take n (recorded_over s out) ≡ record_bytes s
unfolding recording recorded_over
written_record s out n e = go (well_formed s) (ltb (length out) (length (record_bytes s))) e
  where
    go :
        (well short : Bool)
        → cond well (cond short (not_recorded (OutputBufferTooSmall (length out) (length (record_bytes s)))) (recorded (length (record_bytes s)))) (not_recorded bad_state) ≡ recorded n
        → take n (cond well (cond short out (written_over (record_bytes s) out)) out) ≡ record_bytes s
    go true false e =
        rw (zero-add (length (record_bytes s))) (take_at (record_bytes s) (drop (length (record_bytes s)) out) n (same_length e))
    go true true e = absurd (refused_is_no_record e)
    go false short e = absurd (refused_is_no_record e)
