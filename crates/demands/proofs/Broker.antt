-- A checkpoint in the hands of any worker, proved: under its own number it is one of the worker's own message, and under
-- another it is refused.
-- Assumes nothing.
use mathlib.Core.List.{List}
use mathlib.Core.Path.{◌≡◌, sym, ◌∙◌}
use Prim.Native.Nat.{ℕ}
use lib.ListN.{take}
use Rattle.pixel.specs.declared.error.Error.TheVariants.{OtherMessage}
use Rattle.rules.specs.Step.{State, started, not_started}
use Rattle.rules.specs.Record.{record_bytes, read_record}
use Rattle.rules.proofs.RecordLaws.{record_of_another}
use Rattle.demands.specs.TakeOver.{bytes_before, Life, taken_up}
use Rattle.demands.specs.Broker.{Broker}
use Rattle.demands.proofs.TakeOver.{taken_so, lived}

-- a worker on another message than the one that a checkpoint is of gets 12, with that one's number
pub another_message :
    {m : List ℕ} {number w : ℕ} {s : State} {o b : List ℕ} → Life m number w s o b
    → (other : ℕ) → (number ≡ other → ⊥) → read_record other (record_bytes s) ≡ not_started (OtherMessage number)
another_message {s = s} life other differs =
    let l = lived life in
    rw (← l.under)
    (record_of_another s l.on_course.typed l.on_course.well other (λ same. differs (sym l.under ∙ same)))

-- a worker to which m was delivered reads some worker's checkpoint, of any message m' that was ever delivered, under m's
-- number: then it is a checkpoint of m
pub any_checkpoint :
    (broker : Broker) {m m' : List ℕ} {number number' w : ℕ} {s s' : State} {o b : List ℕ}
    → broker.delivers number m → broker.delivers number' m' → Life m' number' w s o b → (o' : List ℕ)
    → take (bytes_before s) o' ≡ take (bytes_before s) o → read_record number (record_bytes s) ≡ started s'
    → Life m number w s' o' o'
any_checkpoint broker {m} {m'} {number} {number'} {s = s} delivered delivered' life o' agrees reads =
    let l = lived life in
    let same_number : number' ≡ number = sym l.under ∙ (taken_so s l.on_course reads).0 in
    let same_bytes : m' ≡ m = broker.equal_bytes number m' m (rw same_number at delivered') delivered in
    taken_up (rw (same_number, same_bytes) at life) o' agrees reads
