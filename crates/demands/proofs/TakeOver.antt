-- Demand 3, take-over, proved: however often a decode is cut and taken up again, it ends as the uncut one.
-- Assumes nothing.
use mathlib.Core.Path.{◌≡◌, refl, sym, ◌∙◌, ap}
use mathlib.Core.List.{List}
use Prim.Native.Nat.{ℕ, zero, suc, ◌+◌, ◌^◌, ◌≤◌, ◌<◌}
use native.Mathlib.Nat.{add_comm}
use native.Mathlib.Omega.{arith}
use lib.Dec.{T}
use lib.ListN.{length, take}
use Rattle.header.specs.Header.{pixel_count}
use Rattle.rules.specs.Reading.{Answer}
use Rattle.rules.specs.Step.{State, Typed, well_formed, started, starting, Step, more, end, step, stepped_over, going, ended, run_on, running, output_of}
use Rattle.rules.specs.Record.{record_bytes, read_record}
use Rattle.rules.proofs.RecordLaws.{adds_up, record_read_back, record_taken}
use Rattle.demands.specs.TakeOver.{bytes_before, Life, begun, stepped, taken_up, steps_left, EndsAsUncut, running_on}
use Rattle.demands.proofs.Steps.{run_adds, run_keeps_before}
use Rattle.demands.proofs.Course.{OnCourse, starts_on_course, starts_at_none, starts_under}
use Rattle.demands.proofs.Held.{Held, held_anew, ends_as_uncut, goes_as_uncut}

-- a record of a state on course is read back under its number
pub readable :
    {m : List ℕ} {number w : ℕ} (s : State) → OnCourse m w s → s.number ≡ number → read_record number (record_bytes s) ≡ started s
readable s on under = rw (← under) (record_read_back s on.typed on.well)

-- where it is read, under whatever number, it gives that state
pub taken_so :
    {m : List ℕ} {number w : ℕ} {s' : State} (s : State) → OnCourse m w s → read_record number (record_bytes s) ≡ started s'
    → (s.number ≡ number) × (s ≡ s')
taken_so {number = number} {s' = s'} s on e = record_taken s on.typed on.well number s' e

-- the state of a history is on the uncut decode's course, has the message's number, and its output holds what it must
pub record Lived (m : List ℕ) (number w : ℕ) (s : State) (o b : List ℕ) : Type 0 where
  pub on_course : OnCourse m w s
  pub under : s.number ≡ number
  pub holds : Held m w b o s

lived_begun :
    (m : List ℕ) (number w : ℕ) (s : State) (o : List ℕ) → length m < 2 ^ 64 → number < 2 ^ 64 → starting m number w ≡ started s
    → Lived m number w s o o
lived_begun m number w s o small fits e =
    record {
      on_course = starts_on_course m w number s small fits e;
      under = starts_under m w number s e;
      holds = held_anew m w o s (rw (starts_at_none m w number s e));
    }

lived_stepped :
    (m : List ℕ) (number w : ℕ) (s s' : State) (o b bytes : List ℕ) → Lived m number w s o b → step s m (length o) ≡ more s' bytes
    → Lived m number w s' (stepped_over s bytes o) b
lived_stepped m number w s s' o b bytes l e =
    let next = goes_as_uncut m w b o s l.on_course l.holds s' bytes e in
    record { on_course = next.on_course; under = sym next.under ∙ l.under; holds = next.holds }

lived_taken_up :
    (m : List ℕ) (number w : ℕ) (s s' : State) (o b o' : List ℕ) → Lived m number w s o b
    → take (bytes_before s) o' ≡ take (bytes_before s) o → read_record number (record_bytes s) ≡ started s' → Lived m number w s' o' o'
lived_taken_up m number w s s' o b o' l agrees e =
    rw (← (taken_so s l.on_course e).1)
    (record { on_course = l.on_course; under = l.under; holds = held_anew m w o' s (agrees ∙ l.holds.before) })

pub lived : {m : List ℕ} {number w : ℕ} {s : State} {o b : List ℕ} → Life m number w s o b → Lived m number w s o b
lived {m} {number} {w} (begun {s} o small fits e) = lived_begun m number w s o small fits e
lived {m} {number} {w} (stepped {s} {s'} {o} {b} {bytes} life e) = lived_stepped m number w s s' o b bytes (lived life) e
lived {m} {number} {w} (taken_up {s} {s'} {o} {b} life o' agrees e) = lived_taken_up m number w s s' o b o' (lived life) agrees e

-- every state that a history reaches is well formed, and its parts fit their types
pub reached_well_formed : {m : List ℕ} {number w : ℕ} {s : State} {o b : List ℕ} → Life m number w s o b → T (well_formed s) × Typed s
reached_well_formed life = let on = (lived life).on_course in (on.well, on.typed)

-- its pixel position and its pixels left are the pixels
pub reached_adds_up :
    {m : List ℕ} {number w : ℕ} {s : State} {o b : List ℕ} → Life m number w s o b → s.place.pixel + s.left ≡ pixel_count s.header
reached_adds_up {s = s} life = adds_up s (reached_well_formed life).0

-- every record that it writes can be read, and gives its state
pub reached_readable :
    {m : List ℕ} {number w : ℕ} {s : State} {o b : List ℕ} → Life m number w s o b → read_record number (record_bytes s) ≡ started s
reached_readable {s = s} life = let l = lived life in readable s l.on_course l.under

-- and nothing else, under whatever number it is read
pub reached_taken :
    {m : List ℕ} {number w : ℕ} {s s' : State} {o b : List ℕ} → Life m number w s o b
    → (other : ℕ) → read_record other (record_bytes s) ≡ started s' → s ≡ s'
reached_taken {s = s} life other reads = (taken_so s (lived life).on_course reads).1

-- a run of more steps than pixels are left ends, as the uncut decode
ends_within :
    (m : List ℕ) (w n : ℕ) (s : State) (o b : List ℕ) → OnCourse m w s → Held m w b o s
    → s.left < n → EndsAsUncut m w b (running m n s o)
unfolding running
ends_within m w zero s o b on held few = absurd (omega arith)
ends_within m w (suc n) s o b on held few =
    go
    (λ s' bytes e.
    let next = goes_as_uncut m w b o s on held s' bytes e in
    ends_within m w n s' (stepped_over s bytes o) b next.on_course next.holds (omega (arith, next.fewer)))
    (step s m (length o)) refl
  where
    go :
        ((s' : State) (bytes : List ℕ) → step s m (length o) ≡ more s' bytes → EndsAsUncut m w b (running m n s' (stepped_over s bytes o)))
        → (v : Step) → step s m (length o) ≡ v → EndsAsUncut m w b (run_on (running m n) s o v)
    go further (more s' bytes) e = further s' bytes e
    go further (end answer) e =
        let uncut = ends_as_uncut m w b o s on held answer e in
        (s, rw (← uncut.0, ← uncut.1))

-- from every history the end comes within the pixels left plus one steps, and is the uncut decode's; so it
-- is with more steps
pub enough_steps :
    {m : List ℕ} {number w : ℕ} {s : State} {o b : List ℕ} → Life m number w s o b → (n : ℕ) → steps_left s ≤ n
    → EndsAsUncut m w b (running m n s o)
enough_steps {m} {number} {w} {s} {o} {b} life n enough =
    let l = lived life in
    ends_within m w n s o b l.on_course l.holds (omega arith)

pub take_over :
    {m : List ℕ} {number w : ℕ} {s : State} {o b : List ℕ} → Life m number w s o b → EndsAsUncut m w b (running m (steps_left s) s o)
take_over {s = s} life = enough_steps life (steps_left s) (omega arith)

-- a run that has more to do leads a history on
pub run_lives :
    {m : List ℕ} {number w : ℕ} (n : ℕ) {s : State} {o b : List ℕ} → Life m number w s o b
    → (s' : State) (o' : List ℕ) → running m n s o ≡ going s' o' → Life m number w s' o' b
unfolding running
run_lives zero {s} {o} life s' o' e =
    let same : s ≡ s' = cc in
    let kept : o ≡ o' = cc in
    rw (← same, ← kept) life
run_lives {m} {number} {w} (suc n) {s} {o} {b} life s' o' e =
    go (λ t bytes is e'. run_lives n (stepped life is) s' o' e') (step s m (length o)) refl e
  where
    go :
        ((t : State) (bytes : List ℕ) → step s m (length o) ≡ more t bytes → running m n t (stepped_over s bytes o) ≡ going s' o'
        → Life m number w s' o' b)
        → (v : Step) → step s m (length o) ≡ v → run_on (running m n) s o v ≡ going s' o' → Life m number w s' o' b
    go on (more t bytes) is e = on t bytes is e
    go on (end answer) is e = absurd (let z : ◌≡◌ {A = ℕ} 0 1 = cc in omega arith)

-- however many steps a run is given, where it ends it ends as the uncut decode
pub run_ends_as_uncut :
    {m : List ℕ} {number w : ℕ} {s : State} {o b : List ℕ} → Life m number w s o b
    → (n : ℕ) (answer : Answer) (last : State) (left : List ℕ) → running m n s o ≡ ended answer last left
    → EndsAsUncut m w b (running m n s o)
run_ends_as_uncut {m} {number} {w} {s} {o} {b} life n answer last left e =
    let over = take_over life in
    let stays : running m (n + steps_left s) s o ≡ running m n s o =
    run_adds m n (steps_left s) s o ∙ ap (running_on m (steps_left s)) e ∙ sym e in
    (over.0, sym stays ∙ rw (add_comm n (steps_left s)) (run_adds m (steps_left s) n s o ∙ ap (running_on m n) over.1))

-- a worker goes on from a checkpoint and dies after any number of steps: the checkpoint is taken up again on what it
-- left
pub left_behind :
    {m : List ℕ} {number w : ℕ} {s : State} {o b : List ℕ} → Life m number w s o b → (n : ℕ)
    → Life m number w s (output_of (running m n s o)) (output_of (running m n s o))
left_behind {m} {number} {w} {s} {o} life n =
    taken_up life (output_of (running m n s o)) (run_keeps_before m n s o) (reached_readable life)
