-- Laws of steps and runs, of every state: what kinds of step there are, what a step keeps, that an end stays the end,
-- and that runs add up.
-- Assumes nothing.
use mathlib.Core.Path.{◌≡◌, refl, sym, ◌∙◌, ap}
use mathlib.Core.List.{List}
use Prim.Native.Nat.{ℕ, zero, suc, ◌+◌, ◌≤◌, ◌<◌}
use native.Mathlib.Nat.{zero-add, suc-add, le_of_lt, mul-le-mul_right}
use native.Mathlib.Omega.{arith}
use lib.ListN.{length, take, drop}
use lib.Seq.{take-take}
use Rattle.header.specs.Header.{pixel_count}
use Rattle.rules.specs.Chunk.{Chunk}
use Rattle.rules.specs.Reading.{Answer, Move}
use Rattle.rules.specs.Decode.{decoder}
use Rattle.rules.specs.Step.{State, Step, more, end, step, stepped_over, going, ended, run_on, running, output_of}
use Rattle.rules.proofs.ChunkLaws.{Sound}
use Rattle.rules.proofs.PastingLaws.{before_pasted}
use Rattle.rules.proofs.ReadingLaws.{advances}
use Rattle.rules.proofs.StepLaws.{next_state, bytes_by, move_from, needed, Kind, not_well, no_room, at_end, by_chunk, kind}
use Rattle.demands.specs.TakeOver.{bytes_before, running_on}

-- an end does not go on
pub end_is_not_more : {answer : Answer} {s : State} {bytes : List ℕ} → end answer ≡ more s bytes → ⊥
end_is_not_more p = let z : ◌≡◌ {A = ℕ} 0 1 = cc in omega arith

-- a step that goes on, from s to s', has done a chunk
pub record WentOn (m : List ℕ) (s : State) (room : ℕ) (s' : State) (bytes : List ℕ) : Type 0 where
  pub done : Chunk
  pub fits : needed s ≤ room
  pub sound : Sound (drop s.place.at m) done
  pub missing : s.place.pixel < pixel_count s.header
  pub moves : move_from m s ≡ Move.more (next_state s done).place (bytes_by s done)
  pub next : next_state s done ≡ s'
  pub written : bytes_by s done ≡ bytes

pub went_on :
    (m : List ℕ) (s : State) (room : ℕ) (s' : State) (bytes : List ℕ) → step s m room ≡ more s' bytes → WentOn m s room s' bytes
went_on m s room s' bytes e = go (step s m room) (kind m s room) e
  where
    go : (v : Step) → Kind m s room v → v ≡ more s' bytes → WentOn m s room s' bytes
    go v (not_well bad) is = absurd (end_is_not_more is)
    go v (no_room short) is = absurd (end_is_not_more is)
    go v (at_end answer fits last) is = absurd (end_is_not_more is)
    go v (by_chunk k fits sound missing moves) is =
        record { done = k; fits = fits; sound = sound; missing = missing; moves = moves; next = cc; written = cc }

-- a step that goes on brings the pixel further
pub step_goes_further :
    (m : List ℕ) (s : State) (room : ℕ) (s' : State) (bytes : List ℕ) → step s m room ≡ more s' bytes
    → bytes_before s ≤ bytes_before s'
step_goes_further m s room s' bytes e =
    let c = went_on m s room s' bytes e in
    rw (← c.next)
    (mul-le-mul_right s.wanted (le_of_lt (advances decoder s.header s.wanted s.place c.done c.sound.once c.missing)))

-- a step never changes a byte before its pixel
pub step_keeps_before :
    (m : List ℕ) (s : State) (o : List ℕ) (s' : State) (bytes : List ℕ) → step s m (length o) ≡ more s' bytes
    → take (bytes_before s) (stepped_over s bytes o) ≡ take (bytes_before s) o
step_keeps_before m s o s' bytes e =
    let c = went_on m s (length o) s' bytes e in
    before_pasted o (bytes_before s) bytes (omega (arith, c.fits, mul-le-mul_right s.wanted c.missing))

-- what agrees so far agrees less far
kept_within : (n k : ℕ) (a b : List ℕ) → n ≤ k → take k a ≡ take k b → take n a ≡ take n b
kept_within n k a b less same = sym (take-take n k a less) ∙ ap (take n) same ∙ take-take n k b less

module _ (m : List ℕ) where
  -- a step that ends changes neither state nor output, and however many steps are allowed it is the end
  pub end_changes_nothing :
      (s : State) (o : List ℕ) (answer : Answer) → step s m (length o) ≡ end answer
      → (k : ℕ) → running m (suc k) s o ≡ ended answer s o
  unfolding running
  end_changes_nothing s o answer e k = ap (run_on (running m k) s o) e

  -- a run that ended leaves a state and an output on which every later run ends the same way
  pub ends_again :
      (n : ℕ) (s : State) (o : List ℕ) (answer : Answer) (last : State) (left : List ℕ)
      → running m n s o ≡ ended answer last left → (k : ℕ) → running m (suc k) last left ≡ ended answer last left
  unfolding running
  ends_again zero s o answer last left e k = absurd (let z : ◌≡◌ {A = ℕ} 0 1 = cc in omega arith)
  ends_again (suc n) s o answer last left e k =
      go (λ s' bytes e'. ends_again n s' (stepped_over s bytes o) answer last left e' k) (step s m (length o)) refl e
    where
      go :
          ((s' : State) (bytes : List ℕ) → running m n s' (stepped_over s bytes o) ≡ ended answer last left
          → running m (suc k) last left ≡ ended answer last left)
          → (v : Step) → step s m (length o) ≡ v → run_on (running m n) s o v ≡ ended answer last left
          → running m (suc k) last left ≡ ended answer last left
      go again (more s' bytes) is e = again s' bytes e
      go again (end a) is e =
          let same : s ≡ last = cc in
          let kept : o ≡ left = cc in
          let answers : a ≡ answer = cc in
          rw (← same, ← kept, ← answers) (end_changes_nothing s o a is k)

  -- n steps and then k are n + k
  pub run_adds : (n k : ℕ) (s : State) (o : List ℕ) → running m (n + k) s o ≡ running_on m k (running m n s o)
  unfolding running
  run_adds zero k s o = rw zero-add
  run_adds (suc n) k s o = rw suc-add (go (run_adds n k) (step s m (length o)))
    where
      go :
          ((s' : State) (o' : List ℕ) → running m (n + k) s' o' ≡ running_on m k (running m n s' o'))
          → (v : Step) → run_on (running m (n + k)) s o v ≡ running_on m k (run_on (running m n) s o v)
      go adds (more s' bytes) = adds s' (stepped_over s bytes o)
      go adds (end answer) = refl

  -- a run of n steps that has more to do has brought at least n pixels of the same picture
  pub run_further :
      (n : ℕ) (s : State) (o : List ℕ) (s' : State) (o' : List ℕ) → running m n s o ≡ going s' o'
      → (s.place.pixel + n ≤ s'.place.pixel) × (s.header ≡ s'.header)
  unfolding running
  run_further zero s o s' o' e =
      let same : s ≡ s' = cc in
      rw (← same) (omega arith, refl)
  run_further (suc n) s o s' o' e =
      go (λ t bytes e'. run_further n t (stepped_over s bytes o) s' o' e') (step s m (length o)) refl e
    where
      go :
          ((t : State) (bytes : List ℕ) → running m n t (stepped_over s bytes o) ≡ going s' o'
          → (t.place.pixel + n ≤ s'.place.pixel) × (t.header ≡ s'.header))
          → (v : Step) → step s m (length o) ≡ v → run_on (running m n) s o v ≡ going s' o'
          → (s.place.pixel + suc n ≤ s'.place.pixel) × (s.header ≡ s'.header)
      go further (more t bytes) is e =
          let c = went_on m s (length o) t bytes is in
          let moved = advances decoder s.header s.wanted s.place c.done c.sound.once c.missing in
          let rest = rw (← c.next) at (further t bytes e) in
          (omega (arith, moved, rest.0), rest.1)
      go further (end answer) is e = absurd (let z : ◌≡◌ {A = ℕ} 0 1 = cc in omega arith)

  -- a run never changes a byte before the pixel that it began at
  pub run_keeps_before :
      (n : ℕ) (s : State) (o : List ℕ) → take (bytes_before s) (output_of (running m n s o)) ≡ take (bytes_before s) o
  unfolding running
  run_keeps_before zero s o = refl
  run_keeps_before (suc n) s o = go (run_keeps_before n) (step s m (length o)) refl
    where
      go :
          ((s' : State) (o' : List ℕ) → take (bytes_before s') (output_of (running m n s' o')) ≡ take (bytes_before s') o')
          → (v : Step) → step s m (length o) ≡ v
          → take (bytes_before s) (output_of (run_on (running m n) s o v)) ≡ take (bytes_before s) o
      go keeps (more s' bytes) e =
          kept_within (bytes_before s) (bytes_before s') (output_of (running m n s' (stepped_over s bytes o))) (stepped_over s bytes o)
          (step_goes_further m s (length o) s' bytes e) (keeps s' (stepped_over s bytes o))
          ∙ step_keeps_before m s o s' bytes e
      go keeps (end answer) e = refl
