-- An output in the hands of a worker on the uncut decode's course: what it holds, what a step makes of it, and what
-- it holds at the end.
-- Assumes nothing.
use mathlib.Core.Path.{◌≡◌, refl, sym, ◌∙◌, ap}
use mathlib.Core.List.{List, ◌++◌}
use Prim.Native.Nat.{ℕ, ◌+◌, ◌-◌, ◌≤◌, ◌<◌}
use native.Mathlib.Nat.{lt_of_not-le, zero-add, mul-le-mul_right}
use native.Mathlib.Decide.{dec_le}
use native.Mathlib.Omega.{arith}
use lib.ListN.{length, take, drop, take-append-drop}
use lib.Seq.{length-take-le, drop_at, take-take, take-add}
use Rattle.pixel.specs.declared.error.Error.TheVariants.{OutputBufferTooSmall}
use Rattle.header.specs.Header.{pixel_count}
use Rattle.rules.specs.Chunk.{Chunk}
use Rattle.rules.specs.Reading.{Answer, refused, Move}
use Rattle.rules.specs.Bytes.{written_over}
use Rattle.rules.specs.Decode.{decoder, decoding}
use Rattle.rules.specs.Step.{State, Step, more, end, step, stepped_over}
use Rattle.rules.proofs.ChunkLaws.{Sound}
use Rattle.rules.proofs.PastingLaws.{take_pasted, drop_pasted, beyond_pasted, length_pasted}
use Rattle.rules.proofs.ReadingLaws.{advances, stays_within}
use Rattle.rules.proofs.RecordLaws.{adds_up}
use Rattle.demands.specs.TakeOver.{bytes_before}
use Rattle.rules.proofs.StepLaws.{next_state, bytes_by, move_from, needed, Kind, kind}
use Rattle.demands.proofs.Steps.{end_is_not_more, WentOn, went_on}
use Rattle.demands.proofs.Course.{whole, OnCourse, within, uncut_whole, uncut_short, whole_ends, same_needed, reached, written_on, reaches_on, goes_on_course}

-- what follows place k in the first k + j of a list
middle : (k j : ℕ) (l : List ℕ) → k ≤ length l → drop k (take (k + j) l) ≡ take j (drop k l)
middle k j l long = rw (take-add k j l) (drop_at (take k l) (take j (drop k l)) k (length-take-le k l long))

-- an output that is right up to place k and from there on as one that is right up to n is right up to n
overlay :
    (k n : ℕ) (o o' full : List ℕ) → k ≤ length o → k ≤ length full
    → take k o' ≡ take k full → drop k o' ≡ drop k o → take n o ≡ take n full → take n o' ≡ take n full
overlay k n o o' full long longer first rest old = go (dec_le n k)
  where
    beyond : (j : ℕ) → k + j ≡ n → take n o' ≡ take n full
    beyond j is =
        let old' : take (k + j) o ≡ take (k + j) full = rw is old in
        let same : take j (drop k o) ≡ take j (drop k full) =
        sym (middle k j o long) ∙ ap (drop k) old' ∙ middle k j full longer in
        rw (← is, take-add k j o', take-add k j full, first, rest, same)

    go : Dec (n ≤ k) → take n o' ≡ take n full
    go (yes h) = sym (take-take n k o' h) ∙ ap (take n) first ∙ take-take n k full h
    go (no h) = beyond (n - k) (omega (arith, lt_of_not-le h))

module _ (m : List ℕ) (w : ℕ) where
  -- the output o of a worker at s, which was b when it was taken up
  pub record Held (b o : List ℕ) (s : State) : Type 0 where
    pub same_length : length o ≡ length b
    -- before the worker's pixel stand the whole reading's bytes
    pub before : take (bytes_before s) o ≡ take (bytes_before s) (whole m w).bytes
    -- after the whole reading's bytes it is as it was
    pub beyond : drop (length (whole m w).bytes) o ≡ drop (length (whole m w).bytes) b
    -- where there is no room nothing was written
    pub short : length b < needed s → o ≡ b

  -- an output that a worker takes up as it is
  pub held_anew : (o : List ℕ) (s : State) → take (bytes_before s) o ≡ take (bytes_before s) (whole m w).bytes → Held o o s
  held_anew o s before = record { same_length = refl; before = before; beyond = refl; short = λ few. refl }

  -- after a step from s to s', which made o into o'
  pub record Onward (b o : List ℕ) (s s' : State) (o' : List ℕ) : Type 0 where
    pub on_course : OnCourse m w s'
    pub under : s.number ≡ s'.number
    pub holds : Held b o' s'
    pub further : s.place.pixel < s'.place.pixel
    pub fewer : s'.left < s.left
    pub roomy : needed s' ≤ length b
    -- what another worker holds stays right
    pub others : (t : State) → OnCourse m w t → Held b o t → Held b o' t

  module _ (b o : List ℕ) (s : State) (on : OnCourse m w s) (held : Held b o s) where
    -- the bytes that the whole reading writes are those before the pixel where it ends
    ends_there :
        (answer : Answer) → needed s ≤ length o → move_from m s ≡ Move.end answer
        → (answer ≡ (decoding m w (length b)).answer) × (o ≡ written_over (decoding m w (length b)).bytes b)
    ends_there answer fits stops =
        let e = whole_ends m w s on answer stops in
        let n : length (whole m w).bytes ≡ bytes_before s =
        ap length e.1 ∙ length-take-le (bytes_before s) (whole m w).bytes on.reaches in
        rw (uncut_whole m w s on (length b) (omega (arith, held.same_length))) (
          e.0,
          sym (take-append-drop (bytes_before s) o)
              ∙ ap (λ (l : List ℕ). l ++ drop (bytes_before s) o) (held.before ∙ sym e.1)
              ∙ ap (λ (l : List ℕ). (whole m w).bytes ++ l) (rw (zero-add (length (whole m w).bytes), ← n) held.beyond),
        )

    -- a step that ends is the uncut decode's end, with its output
    pub ends_as_uncut :
        (answer : Answer) → step s m (length o) ≡ end answer
        → (answer ≡ (decoding m w (length b)).answer) × (o ≡ written_over (decoding m w (length b)).bytes b)
    ends_as_uncut answer e = go (step s m (length o)) (kind m s (length o)) e
      where
        go :
            (v : Step) → Kind m s (length o) v → v ≡ end answer
            → (answer ≡ (decoding m w (length b)).answer) × (o ≡ written_over (decoding m w (length b)).bytes b)
        go v (Kind.not_well bad) is = absurd (rw bad at on.well)
        go v (Kind.no_room lacks) is =
            let few : length b < needed s = omega (arith, held.same_length) in
            let same : refused (OutputBufferTooSmall (length o) (needed s)) ≡ answer = cc in
            rw (uncut_short m w s on (length b) few)
            (sym same ∙ ap (λ (n : ℕ). refused (OutputBufferTooSmall n (needed s))) held.same_length, held.short few)
        go v (Kind.at_end a fits stops) is =
            let same : a ≡ answer = cc in
            rw (← same) (ends_there a fits stops)
        go v (Kind.by_chunk k fits sound missing moves) is = absurd (end_is_not_more (sym is))

    -- a step that goes on leads along it, and another worker's bytes stay right
    module _ (k : Chunk) (fits : needed s ≤ length o) (sound : Sound (drop s.place.at m) k)
        (missing : s.place.pixel < pixel_count s.header)
        (moves : move_from m s ≡ Move.more (next_state s k).place (bytes_by s k)) where
      -- the chunk's bytes lie within the output
      room : bytes_before s + length (bytes_by s k) ≤ length o
      room =
          omega
          (arith, reached m w s on k sound missing moves, mul-le-mul_right s.wanted (stays_within decoder s.header s.wanted s.place k (within m w s on)))

      -- up to the next pixel stand the whole reading's bytes
      before_next :
          take (bytes_before s + length (bytes_by s k)) (stepped_over s (bytes_by s k) o)
          ≡ take (bytes_before s + length (bytes_by s k)) (whole m w).bytes
      before_next =
          take_pasted o (bytes_before s) (bytes_by s k) room
          ∙ ap (λ (l : List ℕ). l ++ bytes_by s k) held.before
          ∙ sym (written_on m w s on k sound missing moves)

      -- what any worker has written stays right
      before_any :
          (n : ℕ) → take n o ≡ take n (whole m w).bytes → take n (stepped_over s (bytes_by s k) o) ≡ take n (whole m w).bytes
      before_any n old =
          overlay (bytes_before s + length (bytes_by s k)) n o (stepped_over s (bytes_by s k) o) (whole m w).bytes room
          (reaches_on m w s on k sound missing moves) before_next (drop_pasted o (bytes_before s) (bytes_by s k) room) old

      -- the output in the hands of any worker of the same picture
      held_by :
          (t : State) → needed t ≡ needed s
          → take (bytes_before t) (stepped_over s (bytes_by s k) o) ≡ take (bytes_before t) (whole m w).bytes
          → Held b (stepped_over s (bytes_by s k) o) t
      held_by t same before =
          record {
            same_length = length_pasted o (bytes_before s) (bytes_by s k) room ∙ held.same_length;
            before = before;
            beyond =
                beyond_pasted o (bytes_before s) (bytes_by s k) room (length (whole m w).bytes) (reaches_on m w s on k sound missing moves)
                ∙ held.beyond;
            short = λ few. absurd (omega (arith, held.same_length, same));
          }

      goes_there : Onward b o s (next_state s k) (stepped_over s (bytes_by s k) o)
      goes_there =
          record {
            on_course = goes_on_course m w s on k sound missing moves;
            under = refl;
            holds = held_by (next_state s k) refl (rw (reached m w s on k sound missing moves) before_next);
            further = advances decoder s.header s.wanted s.place k sound.once missing;
            fewer = omega (arith, advances decoder s.header s.wanted s.place k sound.once missing, adds_up s on.well);
            roomy = omega (arith, held.same_length);
            others = λ t on' held'. held_by t (same_needed m w t s on' on) (before_any (bytes_before t) held'.before);
          }

    -- a step that goes on leads along it
    went_along : (s' : State) (bytes : List ℕ) → WentOn m s (length o) s' bytes → Onward b o s s' (stepped_over s bytes o)
    went_along s' bytes c =
        rw (← c.next, ← c.written) (goes_there c.done c.fits c.sound c.missing c.moves)

    pub goes_as_uncut : (s' : State) (bytes : List ℕ) → step s m (length o) ≡ more s' bytes → Onward b o s s' (stepped_over s bytes o)
    goes_as_uncut s' bytes e = went_along s' bytes (went_on m s (length o) s' bytes e)
