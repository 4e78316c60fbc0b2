-- Laws of steps, of every state: what kinds of step there are, that a chunk leads from a well-formed state to one,
-- and when steps are enough.
-- Assumes nothing.
use mathlib.Core.Path.{◌≡◌, refl}
use mathlib.Core.Bool.{Bool, true, false, cond, not, ◌||◌}
use mathlib.Core.List.{List}
use Prim.{tt}
use Prim.Native.Nat.{ℕ, zero, suc, ◌+◌, ◌≤◌, ◌<◌}
use native.Mathlib.Nat.{suc-add}
use native.Mathlib.Omega.{arith}
use borrow.Author.Tests.{ltb-true, ltb-false}
use lib.Dec.{T, ltb, eqb, le→leb, leb→le}
use lib.ListN.{length, drop}
use Rattle.pixel.specs.declared.Pixel.{Pixel}
use Rattle.pixel.specs.declared.error.Error.TheVariants.{OutputBufferTooSmall}
use Rattle.pixel.specs.Refusal.{bad_state}
use Rattle.pixel.specs.Colour.{alpha, with_alpha}
use Rattle.header.specs.Header.{pixel_count}
use Rattle.rules.specs.Chunk.{Chunk, colour_of}
use Rattle.rules.specs.Reading.{Answer, refused, Move, size_wanted, pixel_after, place_after, bytes_of, move}
use Rattle.rules.specs.Decode.{decoder, decoder_keeps}
use Rattle.rules.specs.Step.{State, well_formed, Step, more, end, moved_to, step_by, step, stepped_over, run_on, running}
use Rattle.rules.proofs.ChunkLaws.{Sound}
use Rattle.rules.proofs.ReadingLaws.{Moved, moved, advances, stays_within}
use Rattle.rules.proofs.RecordLaws.{formed, forms, adds_up, left_adds}

-- the state after a chunk
abbrev pub next_state : State → Chunk → State
next_state s k = moved_to s (place_after decoder s.header s.wanted s.place k)

-- the bytes that it writes
abbrev pub bytes_by : State → Chunk → List ℕ
bytes_by s k = bytes_of decoder s.header s.wanted s.place k

-- the decoder's move from a state
abbrev pub move_from : List ℕ → State → Move
move_from m s = move decoder s.header s.wanted m s.place

-- the bytes of the whole picture
abbrev pub needed : State → ℕ
needed s = size_wanted s.header s.wanted

-- the kinds of step: 9, 7, the move's end, and a chunk
pub data Kind (m : List ℕ) (s : State) (room : ℕ) : Step → Type 0 where
  not_well : well_formed s ≡ false → Kind m s room (end (refused bad_state))
  no_room : room < needed s → Kind m s room (end (refused (OutputBufferTooSmall room (needed s))))
  at_end : (answer : Answer) → needed s ≤ room → move_from m s ≡ Move.end answer → Kind m s room (end answer)
  by_chunk :
      (k : Chunk) → needed s ≤ room → Sound (drop s.place.at m) k → s.place.pixel < pixel_count s.header
      → move_from m s ≡ Move.more (next_state s k).place (bytes_by s k) → Kind m s room (more (next_state s k) (bytes_by s k))

module _ (m : List ℕ) (s : State) (room : ℕ) where
  -- where there is room, a move is a step of one of two kinds
  kind_moved :
      (v : Move) → Moved decoder s.header s.wanted m s.place v → needed s ≤ room → move_from m s ≡ v
      → Kind m s room (step_by s v)
  unfolding step_by
  kind_moved v (Moved.at_end answer) fits is = at_end answer fits is
  kind_moved v (Moved.by_chunk k sound missing) fits is = by_chunk k fits sound missing is

  -- every step is of one kind
  pub kind : Kind m s room (step s m room)
  unfolding step
  kind = formed (well_formed s) refl
    where
      roomy :
          (b : Bool) → ltb room (needed s) ≡ b
          → Kind m s room (cond b (end (refused (OutputBufferTooSmall room (needed s)))) (step_by s (move_from m s)))
      roomy true e = no_room (ltb-true _ _ e)
      roomy false e = kind_moved (move_from m s) (moved decoder s.header s.wanted m s.place) (ltb-false _ _ e) refl

      formed :
          (b : Bool) → well_formed s ≡ b
          → Kind m s room
          (cond b
          (cond (ltb room (needed s)) (end (refused (OutputBufferTooSmall room (needed s)))) (step_by s (move_from m s)))
          (end (refused bad_state)))
      formed true e = roomy (ltb room (needed s)) refl
      formed false e = not_well e

-- with wanted 3 the fourth byte of what is kept is 255
kept_opaque : (wanted : ℕ) (p : Pixel) → T (not (eqb wanted 3) || eqb (alpha (decoder_keeps wanted p)) 255)
unfolding decoder_keeps
kept_opaque wanted p = go (eqb wanted 3)
  where
    go : (b : Bool) → T (not b || eqb (alpha (cond b (with_alpha p 255) p)) 255)
    go true = tt
    go false = tt

-- a chunk leads from a well-formed state to one
pub well_next : (s : State) (k : Chunk) → T (well_formed s) → T (well_formed (next_state s k))
unfolding place_after pixel_after
well_next s k well =
    let f = formed s well in
    let within =
    stays_within decoder s.header s.wanted s.place k (leb→le s.place.pixel (pixel_count s.header) f.pixel_passes_lem) in
    forms (next_state s k)
    (record {
      header_passes_lem = f.header_passes_lem;
      wanted_passes_lem = f.wanted_passes_lem;
      at_passes_lem = le→leb 14 (next_state s k).place.at (omega (arith, leb→le 14 s.place.at f.at_passes_lem));
      pixel_passes_lem = le→leb (next_state s k).place.pixel (pixel_count s.header) within;
      left_passes_lem = left_adds (next_state s k) (omega (arith, adds_up s well));
      alpha_passes_lem = kept_opaque s.wanted (colour_of s.place.slots s.place.current k);
    })

-- a step more than the pixels left is enough: more steps end the same way
pub run_enough :
    (m : List ℕ) (n j : ℕ) (s : State) (o : List ℕ) → pixel_count s.header ≤ s.place.pixel + n
    → running m (suc (n + j)) s o ≡ running m (suc n) s o
unfolding running
run_enough m zero j s o enough = go (step s m (length o)) (kind m s (length o))
  where
    go : (v : Step) → Kind m s (length o) v → run_on (running m (zero + j)) s o v ≡ run_on (running m zero) s o v
    go v (not_well bad) = refl
    go v (no_room short) = refl
    go v (at_end answer fits is) = refl
    go v (by_chunk k fits sound missing moves) = absurd (omega arith)
run_enough m (suc n) j s o enough = go (run_enough m n j) (step s m (length o)) (kind m s (length o))
  where
    go :
        ((s' : State) (o' : List ℕ) → pixel_count s'.header ≤ s'.place.pixel + n → running m (suc (n + j)) s' o' ≡ running m (suc n) s' o')
        → (v : Step) → Kind m s (length o) v → run_on (running m (suc n + j)) s o v ≡ run_on (running m (suc n)) s o v
    go ih v (not_well bad) = refl
    go ih v (no_room short) = refl
    go ih v (at_end answer fits is) = refl
    go ih v (by_chunk k fits sound missing moves) =
        rw suc-add
        (ih (next_state s k) (stepped_over s (bytes_by s k) o) (omega (arith, advances decoder s.header s.wanted s.place k sound.once missing)))
