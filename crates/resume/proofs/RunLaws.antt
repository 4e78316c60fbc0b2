-- Laws of a run: it is the walk over its chunks and then, where steps are left, the marker test; the walk may be
-- handed a part of the output.
-- Assumes nothing.
use mathlib.Core.Path.{◌≡◌, refl, sym, ◌∙◌, ap, subst}
use mathlib.Core.Bool.{Bool, true, false, cond}
use mathlib.Core.List.{List, [], ◌++◌, append_assoc, append-nil}
use Prim.Native.Nat.{ℕ, zero, suc, ◌+◌, ◌-◌, ◌*◌, ◌≤◌, ◌<◌, min}
use native.Mathlib.Nat.{sub-zero, add-mul, add_assoc, mul-le-mul, mul-le-mul_right, le_of_lt}
use native.Mathlib.Omega.{arith}
use borrow.Author.Tests.{ltb-true, ltb-false, lt-ltb, le-ltb, leb-true, leb-false, le-leb, eq-eqb}
use borrow.Rule.Slice.PartMut.{put_mid, Post-is}
use lib.Dec.{T, ltb, leb, leb→le}
use lib.ListN.{length, take, drop, length-drop, take-append-drop, drop_of_length-le}
use lib.Seq.{drop-length, length-take-le, take-append-add, drop-append-add}
use Rattle.pixel.specs.declared.error.Error.TheVariants.{OutputBufferTooSmall}
use Rattle.pixel.specs.Refusal.{ended_early, bad_state}
use Rattle.pixel.specs.declared.types.Channels.{Channels}
use Rattle.pixel.specs.Types.{channels_number}
use Rattle.header.specs.declared.Header.{Header}
use Rattle.header.specs.Header.{pixel_count, dimensions_fit, saturated}
use Rattle.header.proofs.Laws.{is_true, pixels_small}
use Rattle.rules.specs.Chunk.{Chunk, Found, cut, chunk, chunk_at}
use Rattle.rules.specs.Bytes.{pasted}
use Rattle.rules.specs.Reading.{Place, Answer, done, refused, Move, closing, size_wanted, move, move_by, place_after, bytes_of}
use Rattle.rules.specs.Decode.{decoder, decoder_reads_rgba}
use Rattle.rules.specs.Step.{State, well_formed, Step, more, end, step_by, step, stepped_over, Ran, going, ended, run_on, running}
use Rattle.rules.proofs.ChunkLaws.{no_row, Sound, sound_of, sound_found}
use Rattle.rules.proofs.PastingLaws.{length_pasted}
use Rattle.rules.proofs.PlaceLaws.{Shaped, shaped_next, pixel_reached, stays_inside}
use Rattle.rules.proofs.ReadingLaws.{Moved, moved, moved_last, advances, stays_within}
use Rattle.rules.proofs.RecordLaws.{formed, adds_up, wanted_few}
use Rattle.rules.proofs.StepLaws.{next_state, bytes_by, needed, well_next, run_enough}
use Rattle.std.specs.Prelude.{Result, Ok, Err}
use Rattle.resume.specs.Asked.{Ready, size_for, walk_answer}
use Rattle.pixel.specs.declared.error.Error.{Error}
use Rattle.resume.specs.declared.Progress.{Progress}
use Rattle.resume.specs.Run.{ran_by, end_answer}
use Rattle.walk.specs.Walking.{Walk, walking, standing, walk_on, fits, walking_into}

-- a state of a message's picture at a place, with `left` pixels left
abbrev pub state_left : Header → ℕ → ℕ → Place → ℕ → State
state_left header number wanted place left =
    record { header = header; wanted = wanted; place = place; left = left; number = number }

-- with as many as the picture has from there on
abbrev pub state_at : Header → ℕ → ℕ → Place → State
state_at header number wanted place = state_left header number wanted place (pixel_count header - place.pixel)

-- which is what a well-formed state is
at_place : (s : State) → T (well_formed s) → s ≡ state_at s.header s.number s.wanted s.place
at_place s well = ap (state_left s.header s.number s.wanted s.place) (omega (arith, adds_up s well))

-- with no step left there is more to do; else the marker test was one
unfoldable pub stood : Header → ℕ → List ℕ → ℕ → State → List ℕ → Ran
stood header wanted m zero s out = going s out
stood header wanted m (suc n) s out = ended (closing (size_wanted header wanted) m s.place.at) s out

-- the run that a walk is
abbrev pub ran_walk : Header → ℕ → ℕ → List ℕ → Walk → Ran
ran_walk header number wanted m w =
    cond w.cut (ended (refused ended_early) (state_at header number wanted w.place) w.out)
    (stood header wanted m w.spare (state_at header number wanted w.place) w.out)

-- a well-formed state's pixel is not past the picture
pub well_within : (s : State) → T (well_formed s) → s.place.pixel ≤ pixel_count s.header
well_within s well = leb→le s.place.pixel (pixel_count s.header) (formed s well).pixel_passes_lem

-- where steps are left, the marker test was one
pub stood_end :
    (header : Header) (wanted : ℕ) (m : List ℕ) (n : ℕ) (s : State) (out : List ℕ) → (n ≡ 0 → ⊥)
    → stood header wanted m n s out ≡ ended (closing (size_wanted header wanted) m s.place.at) s out
unfolding stood
stood_end header wanted m zero s out some = absurd (some refl)
stood_end header wanted m (suc n) s out some = refl

-- an end as an answer is that end
pub end_ran : (a : Answer) (s : State) (out : List ℕ) → ran_by (end_answer a) s out ≡ ended a s out
end_ran (done size used) s out = refl
end_ran (refused e) s out = refl

-- the part of an output from a place on, back in its place
pub put_rest : (out part : List ℕ) (at : ℕ) → at ≤ length out → put_mid at (length out - at) out part ≡ take at out ++ part
put_rest out part at within =
    ap (λ (l : List ℕ). take at out ++ (part ++ l)) (Post-is at (length out) out within ∙ drop-length out) ∙ ap (λ (l : List ℕ). take at out ++ l) (append-nil part)

-- with no byte left a move is refusal 1
past_move :
    (header : Header) (wanted : ℕ) (m : List ℕ) (place : Place) → drop place.at m ≡ []
    → move decoder header wanted m place ≡ Move.end (refused ended_early)
unfolding move move_by closing
past_move header wanted m place nothing = rw (nothing, no_row _ [] refl) (go (ltb place.pixel (pixel_count header)))
  where
    go : (b : Bool) → cond b (Move.end (refused ended_early)) (Move.end (refused ended_early)) ≡ Move.end (refused ended_early)
    go true = refl
    go false = refl

module _ (m : List ℕ) where
  -- a state that a run may go on from
  pub record Sets (s : State) (out : List ℕ) : Type 0 where
    pub well : T (well_formed s)
    pub room : needed s ≤ length out
    pub shaped : Shaped s.place.slots s.place.current

  module _ (s : State) (out : List ℕ) (sets : Sets s out) where
    -- such a step is the decoder's move
    steps_by : step s m (length out) ≡ step_by s (move decoder s.header s.wanted m s.place)
    unfolding step
    steps_by = rw (is_true (well_formed s) sets.well, le-ltb (length out) (needed s) sets.room)

    walks_none :
        (n : ℕ) → pixel_count s.header ≤ s.place.pixel
        → running m (suc n) s out ≡ ran_walk s.header s.number s.wanted m (walking s.header s.wanted m 0 (suc n) s.place out)
    unfolding running walking stood step_by
    walks_none n none =
        rw (steps_by, moved_last decoder s.header s.wanted m s.place none, le-ltb s.place.pixel (pixel_count s.header) none)
        (ap (λ (t : State). ended (closing (needed s) m s.place.at) t out) (at_place s sets.well))

    module _ (missing : s.place.pixel < pixel_count s.header) where
      walks_cut :
          (n : ℕ) → chunk_at (decoder_reads_rgba (channels_number s.header.channels)) (drop s.place.at m) ≡ cut
          → running m (suc n) s out ≡ ran_walk s.header s.number s.wanted m (walking s.header s.wanted m 0 (suc n) s.place out)
      unfolding running walking step_by move move_by
      walks_cut n found =
          rw (steps_by, lt-ltb s.place.pixel (pixel_count s.header) missing, found)
          (ap (λ (t : State). ended (refused ended_early) t out) (at_place s sets.well))

      module _ (k : Chunk) (found : chunk_at (decoder_reads_rgba (channels_number s.header.channels)) (drop s.place.at m) ≡ chunk k) where
        sound : Sound (drop s.place.at m) k
        sound = sound_of (rw found at (sound_found (decoder_reads_rgba (channels_number s.header.channels)) (drop s.place.at m)))

        moves : move decoder s.header s.wanted m s.place ≡ Move.more (next_state s k).place (bytes_by s k)
        unfolding move move_by
        moves = rw (lt-ltb s.place.pixel (pixel_count s.header) missing, found)

        written_length : length (stepped_over s (bytes_by s k) out) ≡ length out
        written_length =
            let reached = pixel_reached s.header s.wanted s.place k sets.shaped sound (wanted_few s sets.well) in
            let within = stays_within decoder s.header s.wanted s.place k (well_within s sets.well) in
            length_pasted out (s.place.pixel * s.wanted) (bytes_by s k) (omega (arith, reached, sets.room, mul-le-mul_right s.wanted within))

        sets_next : Sets (next_state s k) (stepped_over s (bytes_by s k) out)
        sets_next =
            record {
              well = well_next s k sets.well;
              room = rw written_length sets.room;
              shaped = shaped_next s.header s.wanted s.place k sets.shaped sound;
            }

        walks_chunk :
            (n : ℕ)
            → running m n (next_state s k) (stepped_over s (bytes_by s k) out)
            ≡ ran_walk s.header s.number s.wanted m (walking s.header s.wanted m 0 n (next_state s k).place (stepped_over s (bytes_by s k) out))
            → running m (suc n) s out ≡ ran_walk s.header s.number s.wanted m (walking s.header s.wanted m 0 (suc n) s.place out)
        unfolding running walking step_by
        walks_chunk n rest =
            rw (steps_by, moves, lt-ltb s.place.pixel (pixel_count s.header) missing)
            (rest
            ∙ ap (λ (p : ℕ). ran_walk s.header s.number s.wanted m (walking s.header s.wanted m 0 n (next_state s k).place (pasted (p * s.wanted) (bytes_by s k) out)))
            (sym (sub-zero s.place.pixel)))

  -- a run is the walk over the whole output
  pub run_walks :
      (n : ℕ) (s : State) (out : List ℕ) → Sets s out
      → running m n s out ≡ ran_walk s.header s.number s.wanted m (walking s.header s.wanted m 0 n s.place out)
  unfolding running walking stood
  run_walks zero s out sets = ap (λ (t : State). going t out) (at_place s sets.well)
  run_walks (suc n) s out sets = go (run_walks n) (ltb s.place.pixel (pixel_count s.header)) refl
    where
      Shorter : Type 0
      Shorter =
          (s' : State) (out' : List ℕ) → Sets s' out'
          → running m n s' out' ≡ ran_walk s'.header s'.number s'.wanted m (walking s'.header s'.wanted m 0 n s'.place out')

      Goal : Type 0
      Goal = running m (suc n) s out ≡ ran_walk s.header s.number s.wanted m (walking s.header s.wanted m 0 (suc n) s.place out)

      there : Found
      there = chunk_at (decoder_reads_rgba (channels_number s.header.channels)) (drop s.place.at m)

      on : Shorter → (f : Found) → there ≡ f → s.place.pixel < pixel_count s.header → Goal
      on shorter cut e missing = walks_cut s out sets missing n e
      on shorter (chunk k) e missing =
          walks_chunk s out sets missing k e n (shorter (next_state s k) (stepped_over s (bytes_by s k) out) (sets_next s out sets missing k e))

      go : Shorter → (b : Bool) → ltb s.place.pixel (pixel_count s.header) ≡ b → Goal
      go shorter true e = on shorter there refl (ltb-true _ _ e)
      go shorter false e = walks_none s out sets n (ltb-false _ _ e)

-- more of an output, before what a walk was handed
abbrev pub beneath : List ℕ → Walk → Walk
beneath before w = record { cut = w.cut; spare = w.spare; place = w.place; out = before ++ w.out }

-- bytes put beyond the first ones
pasted_beneath :
    (before part bytes : List ℕ) (at : ℕ) → pasted (length before + at) bytes (before ++ part) ≡ before ++ pasted at bytes part
pasted_beneath before part bytes at =
    rw (take-append-add before part at, add_assoc (length before) at (length bytes), drop-append-add before part (at + length bytes)) (append_assoc before (take at part) (bytes ++ drop (at + length bytes) part))

module _ (header : Header) (wanted : ℕ) (m : List ℕ) (from : ℕ) (before : List ℕ) (long : length before ≡ from * wanted) where
  -- a walk into the part of an output from a pixel on leaves the whole as the walk into it
  pub walk_beneath :
      (n : ℕ) (place : Place) (part : List ℕ) → from ≤ place.pixel
      → walking header wanted m 0 n place (before ++ part) ≡ beneath before (walking header wanted m from n place part)
  unfolding walking
  walk_beneath zero place part begun = refl
  walk_beneath (suc n) place part begun = go (walk_beneath n) (ltb place.pixel (pixel_count header))
    where
      Shorter : Type 0
      Shorter =
          (place' : Place) (part' : List ℕ) → from ≤ place'.pixel
          → walking header wanted m 0 n place' (before ++ part') ≡ beneath before (walking header wanted m from n place' part')

      shifted : (bytes : List ℕ) → pasted ((place.pixel - 0) * wanted) bytes (before ++ part) ≡ before ++ pasted ((place.pixel - from) * wanted) bytes part
      shifted bytes =
          let split : (place.pixel - 0) * wanted ≡ length before + (place.pixel - from) * wanted =
          ap (λ (p : ℕ). p * wanted) (omega arith) ∙ add-mul from (place.pixel - from) wanted ∙ ap (λ (l : ℕ). l + (place.pixel - from) * wanted) (sym long) in
          ap (λ (p : ℕ). pasted p bytes (before ++ part)) split ∙ pasted_beneath before part bytes ((place.pixel - from) * wanted)

      by :
          Shorter → (v : Move) → Moved decoder header wanted m place v
          → walk_on header wanted m 0 (walking header wanted m 0 n) (suc n) place (before ++ part) v
          ≡ beneath before (walk_on header wanted m from (walking header wanted m from n) (suc n) place part v)
      by shorter v (Moved.at_end answer) = refl
      by shorter v (Moved.by_chunk k sound missing) =
          ap (walking header wanted m 0 n (place_after decoder header wanted place k)) (shifted (bytes_of decoder header wanted place k))
          ∙ shorter (place_after decoder header wanted place k) (pasted ((place.pixel - from) * wanted) (bytes_of decoder header wanted place k) part)
          (omega (arith, advances decoder header wanted place k sound.once missing))

      go :
          Shorter → (b : Bool)
          → cond b (walk_on header wanted m 0 (walking header wanted m 0 n) (suc n) place (before ++ part) (move decoder header wanted m place)) (standing (suc n) place (before ++ part))
          ≡ beneath before (cond b (walk_on header wanted m from (walking header wanted m from n) (suc n) place part (move decoder header wanted m place)) (standing (suc n) place part))
      go shorter true = by shorter (move decoder header wanted m place) (moved decoder header wanted m place)
      go shorter false = refl

-- steps beyond the pixels left plus one change nothing
pub run_capped :
    (m : List ℕ) (steps : ℕ) (s : State) (out : List ℕ) → T (well_formed s)
    → running m steps s out ≡ running m (min steps (s.left + 1)) s out
run_capped m steps s out well = go (leb steps (s.left + 1)) refl
  where
    go : (b : Bool) → leb steps (s.left + 1) ≡ b → running m steps s out ≡ running m (min steps (s.left + 1)) s out
    go true e = let few = leb-true steps (s.left + 1) e in ap (λ (n : ℕ). running m n s out) (omega (arith, few))
    go false e =
        let many = leb-false steps (s.left + 1) e in
        let count : steps ≡ suc (s.left + (steps - (s.left + 1))) = omega (arith, many) in
        let least : min steps (s.left + 1) ≡ suc s.left = omega (arith, many) in
        ap (λ (n : ℕ). running m n s out) count
        ∙ run_enough m s.left (steps - (s.left + 1)) s out (omega (arith, adds_up s well))
        ∙ ap (λ (n : ℕ). running m n s out) (sym least)

-- a place within the message and the picture
abbrev pub Lies : Header → List ℕ → Place → Type 0
Lies header m place = (place.at ≤ length m) × (place.pixel ≤ pixel_count header)

-- a walk stays within both
walk_lies :
    (header : Header) (wanted : ℕ) (m : List ℕ) (from n : ℕ) (place : Place) (part : List ℕ) → Lies header m place
    → Lies header m (walking header wanted m from n place part).place
unfolding walking
walk_lies header wanted m from zero place part lies = lies
walk_lies header wanted m from (suc n) place part lies =
    go (walk_lies header wanted m from n) (ltb place.pixel (pixel_count header)) (move decoder header wanted m place) (moved decoder header wanted m place)
  where
    go :
        ((place' : Place) (part' : List ℕ) → Lies header m place' → Lies header m (walking header wanted m from n place' part').place)
        → (b : Bool) (v : Move) → Moved decoder header wanted m place v
        → Lies header m (cond b (walk_on header wanted m from (walking header wanted m from n) (suc n) place part v) (standing (suc n) place part)).place
    go shorter false v is = lies
    go shorter true v (Moved.at_end answer) = lies
    go shorter true v (Moved.by_chunk k sound missing) =
        shorter (place_after decoder header wanted place k) (pasted ((place.pixel - from) * wanted) (bytes_of decoder header wanted place k) part)
        (stays_inside header wanted m place k lies.0 sound, stays_within decoder header wanted place k lies.1)

-- a state that a run goes on from, with as many steps as it can use
module _ (m : List ℕ) (s : State) (out : List ℕ) (steps : ℕ) (sets : Sets m s out) (inside : s.place.at ≤ length m)
    (w : Channels) (wants : channels_number w ≡ s.wanted) (n : ℕ) (few : n ≡ min steps (s.left + 1))
    (part : List ℕ) (rest : part ≡ drop (s.place.pixel * s.wanted) out)
    (walk : Walk) (walked : walk ≡ walking_into s.header (channels_number w) m s.left n s.place part) where
  abbrev before : List ℕ
  before = take (s.place.pixel * s.wanted) out

  within : s.place.pixel ≤ pixel_count s.header
  within = well_within s sets.well

  upto : s.place.pixel * s.wanted ≤ length out
  upto = omega (arith, mul-le-mul_right s.wanted within, sets.room)

  -- there is room in the part for the pixels left
  room : s.left * s.wanted ≤ length part
  room =
      let split : pixel_count s.header * s.wanted ≡ s.place.pixel * s.wanted + s.left * s.wanted =
      ap (λ (p : ℕ). p * s.wanted) (sym (adds_up s sets.well)) ∙ add-mul s.place.pixel s.left s.wanted in
      rw (rest, length-drop) (omega (arith, split, sets.room))

  passes : fits s.header (channels_number w) (length m) s.left n s.place.at s.place.pixel (length part) ≡ true
  unfolding fits
  passes =
      rw wants
      (simp (is_true (dimensions_fit s.header.width s.header.height) (formed s sets.well).header_passes_lem, le-leb s.place.at (length m) inside, eq-eqb (s.place.pixel + s.left) (pixel_count s.header) (adds_up s sets.well), le-leb n (s.left + 1) (omega (arith, few)), le-leb (s.left * s.wanted) (length part) room))

  is_walk : walk ≡ walking s.header s.wanted m s.place.pixel n s.place part
  unfolding walking_into
  is_walk = walked ∙ rw (passes, wants)

  -- the run is the walk into the part, below what stands before it
  pub run_through : running m steps s out ≡ ran_walk s.header s.number s.wanted m (beneath before walk)
  run_through =
      run_capped m steps s out sets.well
      ∙ ap (λ (k : ℕ). running m k s out) (sym few)
      ∙ run_walks m n s out sets
      ∙ ap (λ (o : List ℕ). ran_walk s.header s.number s.wanted m (walking s.header s.wanted m 0 n s.place o))
      (sym (take-append-drop (s.place.pixel * s.wanted) out) ∙ ap (λ (p : List ℕ). before ++ p) (sym rest))
      ∙ ap (ran_walk s.header s.number s.wanted m)
      (walk_beneath s.header s.wanted m s.place.pixel before (length-take-le (s.place.pixel * s.wanted) out upto) n s.place part (omega arith)
      ∙ ap (beneath before) (sym is_walk))

  pub through_lies : Lies s.header m walk.place
  through_lies = rw is_walk (walk_lies s.header s.wanted m s.place.pixel n s.place part (inside, within))

-- one step is a step
pub run_one : (m : List ℕ) (s : State) (out : List ℕ) → running m 1 s out ≡ run_on going s out (step s m (length out))
unfolding running
run_one m s out = go (step s m (length out))
  where
    go : (v : Step) → run_on (running m 0) s out v ≡ run_on going s out v
    go (more s' bytes) = refl
    go (end answer) = refl

-- the size of a well-formed state's picture is not too large
pub exactly : (s : State) → well_formed s ≡ true → saturated (needed s) ≡ needed s
exactly s passed =
    let well : T (well_formed s) = subst T (sym passed) tt in
    let few : pixel_count s.header * s.wanted ≤ 400000000 * 4 =
    mul-le-mul (pixels_small s.header (formed s well).header_passes_lem) (wanted_few s well) in
    omega arith

-- what a state, an output or a message is refused for, before the chunks, is what a run is refused for
pub run_unfit :
    (m : List ℕ) (n : ℕ) (s : State) (out : List ℕ) (e : Error) → (n ≡ 0 → ⊥) → size_for s (length m) (length out) ≡ Err e
    → ended (refused e) s out ≡ running m n s out
unfolding running step step_by
run_unfit m zero s out e some is = absurd (some refl)
run_unfit m (suc n) s out e some is =
    go (well_formed s) refl (ltb (length out) (needed s)) refl (ltb (length m) s.place.at) refl
  where
    Goal : Type 0
    Goal = ended (refused e) s out ≡ run_on (running m n) s out (step s m (length out))

    go : (well : Bool) → well_formed s ≡ well → (short : Bool) → ltb (length out) (needed s) ≡ short
        → (past : Bool) → ltb (length m) s.place.at ≡ past → Goal
    go false w short sh past p = let at : Err bad_state ≡ Err e = rw w at is in rw w cc
    go true w true sh past p = let at : Err (OutputBufferTooSmall (length out) (needed s)) ≡ Err e = rw (w, sh) at is in rw (w, sh) cc
    go true w false sh true p =
        let at : Err ended_early ≡ Err e = rw (w, sh, p) at is in
        let nothing : drop s.place.at m ≡ [] = drop_of_length-le m (le_of_lt (ltb-true _ _ p)) in
        rw (w, sh, past_move s.header s.wanted m s.place nothing) cc
    go true w false sh false p = let at : Ok (needed s) ≡ Err e = rw (w, sh, p) at is in cc

-- and where it is not refused, the run may go on
pub run_ready :
    (m : List ℕ) (s : State) (out : List ℕ) (size : ℕ) → size_for s (length m) (length out) ≡ Ok size → Ready s m out size
run_ready m s out size is = go (well_formed s) refl (ltb (length out) (needed s)) refl (ltb (length m) s.place.at) refl
  where
    go : (well : Bool) → well_formed s ≡ well → (short : Bool) → ltb (length out) (needed s) ≡ short
        → (past : Bool) → ltb (length m) s.place.at ≡ past → Ready s m out size
    go false w short sh past p = let at : Err bad_state ≡ Ok size = rw w at is in cc
    go true w true sh past p = let at : Err (OutputBufferTooSmall (length out) (needed s)) ≡ Ok size = rw (w, sh) at is in cc
    go true w false sh true p = let at : Err ended_early ≡ Ok size = rw (w, sh, p) at is in cc
    go true w false sh false p =
        let at : Ok (needed s) ≡ Ok size = rw (w, sh, p) at is in
        let same : size ≡ needed s = cc in
        record {
          well = subst T (sym w) tt;
          counted = same;
          room = rw same (ltb-false _ _ sh);
          inside = ltb-false _ _ p;
        }

-- what a run answers, by what its walk into the part of the output from a place on answers
module _ (header : Header) (number wanted : ℕ) (m out : List ℕ) (from : ℕ) (w : Walk) (r : Ran)
    (ran : r ≡ ran_walk header number wanted m (beneath (take from out) w)) (fits : from ≤ length out)
    (left : ℕ) (is-left : left ≡ pixel_count header - w.place.pixel) where
  abbrev left_out : List ℕ
  left_out = put_mid from (length out - from) out w.out

  back : left_out ≡ take from out ++ w.out
  back = put_rest out w.out from fits

  -- a chunk is cut short, no step is left, or the marker test is due
  pub answers :
      (size : ℕ) → size ≡ size_wanted header wanted
      → ran_by (walk_answer w.cut w.spare (closing size m w.place.at)) (state_left header number wanted w.place left) left_out ≡ r
  unfolding stood
  answers size counted = rw (back, is-left, counted) (go w.cut w.spare ∙ sym ran)
    where
      s : State
      s = state_at header number wanted w.place

      whole : List ℕ
      whole = take from out ++ w.out

      go :
          (cut : Bool) (spare : ℕ)
          → ran_by (walk_answer cut spare (closing (size_wanted header wanted) m w.place.at)) s whole
          ≡ cond cut (ended (refused ended_early) s whole) (stood header wanted m spare s whole)
      go true spare = refl
      go false zero = refl
      go false (suc n) = end_ran (closing (size_wanted header wanted) m w.place.at) s whole

  -- a chunk is cut short
  pub answers_cut : w.cut ≡ true → ended (refused ended_early) (state_left header number wanted w.place left) left_out ≡ r
  answers_cut short = rw (back, is-left) (sym (rw short at ran))

  -- no step is left
  pub answers_more : w.cut ≡ false → w.spare ≡ 0 → going (state_left header number wanted w.place left) left_out ≡ r
  unfolding stood
  answers_more whole none = rw (back, is-left) (sym (rw (whole, none) at ran))

  -- the marker test
  pub answers_end :
      w.cut ≡ false → (w.spare ≡ 0 → ⊥) → (size : ℕ) → size ≡ size_wanted header wanted
      → (a : Result Progress Error) → a ≡ end_answer (closing size m w.place.at) → ran_by a (state_left header number wanted w.place left) left_out ≡ r
  answers_end whole some size counted a is =
      rw (back, is-left, is, counted)
      (end_ran (closing (size_wanted header wanted) m w.place.at) (state_at header number wanted w.place) (take from out ++ w.out)
      ∙ sym (rw whole at ran ∙ stood_end header wanted m w.spare (state_at header number wanted w.place) (take from out ++ w.out) some))
