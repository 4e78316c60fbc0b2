-- A walk over every chunk of a message is its reading: the answer, the bytes in the output, and where the marker test
-- is due.
-- Assumes nothing.
use mathlib.Core.Path.{◌≡◌, refl, sym, ◌∙◌, ap}
use mathlib.Core.Bool.{Bool, true, false, cond}
use mathlib.Core.List.{List}
use Prim.Native.Nat.{ℕ, zero, suc, ◌+◌, ◌-◌, ◌*◌, ◌≤◌, ◌<◌}
use native.Mathlib.Nat.{zero-mul, sub-zero, add-mul, mul-le-mul}
use native.Mathlib.Omega.{arith}
use borrow.Author.Tests.{ltb-true, ltb-false, lt-ltb, le-ltb, le-leb, eq-eqb}
use lib.Dec.{T, ltb}
use lib.ListN.{length, take, drop}
use Rattle.std.specs.Prelude.{Result, Ok, Err}
use Rattle.pixel.specs.declared.error.Error.{Error}
use Rattle.pixel.specs.Refusal.{ended_early}
use Rattle.pixel.specs.declared.types.Channels.{Channels}
use Rattle.pixel.specs.declared.types.Channels.TheVariants.{Rgb, Rgba}
use Rattle.pixel.specs.Types.{channels_number}
use Rattle.header.specs.declared.Header.{Header}
use Rattle.header.specs.Header.{dimensions_fit, header_of, pixel_count}
use Rattle.header.proofs.Laws.{is_true, header_accepted}
use Rattle.rules.specs.Bytes.{pasted, written_over}
use Rattle.rules.specs.Chunk.{Chunk, Found, cut, chunk, chunk_at}
use Rattle.rules.specs.Reading.{Place, Answer, Reading, done, refused, more, end, move, move_by, read_on, silent, after, remaining, closing, size_wanted, reading_into, start_place, place_after, bytes_of}
use Rattle.rules.specs.Decode.{decoder, decoder_reads_rgba}
use Rattle.rules.proofs.ChunkLaws.{Sound, sound_of, sound_found}
use Rattle.rules.proofs.PastingLaws.{length_pasted, pasted_next, pasted_none, whole_tail}
use Rattle.rules.proofs.PlaceLaws.{Shaped, shaped_start, shaped_next, pixel_reached, stays_inside}
use Rattle.rules.proofs.ReadingLaws.{remaining_unfolds, moved_last, stays_within, advances, reading_size}
use Rattle.chunk.specs.Found.{ending_at, closed_by}
use Rattle.chunk.proofs.Ends.{closing_by}
use Rattle.walk.specs.Walking.{End, end_of, fits, walking, walking_into}

-- three channels or four
few_channels : (w : Channels) → channels_number w ≤ 4
few_channels Rgb = omega arith
few_channels Rgba = omega arith

-- the bytes of a picture are few enough to count
pub size_fits :
    (header : Header) → pixel_count header ≤ 400000000 → (w : ℕ) → w ≤ 255 → pixel_count header * w ≤ 102000000000
size_fits header small w few = mul-le-mul small few

module _ (header : Header) (wanted : ℕ) (message : List ℕ) (few : wanted ≤ 4) where
  -- the reading from a place, and the marker test at a byte position
  abbrev left : Place → Reading
  left place = remaining decoder header wanted message place

  abbrev test : ℕ → Answer
  test at = closing (size_wanted header wanted) message at

  -- a walk's end is that of a reading into an output from a place on
  record Ends (w : End) (r : Reading) (from : ℕ) (out : List ℕ) : Type 0 where
    pub inside : w.at ≤ length message
    pub answers : r.answer ≡ cond w.cut (refused ended_early) (test w.at)
    pub writes : w.out ≡ pasted from r.bytes out

  -- a place of this picture, and room for its pixels
  record Ready (place : Place) (out : List ℕ) : Type 0 where
    pub within : place.pixel ≤ pixel_count header
    pub inside : place.at ≤ length message
    pub shaped : Shaped place.slots place.current
    pub room : size_wanted header wanted ≤ length out

  -- n chunks from a place are the reading from there
  abbrev EndsFrom : ℕ → Place → List ℕ → Type 0
  EndsFrom n place out =
      Ends (end_of (walking header wanted message 0 n place out)) (left place) (place.pixel * wanted) out

  -- with no pixel missing the marker test is due
  reads_none :
      (n : ℕ) (place : Place) (out : List ℕ) → Ready place out → pixel_count header ≤ place.pixel
      → EndsFrom n place out
  unfolding walking
  reads_none n place out ready none = rw ends (go n)
    where
      ends : left place ≡ silent (test place.at)
      ends =
          remaining_unfolds decoder header wanted message place
          ∙ ap (read_on left) (moved_last decoder header wanted message place none)

      Tested : End → Type 0
      Tested e = Ends e (silent (test place.at)) (place.pixel * wanted) out

      stays : Tested (record { cut = false; at = place.at; out = out })
      stays = record { inside = ready.inside; answers = refl; writes = sym (pasted_none out (place.pixel * wanted)) }

      go : (n : ℕ) → Tested (end_of (walking header wanted message 0 n place out))
      go zero = stays
      go (suc n) = rw (le-ltb place.pixel (pixel_count header) none) stays

  module _ (place : Place) (out : List ℕ) (ready : Ready place out) (missing : place.pixel < pixel_count header) where
    abbrev reads_rgba : Bool
    reads_rgba = decoder_reads_rgba (channels_number header.channels)

    abbrev there : Found
    there = chunk_at reads_rgba (drop place.at message)

    -- a chunk that is cut short is refusal 1
    reads_cut : (n : ℕ) → there ≡ cut → EndsFrom (suc n) place out
    unfolding walking move move_by
    reads_cut n found =
        let stops : move decoder header wanted message place ≡ end (refused ended_early) =
        rw (lt-ltb place.pixel (pixel_count header) missing, found) in
        let ends : left place ≡ silent (refused ended_early) =
        remaining_unfolds decoder header wanted message place ∙ ap (read_on left) stops in
        rw (ends, lt-ltb place.pixel (pixel_count header) missing, found)
        (record { inside = ready.inside; answers = refl; writes = sym (pasted_none out (place.pixel * wanted)) })

    -- a chunk, and then the reading from where it leads
    module _ (k : Chunk) (found : there ≡ chunk k) where
      sound : Sound (drop place.at message) k
      sound = sound_of (rw found at (sound_found reads_rgba (drop place.at message)))

      abbrev next : Place
      next = place_after decoder header wanted place k

      abbrev bytes : List ℕ
      bytes = bytes_of decoder header wanted place k

      abbrev written : List ℕ
      written = pasted (place.pixel * wanted) bytes out

      moves : move decoder header wanted message place ≡ more next bytes
      unfolding move move_by
      moves = rw (lt-ltb place.pixel (pixel_count header) missing, found)

      further : place.pixel < next.pixel
      further = advances decoder header wanted place k sound.once missing

      within_next : next.pixel ≤ pixel_count header
      within_next = stays_within decoder header wanted place k ready.within

      reached : next.pixel * wanted ≡ place.pixel * wanted + length bytes
      reached = pixel_reached header wanted place k ready.shaped sound few

      -- the bytes of the pixels before the next one and of those from it on have room
      upto : next.pixel * wanted + (pixel_count header - next.pixel) * wanted ≤ length out
      upto =
          let split : size_wanted header wanted ≡ next.pixel * wanted + (pixel_count header - next.pixel) * wanted =
          ap (λ (p : ℕ). p * wanted) (omega (arith, within_next))
          ∙ add-mul next.pixel (pixel_count header - next.pixel) wanted in
          omega (arith, split, ready.room)

      ready_next : Ready next written
      ready_next =
          record {
            within = within_next;
            inside = stays_inside header wanted message place k ready.inside sound;
            shaped = shaped_next header wanted place k ready.shaped sound;
            room = rw (length_pasted out (place.pixel * wanted) bytes (omega (arith, reached, upto))) ready.room;
          }

      walks_on :
          (n : ℕ)
          → walking header wanted message 0 (suc n) place out ≡ walking header wanted message 0 n next written
      unfolding walking
      walks_on n =
          rw (lt-ltb place.pixel (pixel_count header) missing, moves)
          (ap (λ (p : ℕ). walking header wanted message 0 n next (pasted (p * wanted) bytes out))
          (sub-zero place.pixel))

      reads_more : (n : ℕ) → EndsFrom n next written → EndsFrom (suc n) place out
      reads_more n rest =
          let goes : left place ≡ after bytes (left next) =
          remaining_unfolds decoder header wanted message place ∙ ap (read_on left) moves in
          let size = reading_size decoder header wanted message (pixel_count header - next.pixel) next in
          rw (goes, walks_on n)
          (record {
            inside = rest.inside;
            answers = rest.answers;
            writes =
                rest.writes
                ∙ ap (λ (p : ℕ). pasted p (left next).bytes written) reached
                ∙ pasted_next out (place.pixel * wanted) bytes (left next).bytes (omega (arith, reached, upto, size));
          })

  -- with as many steps as pixels are missing, a walk is the whole reading from its place
  reads_all :
      (n : ℕ) (place : Place) (out : List ℕ) → Ready place out → pixel_count header ≤ place.pixel + n
      → EndsFrom n place out
  reads_all zero place out ready enough = reads_none zero place out ready (omega arith)
  reads_all (suc n) place out ready enough = go (reads_all n) (ltb place.pixel (pixel_count header)) refl
    where
      Shorter : Type 0
      Shorter =
          (place' : Place) (out' : List ℕ) → Ready place' out' → pixel_count header ≤ place'.pixel + n
          → EndsFrom n place' out'

      on :
          Shorter → (missing : place.pixel < pixel_count header) (f : Found) → there place out ready missing ≡ f
          → EndsFrom (suc n) place out
      on shorter missing cut e = reads_cut place out ready missing n e
      on shorter missing (chunk k) e =
          reads_more place out ready missing k e n
          (shorter _ _ (ready_next place out ready missing k e) (omega (arith, further place out ready missing k e)))

      go : Shorter → (b : Bool) → ltb place.pixel (pixel_count header) ≡ b → EndsFrom (suc n) place out
      go shorter true e = let missing = ltb-true _ _ e in on shorter missing (there place out ready missing) refl
      go shorter false e = reads_none (suc n) place out ready (ltb-false _ _ e)

-- every chunk of a message that has a header and whose picture has room
module _ (header : Header) (w : Channels) (message out : List ℕ) (opened : header_of message ≡ Ok header)
    (size : ℕ) (counted : size ≡ size_wanted header (channels_number w)) (enough : size ≤ length out) where
  fit : T (dimensions_fit header.width header.height)
  fit = (header_accepted message header opened).fit

  whole_header : 14 ≤ length message
  whole_header = (header_accepted message header opened).whole

  room : size_wanted header (channels_number w) ≤ length out
  room = rw counted at enough

  -- the input fits
  passes : fits header (channels_number w) (length message) (pixel_count header) (pixel_count header) 14 0 (length out) ≡ true
  unfolding fits
  passes =
      simp (is_true (dimensions_fit header.width header.height) fit, le-leb 14 (length message) whole_header, eq-eqb (0 + pixel_count header) (pixel_count header) (omega arith), le-leb (pixel_count header) (pixel_count header + 1) (omega arith), le-leb (pixel_count header * channels_number w) (length out) room)

  abbrev end_is : End
  end_is = end_of (walking_into header (channels_number w) message (pixel_count header) (pixel_count header) start_place out)

  abbrev all : Reading
  all = remaining decoder header (channels_number w) message start_place

  ready_start : Ready header (channels_number w) message (few_channels w) start_place out
  unfolding start_place
  ready_start = record { within = omega arith; inside = whole_header; shaped = shaped_start; room = room }

  reads_start : Ends header (channels_number w) message (few_channels w) end_is all 0 out
  unfolding walking_into start_place
  reads_start =
      rw passes
      (rw zero-mul at
      (reads_all header (channels_number w) message (few_channels w) (pixel_count header) start_place out ready_start
      (omega arith)))

  module _ (e : End) (walked : e ≡ end_is) where
    reads : Ends header (channels_number w) message (few_channels w) e all 0 out
    reads = rw walked reads_start

    -- the marker test, where it is due, is within the message
    pub stands_inside : e.at ≤ length message
    stands_inside = reads.inside

    abbrev asked : Reading
    asked = reading_into decoder header (channels_number w) message (length out)

    into : asked ≡ all
    unfolding reading_into
    into = rw (le-ltb (length out) (pixel_count header * channels_number w) room)

    written_over_lem : e.out ≡ written_over asked.bytes out
    written_over_lem = rw into reads.writes

    -- a chunk is cut short
    pub ends_cut :
        e.cut ≡ true → (refused ended_early ≡ asked.answer) × (e.out ≡ written_over asked.bytes out)
    ends_cut short = (rw into (sym (rw short at reads.answers)), written_over_lem)

    -- no pixel is missing: the marker test of the part from there on
    module _ (whole : e.cut ≡ false) (r : Result (Unit {0}) Error)
        (told : r ≡ ending_at (take (length message - e.at) (drop e.at message))) where
      answers : closed_by (size_wanted header (channels_number w)) e.at r ≡ asked.answer
      answers =
          rw (told, whole_tail message e.at, ← closing_by (size_wanted header (channels_number w)) message e.at, into)
          (sym (rw whole at reads.answers))

      pub ends_refused :
          (why : Error) → r ≡ Err why → (refused why ≡ asked.answer) × (e.out ≡ written_over asked.bytes out)
      ends_refused why is = (rw is at answers, written_over_lem)

      pub ends_done :
          (marker-stands : Unit {0}) → r ≡ Ok marker-stands
          → (done size (e.at + 8) ≡ asked.answer) × (e.out ≡ written_over asked.bytes out)
      ends_done u is = (rw counted (rw is at answers), written_over_lem)
