-- The uncut decode's course: what holds of every state on it; a start is on it, a chunk leads along it, and where it
-- ends the uncut decode ends.
-- Assumes nothing.
use Rattle.std.specs.Prelude.{Result, Ok, Err}
use mathlib.Core.Path.{◌≡◌, refl, sym, ◌∙◌, ap}
use mathlib.Core.List.{List, ◌++◌, append-nil}
use Prim.Native.Nat.{ℕ, ◌+◌, ◌^◌, ◌≤◌, ◌<◌, zero-le}
use native.Mathlib.Nat.{zero-mul}
use native.Mathlib.Omega.{arith}
use borrow.Author.Tests.{lt-ltb, le-ltb}
use lib.Dec.{T, le→leb, leb→le}
use lib.ListN.{length, take, drop, length-append}
use lib.Seq.{length-take-le, take_at}
use Rattle.pixel.specs.declared.error.Error.TheVariants.{OutputBufferTooSmall}
use Rattle.pixel.specs.declared.types.Channels.{Channels}
use Rattle.pixel.specs.declared.types.Channels.TheVariants.{Rgb, Rgba}
use Rattle.pixel.specs.Types.{channels_number, channels_from}
use Rattle.header.specs.declared.Header.{Header}
use Rattle.header.specs.Header.{pixel_count, header_of}
use Rattle.header.proofs.Laws.{header_accepted, sides_fit}
use Rattle.rules.specs.Chunk.{Chunk}
use Rattle.rules.specs.Reading.{Answer, refused, Reading, Move, silent, after, read_on, start_place, remaining, reading_into, after_wanted, after_header, whole_reading}
use Rattle.rules.specs.Decode.{decoder, decoding}
use Rattle.rules.specs.Step.{State, start_state, Typed, alpha_passes, wanted_passes, well_formed, Started, started, not_started, start_wanted, start_header, starting}
use Rattle.rules.proofs.ChunkLaws.{Sound}
use Rattle.rules.proofs.PlaceLaws.{Shaped, shaped_start, shaped_next, pixel_reached, stays_inside}
use Rattle.rules.proofs.ReadingLaws.{after_after, remaining_unfolds}
use Rattle.rules.proofs.RecordLaws.{formed, forms, left_adds, wanted_few, refused_is_no_start}
use Rattle.demands.specs.TakeOver.{bytes_before}
use Rattle.rules.proofs.StepLaws.{next_state, bytes_by, move_from, needed, well_next}
use Rattle.pixel.specs.declared.error.Error.{Error}

-- what a start that is accepted has read
record Opening (m : List ℕ) (number w : ℕ) (s : State) : Type 0 where
  header : Header
  channels : Channels
  reads : header_of m ≡ Ok header
  wants : channels_from w ≡ Ok channels
  is : start_state header number (channels_number channels) ≡ s

opening : (m : List ℕ) (number w : ℕ) (s : State) → starting m number w ≡ started s → Opening m number w s
unfolding starting start_header start_wanted
opening m number w s e = heading (header_of m) refl e
  where
    wanting :
        (header : Header) → header_of m ≡ Ok header → (c : Result Channels Error) → channels_from w ≡ c
        → start_wanted header number c ≡ started s → Opening m number w s
    wanting header reads (Err x) wants e = absurd (refused_is_no_start e)
    wanting header reads (Ok channels) wants e =
        record { header = header; channels = channels; reads = reads; wants = wants; is = cc }

    heading : (r : Result Header Error) → header_of m ≡ r → start_header number w r ≡ started s → Opening m number w s
    heading (Err x) reads e = absurd (refused_is_no_start e)
    heading (Ok header) reads e = wanting header reads (channels_from w) refl e

-- the uncut decode reads with the header and the channels that a start takes
uncut_reads :
    (m : List ℕ) (number w room : ℕ) (s : State) → starting m number w ≡ started s
    → decoding m w room ≡ reading_into decoder s.header s.wanted m room
unfolding whole_reading after_header after_wanted
uncut_reads m number w room s e =
    let o = opening m number w s e in
    rw (← o.is, o.reads, o.wants)

-- the reading from a state to its end
abbrev pub ahead : List ℕ → State → Reading
ahead m s = remaining decoder s.header s.wanted m s.place

-- the whole reading that a start leads to
unfoldable pub whole_from : List ℕ → Started → Reading
whole_from m (started s) = ahead m s
whole_from m (not_started e) = silent (refused e)

-- channels are 3 or 4
channels_wanted : (header : Header) (number : ℕ) (c : Channels) → T (wanted_passes (start_state header number (channels_number c)))
channels_wanted header number Rgb = tt
channels_wanted header number Rgba = tt

-- the fourth byte is 255 at the start
start_opaque : (header : Header) (number : ℕ) (c : Channels) → T (alpha_passes (start_state header number (channels_number c)))
unfolding start_place
start_opaque header number Rgb = tt
start_opaque header number Rgba = tt

module _ (m : List ℕ) (w : ℕ) where
  -- the message is accepted with this header and these channels wanted: it starts under every number, which takes no
  -- part in its decode
  abbrev Opens : Header → ℕ → Type 0
  Opens header wanted = (number : ℕ) → starting m number w ≡ started (start_state header number wanted)

  -- what a start under one number has read, one under each reads
  opens : (number : ℕ) (s : State) (o : Opening m number w s) → Opens o.header (channels_number o.channels)
  unfolding starting start_header start_wanted
  opens number s o other = rw (o.reads, o.wants)

  -- the whole reading of the message
  abbrev pub whole : Reading
  whole = whole_from m (starting m 0 w)

  -- a state that the uncut decode passes: the first bytes of the whole reading, up to its pixel, and the reading from
  -- it are the whole reading
  pub record OnCourse (s : State) : Type 0 where
    pub opened : Opens s.header s.wanted
    pub well : T (well_formed s)
    pub typed : Typed s
    pub inside : s.place.at ≤ length m
    pub small : length m < 2 ^ 64
    pub reaches : bytes_before s ≤ length whole.bytes
    pub path : after (take (bytes_before s) whole.bytes) (ahead m s) ≡ whole

  -- a start is on course
  start_on_course :
      (header : Header) (number : ℕ) (c : Channels) → header_of m ≡ Ok header → length m < 2 ^ 64
      → number < 2 ^ 64 → Opens header (channels_number c) → OnCourse (start_state header number (channels_number c))
  unfolding start_place whole_from
  start_on_course header number c reads small fits e =
      let accepted = header_accepted m header reads in
      let sides = sides_fit header accepted.fit in
      record {
        opened = e;
        well =
            forms (start_state header number (channels_number c))
            (record {
              header_passes_lem = accepted.fit;
              wanted_passes_lem = channels_wanted header number c;
              at_passes_lem = tt;
              pixel_passes_lem = le→leb 0 (pixel_count header) zero-le;
              left_passes_lem = left_adds (start_state header number (channels_number c)) (omega arith);
              alpha_passes_lem = start_opaque header number c;
            });
        typed =
            record {
              width_fits = sides.0;
              height_fits = sides.1;
              at_fits = omega arith;
              number_fits = fits;
              current_is = shaped_start.current_is;
              slots_are = shaped_start.slots_are;
              slot_is = shaped_start.slot_is;
            };
        inside = accepted.whole;
        small = small;
        reaches = rw zero-mul zero-le;
        path = rw (e 0, zero-mul);
      }

  pub starts_on_course :
      (number : ℕ) (s : State) → length m < 2 ^ 64 → number < 2 ^ 64 → starting m number w ≡ started s → OnCourse s
  starts_on_course number s small fits e =
      let o = opening m number w s e in
      rw (← o.is) (start_on_course o.header number o.channels o.reads small fits (opens number s o))

  -- has no byte before it
  pub starts_at_none : (number : ℕ) (s : State) → starting m number w ≡ started s → bytes_before s ≡ 0
  unfolding start_place
  starts_at_none number s e =
      let o = opening m number w s e in
      rw (← o.is) (zero-mul (channels_number o.channels))

  -- and has the number that it was given
  pub starts_under : (number : ℕ) (s : State) → starting m number w ≡ started s → s.number ≡ number
  starts_under number s e =
      let o = opening m number w s e in
      rw (← o.is)

  -- two states on it are of one picture
  pub same_needed : (s t : State) → OnCourse s → OnCourse t → needed s ≡ needed t
  same_needed s t on on' =
      let same : start_state s.header 0 s.wanted ≡ start_state t.header 0 t.wanted = cc (on.opened 0, on'.opened 0) in
      ap needed same

  module _ (s : State) (on : OnCourse s) where
    -- the pixels of the slots
    shaped : Shaped s.place.slots s.place.current
    shaped =
        record { current_is = on.typed.current_is; slots_are = on.typed.slots_are; slot_is = on.typed.slot_is }

    -- no pixel is past the picture
    pub within : s.place.pixel ≤ pixel_count s.header
    within = leb→le s.place.pixel (pixel_count s.header) (formed s on.well).pixel_passes_lem

    -- into all the bytes that the picture needs the uncut decode is the whole reading
    pub uncut_whole : (room : ℕ) → needed s ≤ room → decoding m w room ≡ whole
    unfolding reading_into whole_from
    uncut_whole room fits =
        uncut_reads m 0 w room (start_state s.header 0 s.wanted) (on.opened 0) ∙ rw (le-ltb room (needed s) fits, on.opened 0)

    -- into fewer it is 7
    pub uncut_short : (room : ℕ) → room < needed s → decoding m w room ≡ silent (refused (OutputBufferTooSmall room (needed s)))
    unfolding reading_into
    uncut_short room short =
        uncut_reads m 0 w room (start_state s.header 0 s.wanted) (on.opened 0) ∙ rw (lt-ltb room (needed s) short)

    -- where the course ends the whole reading ends
    pub whole_ends :
        (answer : Answer) → move_from m s ≡ Move.end answer
        → (answer ≡ whole.answer) × (whole.bytes ≡ take (bytes_before s) whole.bytes)
    whole_ends answer stops =
        let n = bytes_before s in
        let silence : ahead m s ≡ silent answer =
        remaining_unfolds decoder s.header s.wanted m s.place ∙ ap (read_on (remaining decoder s.header s.wanted m)) stops in
        let eq : after (take n whole.bytes) (silent answer) ≡ whole =
        ap (after (take n whole.bytes)) (sym silence) ∙ on.path in
        (ap (λ (r : Reading). r.answer) eq, sym (ap (λ (r : Reading). r.bytes) eq) ∙ append-nil (take n whole.bytes))

    -- a chunk leads along it
    module _ (k : Chunk) (sound : Sound (drop s.place.at m) k) (missing : s.place.pixel < pixel_count s.header)
        (moves : move_from m s ≡ Move.more (next_state s k).place (bytes_by s k)) where
      -- the next state's pixel stands in the output where the bytes end
      pub reached : bytes_before (next_state s k) ≡ bytes_before s + length (bytes_by s k)
      reached = pixel_reached s.header s.wanted s.place k shaped sound (wanted_few s on.well)

      -- what was written before, the chunk's bytes and the reading from the next state are the whole reading
      longer : after (take (bytes_before s) whole.bytes ++ bytes_by s k) (ahead m (next_state s k)) ≡ whole
      longer =
          let written = take (bytes_before s) whole.bytes in
          after_after written (bytes_by s k) (ahead m (next_state s k))
          ∙ ap (after written)
          (sym (remaining_unfolds decoder s.header s.wanted m s.place ∙ ap (read_on (remaining decoder s.header s.wanted m)) moves))
          ∙ on.path

      written_length : length (take (bytes_before s) whole.bytes ++ bytes_by s k) ≡ bytes_before s + length (bytes_by s k)
      written_length = simp length-append (omega (arith, length-take-le (bytes_before s) whole.bytes on.reaches))

      -- the chunk's bytes are the whole reading's next bytes
      pub written_on :
          take (bytes_before s + length (bytes_by s k)) whole.bytes ≡ take (bytes_before s) whole.bytes ++ bytes_by s k
      written_on =
          ap (take (bytes_before s + length (bytes_by s k))) (sym (ap (λ (r : Reading). r.bytes) longer))
          ∙ take_at (take (bytes_before s) whole.bytes ++ bytes_by s k) (ahead m (next_state s k)).bytes
          (bytes_before s + length (bytes_by s k)) written_length

      -- and all of them are there
      pub reaches_on : bytes_before s + length (bytes_by s k) ≤ length whole.bytes
      reaches_on = omega (arith, simp length-append at written_length, simp length-append at (ap (λ (r : Reading). length r.bytes) longer))

      -- the state after it is on course
      pub goes_on_course : OnCourse (next_state s k)
      goes_on_course =
          let shape = shaped_next s.header s.wanted s.place k shaped sound in
          let inside' = stays_inside s.header s.wanted m s.place k on.inside sound in
          record {
            opened = on.opened;
            well = well_next s k on.well;
            typed =
                record {
                  width_fits = on.typed.width_fits;
                  height_fits = on.typed.height_fits;
                  at_fits = omega (arith, inside', on.small);
                  number_fits = on.typed.number_fits;
                  current_is = shape.current_is;
                  slots_are = shape.slots_are;
                  slot_is = shape.slot_is;
                };
            inside = inside';
            small = on.small;
            reaches = rw reached reaches_on;
            path = rw (reached, written_on) longer;
          }
