-- A history of message 7 at work, computed: two pixels, c0 35, cut after the first and taken up on an output that holds other
-- bytes from there on.
-- Assumes nothing.
use mathlib.Core.Path.{◌≡◌, refl, ap}
use mathlib.Core.List.Memᴰ
use mathlib.Core.List.{List, [], ◌∷◌, ◌++◌}
use Prim.Native.Nat.{ℕ}
use native.Mathlib.Omega.{arith}
use lib.Dec.{lit<}
use lib.ListN.{get_or}
use Rattle.pixel.specs.declared.types.Channels.TheVariants.{Rgba}
use Rattle.pixel.specs.declared.types.ColorSpace.TheVariants.{Srgb}
use Rattle.pixel.specs.Colour.{start_pixel, clear_pixel, slot_of}
use Rattle.header.specs.declared.Header.{Header}
use Rattle.header.specs.Header.{header_bytes, header_from, after_color_space, after_channels, header_of}
use Rattle.rules.specs.Chunk.{chunk_from, chunk_at, colour_of, times_of, size_of}
use Rattle.rules.specs.Bytes.{same_bytes, repeated}
use Rattle.rules.specs.Reading.{done, marker, closing, start_place, pixels_brought, pixel_after, place_after, bytes_of, move_by, move, reading, reading_into, after_wanted, after_header, whole_reading}
use Rattle.rules.specs.Decode.{decoder_stores, decoder_keeps, decoder_reads_rgba}
use Rattle.rules.specs.Step.{State, start_state, well_formed, start_wanted, start_header, starting, step_by, step, Ran, ended, running, output_of}
use Rattle.demands.specs.TakeOver.{Life, begun, stepped, taken_up, steps_left, EndsAsUncut}
use Rattle.demands.specs.Flushing.{Torn, Stored}
use Rattle.demands.specs.Flushing as store
use Rattle.demands.proofs.TakeOver.{reached_readable}
use Rattle.demands.proofs.Flushing.{as_shown}

-- 2x1, RGBA, sRGB
abbrev header : Header
header = record { width = 2; height = 1; channels = Rgba; colorspace = Srgb }

-- a run of 1, then INDEX of a slot never stored
unfoldable pub message : List ℕ
message = header_bytes header ++ (0xc0 ∷ 0x35 ∷ marker)

-- a first worker's output, with one byte more than the picture needs, before and after its first step
abbrev lent : List ℕ
lent = 7 ∷ 7 ∷ 7 ∷ 7 ∷ 7 ∷ 7 ∷ 7 ∷ 7 ∷ 7 ∷ []

abbrev cut : List ℕ
cut = 0 ∷ 0 ∷ 0 ∷ 255 ∷ 7 ∷ 7 ∷ 7 ∷ 7 ∷ 7 ∷ []

-- what a second worker finds
abbrev found : List ℕ
found = 0 ∷ 0 ∷ 0 ∷ 255 ∷ 9 ∷ 9 ∷ 9 ∷ 9 ∷ 9 ∷ []

-- the states: at the start, after the run, and after the INDEX
abbrev at_start : State
at_start = start_state header 7 4

abbrev after_run : State
after_run =
    record {
      header = header;
      wanted = 4;
      place = record { at = 15; pixel = 1; current = start_pixel; slots = start_place.slots };
      left = 1;
      number = 7;
    }

abbrev after_index : State
after_index =
    record {
      header = header;
      wanted = 4;
      place = record { at = 16; pixel = 2; current = clear_pixel; slots = start_place.slots };
      left = 0;
      number = 7;
    }

pub starts : Life message 7 4 at_start lent lent
unfolding message header_bytes starting start_header start_wanted header_of after_channels after_color_space header_from
starts = begun lent (lit< tt) (lit< tt) refl

pub stops : Life message 7 4 after_run cut lent
unfolding message header_bytes step step_by well_formed start_place slot_of chunk_from chunk_at colour_of times_of size_of repeated pixels_brought pixel_after place_after bytes_of move_by move decoder_stores decoder_keeps decoder_reads_rgba
stops = stepped starts refl

pub resumes : Life message 7 4 after_run found found
resumes = taken_up stops found refl (reached_readable stops)

-- the second worker's two steps: both pixels are right, the byte after them is as it was found
pub ends : running message (steps_left after_run) after_run found ≡ ended (done 8 24) after_index (0 ∷ 0 ∷ 0 ∷ 255 ∷ 0 ∷ 0 ∷ 0 ∷ 0 ∷ 9 ∷ [])
unfolding message header_bytes running closing same_bytes step step_by well_formed start_place slot_of chunk_from chunk_at colour_of times_of size_of repeated pixels_brought pixel_after place_after bytes_of move_by move decoder_stores decoder_keeps decoder_reads_rgba
ends = refl

-- The order of flushing at work: the first worker's output over a store, flushed after its first step, and then the
-- record of that step's state saved.
pub stored : Stored message 7 4 after_run cut lent [] after_run (after_run ∷ at_start ∷ [])
unfolding message header_bytes starting start_header start_wanted header_of after_channels after_color_space header_from step step_by well_formed start_place slot_of chunk_from chunk_at colour_of times_of size_of repeated pixels_brought pixel_after place_after bytes_of move_by move decoder_stores decoder_keeps decoder_reads_rgba
stored = store.saves (store.flushed (store.stepped (store.begun lent (lit< tt) (lit< tt) refl) refl))

-- without the flush a power cut may bring back every byte that stood before the step,
pub lost : Torn cut (lent ∷ []) (after_run ∷ at_start ∷ []) lent
lost = as_shown cut (lent ∷ []) (after_run ∷ at_start ∷ []) lent (Memᴰ.tail (Memᴰ.head refl)) refl

-- and to take up that record then does not end as the uncut decode: the first pixel is lost
pub saved_too_soon : EndsAsUncut message 4 lent (running message (steps_left after_run) after_run lent) → ⊥
unfolding message header_bytes running closing same_bytes step step_by well_formed start_place slot_of chunk_from chunk_at colour_of times_of size_of repeated pixels_brought pixel_after place_after bytes_of move_by move decoder_stores decoder_keeps decoder_reads_rgba starting start_header start_wanted header_of after_channels after_color_space header_from reading reading_into after_wanted after_header whole_reading
saved_too_soon e =
    let first : ◌≡◌ {A = ℕ} 7 0 = ap (λ (r : Ran). get_or (output_of r) 0 0) e.1 in
    omega arith
