-- The encoder's pen and a reader's place: how their slots stand to each other, over every way that reads an encoder's
-- chunks.
-- The document stores pixels of RUN and INDEX too. Where that puts a pixel into a slot that the pen has not filled,
-- the pen's slot holds no pixel of that slot, so no INDEX is chosen there.
-- Assumes nothing.
use mathlib.Core.Path.{◌≡◌, refl, sym, ◌∙◌, ap}
use mathlib.Core.Bool.{Bool, true, false, cond}
use mathlib.Core.List.{List, ◌++◌}
use Prim.Native.Nat.{ℕ, ◌+◌, ◌≤◌, ◌<◌}
use native.Mathlib.Decide.{ℕ_discrete}
use native.Mathlib.Omega.{arith}
use borrow.Author.Tests.{lt-ltb}
use lib.ListN.{length, get_or, take, drop, set, length-set, get_or-replicate}
use lib.Seq.{get_or-set_same, get_or-set_other, set-get_or, drop-drop, drop_at}
use Rattle.pixel.specs.declared.Pixel.{Pixel}
use Rattle.pixel.specs.declared.types.Channels.{Channels}
use Rattle.pixel.specs.declared.types.Channels.TheVariants.{Rgb, Rgba}
use Rattle.pixel.specs.Colour.{pixel_of, red, green, blue, slot_of, start_pixel, clear_pixel}
use Rattle.pixel.specs.Types.{channels_number}
use Rattle.header.specs.declared.Header.{Header}
use Rattle.header.specs.Header.{pixel_count}
use Rattle.rules.specs.Chunk.{Chunk, colour_of, times_of, size_of, INDEX, RUN}
use Rattle.rules.specs.Bytes.{repeated}
use Rattle.rules.specs.Reading.{Way, Place, Move, after, read_on, start_place, pixels_brought, pixel_after, place_after, bytes_of, move_by, move, remaining}
use Rattle.rules.specs.Decode.{decoder, decoder_stores, decoder_keeps, decoder_reads_rgba}
use Rattle.rules.specs.Document.{document}
use Rattle.rules.specs.Encode.{Pen, start_pen, run_ended, slot_holds, differing_chunk, colour_chunk, chunk_bytes, chunks_bytes}
use Rattle.rules.proofs.PlaceLaws.{Shaped, shaped_start, stored_shaped}
use Rattle.rules.proofs.ReadingLaws.{remaining_unfolds}
use Rattle.rules.proofs.PenLaws.{Ended, no_run, as_index, as_run, ended, Differing, by_slot, by_colour, differing}
use Rattle.rules.proofs.ChunkLaws.{slot_small}
use Rattle.rules.proofs.EncodeLaws.{Writable, Whole, start_whole, chunk_read_back, chunk_length, pixel_is, same_is, colour_chosen}

-- what a way does to read an encoder's chunks: it keeps whole pixels as they are, stores what the decoder stores, and
-- reads RGBA where there are not three channels
pub record Reads (way : Way) (n : ℕ) : Type 0 where
  pub keeps_is : (p : Pixel) → Whole n p → way.keeps n p ≡ p
  pub stores_is : (k : Chunk) → decoder_stores k ≡ true → way.stores k ≡ true
  pub reads_is : (n ≡ 3 → ⊥) → way.reads_rgba n ≡ true

-- the document's way does
pub document_reads : (n : ℕ) → Reads document n
document_reads n = record { keeps_is = λ p w. refl; stores_is = λ k e. refl; reads_is = λ four. refl }

-- and the decoder's
pub decoder_reads : (c : Channels) → Reads decoder (channels_number c)
unfolding decoder_keeps decoder_reads_rgba
decoder_reads Rgb =
    record {
      keeps_is = λ p w. sym (pixel_is p w.four ∙ ap (pixel_of (red p) (green p) (blue p)) (w.opaque refl));
      stores_is = λ k e. e;
      reads_is = λ four. absurd (four refl);
    }
decoder_reads Rgba = record { keeps_is = λ p w. refl; stores_is = λ k e. e; reads_is = λ four. refl }

-- a pixel that the first slots hold in its slot, the second hold too
abbrev Covers : List Pixel → List Pixel → Type 0
Covers s t = (q : Pixel) → get_or s (slot_of q) clear_pixel ≡ q → get_or t (slot_of q) clear_pixel ≡ q

-- the pen's slots, previous pixel and whether a pixel differed, and a place that reads what it wrote
pub record Meets (n : ℕ) (slots : List Pixel) (previous : Pixel) (differed : Bool) (place : Place) : Type 0 where
  pub current : place.current ≡ previous
  pub whole : Whole n previous
  pub shaped : Shaped slots previous
  pub slots_are : length place.slots ≡ 64
  pub covers : Covers slots place.slots
  -- no other pixel of the previous pixel's slot is there
  pub only : (q : Pixel) → slot_of q ≡ slot_of previous → get_or slots (slot_of q) clear_pixel ≡ q → q ≡ previous
  -- once a pixel differed, the previous pixel is in its slot
  pub held : differed ≡ true → get_or slots (slot_of previous) clear_pixel ≡ previous

-- where a pixel is stored its slot holds it
held_stored : (s : List Pixel) (p : Pixel) → length s ≡ 64 → get_or (set s (slot_of p) p) (slot_of p) clear_pixel ≡ p
held_stored s p full = get_or-set_same s (slot_of p) p clear_pixel (omega (arith, slot_small p))

-- and no other pixel is in that slot
only_stored :
    (s : List Pixel) (p q : Pixel) → length s ≡ 64 → slot_of q ≡ slot_of p
    → get_or (set s (slot_of p) p) (slot_of q) clear_pixel ≡ q → q ≡ p
only_stored s p q full e h = sym h ∙ rw e (held_stored s p full)

-- a pixel stored on both sides
covers_both : (s t : List Pixel) (p : Pixel) → length s ≡ 64 → length t ≡ 64 → Covers s t → Covers (set s (slot_of p) p) (set t (slot_of p) p)
covers_both s t p full full' covers q h = go (ℕ_discrete (slot_of q) (slot_of p))
  where
    go : Dec (slot_of q ≡ slot_of p) → get_or (set t (slot_of p) p) (slot_of q) clear_pixel ≡ q
    go (yes e) = rw e (held_stored t p full' ∙ sym (only_stored s p q full e h))
    go (no ne) =
        get_or-set_other t (slot_of p) (slot_of q) p clear_pixel ne
        ∙ covers q (sym (get_or-set_other s (slot_of p) (slot_of q) p clear_pixel ne) ∙ h)

-- a pixel stored on the second side only, where the first holds no other of its slot
covers_more :
    (s t : List Pixel) (p : Pixel) → length t ≡ 64 → Covers s t
    → ((q : Pixel) → slot_of q ≡ slot_of p → get_or s (slot_of q) clear_pixel ≡ q → q ≡ p) → Covers s (set t (slot_of p) p)
covers_more s t p full covers only q h = go (ℕ_discrete (slot_of q) (slot_of p))
  where
    go : Dec (slot_of q ≡ slot_of p) → get_or (set t (slot_of p) p) (slot_of q) clear_pixel ≡ q
    go (yes e) = rw e (held_stored t p full ∙ sym (only q e h))
    go (no ne) = get_or-set_other t (slot_of p) (slot_of q) p clear_pixel ne ∙ covers q h

-- a pixel stored where it is changes nothing
stored_again : (b : Bool) (t : List Pixel) (p : Pixel) → get_or t (slot_of p) clear_pixel ≡ p → cond b (set t (slot_of p) p) t ≡ set t (slot_of p) p
stored_again true t p h = refl
stored_again false t p h = sym (ap (set t (slot_of p)) (sym h) ∙ set-get_or t (slot_of p) clear_pixel)

-- before the first pixel the slots are clear, and a clear pixel is not of the start pixel's slot
start_only : (q : Pixel) → slot_of q ≡ slot_of start_pixel → get_or start_pen.slots (slot_of q) clear_pixel ≡ q → q ≡ start_pixel
unfolding start_pen slot_of
start_only q e h =
    let clear : q ≡ clear_pixel = sym h ∙ get_or-replicate 64 (slot_of q) clear_pixel clear_pixel (slot_small q) in
    let zero-slot : slot_of q ≡ 0 = rw clear refl in
    absurd (omega (arith, e, zero-slot))

-- the start pen and the start place
pub start_meets : (n : ℕ) → Meets n start_pen.slots start_pen.previous start_pen.differed start_place
unfolding start_pen start_place
start_meets n =
    record {
      current = refl;
      whole = start_whole n;
      shaped = shaped_start;
      slots_are = refl;
      covers = λ q h. h;
      only = start_only;
      held = λ e. cc;
    }

module _ (way : Way) (header : Header) (wanted : ℕ) (message : List ℕ) where
  -- a pixel is read n times from a place, the rest of the message follows, and the pen is met where that leads
  pub record Reached (slots : List Pixel) (previous : Pixel) (differed : Bool) (place : Place) (times : ℕ) (p : Pixel) (rest : List ℕ) : Type 0 where
    pub next : Place
    pub read :
        remaining way header wanted message place
        ≡ after (repeated times (take wanted p.rgba)) (remaining way header wanted message next)
    pub stands : drop next.at message ≡ rest
    pub pixel : next.pixel ≡ place.pixel + times
    pub meets : Meets wanted slots previous differed next

module _ (way : Way) (header : Header) (wanted : ℕ) (same : channels_number header.channels ≡ wanted) (reads : Reads way wanted) (message : List ℕ) where
  -- a chunk that stands at a place and brings a whole pixel, as often as there are pixels left at least
  module _ (place : Place) (k : Chunk) (p : Pixel) (rest : List ℕ) (writable : Writable (way.reads_rgba wanted) k)
      (stands : drop place.at message ≡ chunk_bytes k ++ rest) (brings : colour_of place.slots place.current k ≡ p)
      (whole : Whole wanted p) (once : 1 ≤ times_of k) (fits : place.pixel + times_of k ≤ pixel_count header) where
    pixel_comes : pixel_after way wanted place k ≡ p
    unfolding pixel_after
    pixel_comes = ap (way.keeps wanted) brings ∙ reads.keeps_is p whole

    all_brought : pixels_brought header place k ≡ times_of k
    unfolding pixels_brought
    all_brought = omega arith

    chunk_bytes_lem : bytes_of way header wanted place k ≡ repeated (times_of k) (take wanted p.rgba)
    unfolding bytes_of
    chunk_bytes_lem = rw (all_brought, pixel_comes)

    chunk_moves : move way header wanted message place ≡ Move.more (place_after way header wanted place k) (bytes_of way header wanted place k)
    unfolding move move_by
    chunk_moves =
        rw (lt-ltb place.pixel (pixel_count header) (omega arith), same, stands, chunk_read_back (way.reads_rgba wanted) k rest writable)

    chunk_read :
        remaining way header wanted message place
        ≡ after (repeated (times_of k) (take wanted p.rgba)) (remaining way header wanted message (place_after way header wanted place k))
    chunk_read =
        remaining_unfolds way header wanted message place
        ∙ ap (read_on (remaining way header wanted message)) chunk_moves
        ∙ ap (λ (bytes : List ℕ). after bytes (remaining way header wanted message (place_after way header wanted place k))) chunk_bytes_lem

    chunk_passed : drop (place_after way header wanted place k).at message ≡ rest
    unfolding place_after
    chunk_passed =
        sym (drop-drop (size_of k) place.at message)
        ∙ ap (drop (size_of k)) stands
        ∙ drop_at (chunk_bytes k) rest (size_of k) (chunk_length k)

    pixels_passed : (place_after way header wanted place k).pixel ≡ place.pixel + times_of k
    unfolding place_after
    pixels_passed = rw all_brought

    slots_then : (place_after way header wanted place k).slots ≡ cond (way.stores k) (set place.slots (slot_of p) p) place.slots
    unfolding place_after
    slots_then = rw pixel_comes

    current_then : (place_after way header wanted place k).current ≡ p
    unfolding place_after
    current_then = pixel_comes

    -- it leads to a place that meets a pen whose previous pixel it is
    chunk_reaches :
        (slots : List Pixel) (differed : Bool) (after : List Pixel)
        → cond (way.stores k) (set place.slots (slot_of p) p) place.slots ≡ after
        → Shaped slots p → length after ≡ 64 → Covers slots after
        → ((q : Pixel) → slot_of q ≡ slot_of p → get_or slots (slot_of q) clear_pixel ≡ q → q ≡ p)
        → (differed ≡ true → get_or slots (slot_of p) clear_pixel ≡ p)
        → Reached way header wanted message slots p differed place (times_of k) p rest
    chunk_reaches slots differed after is shaped full covers only held =
        let then = slots_then ∙ is in
        record {
          next = place_after way header wanted place k;
          read = chunk_read;
          stands = chunk_passed;
          pixel = pixels_passed;
          meets =
              record {
                current = current_then;
                whole = whole;
                shaped = shaped;
                slots_are = ap length then ∙ full;
                covers = rw then covers;
                only = only;
                held = held;
              };
        }

  -- the chunk of a pixel that the previous one is: it is stored again or not, and the same pen is met
  repeat_reaches :
      (slots : List Pixel) (previous : Pixel) (differed : Bool) (place : Place) (k : Chunk) (rest : List ℕ)
      → Meets wanted slots previous differed place → Writable (way.reads_rgba wanted) k
      → drop place.at message ≡ chunk_bytes k ++ rest → colour_of place.slots place.current k ≡ previous
      → 1 ≤ times_of k → place.pixel + times_of k ≤ pixel_count header
      → Reached way header wanted message slots previous differed place (times_of k) previous rest
  repeat_reaches slots previous differed place k rest meets writable stands brings once fits = go (way.stores k) refl
    where
      go : (b : Bool) → way.stores k ≡ b → Reached way header wanted message slots previous differed place (times_of k) previous rest
      go true e =
          chunk_reaches place k previous rest writable stands brings meets.whole once fits slots differed
          (set place.slots (slot_of previous) previous) (rw e) meets.shaped
          (length-set place.slots (slot_of previous) previous ∙ meets.slots_are)
          (covers_more slots place.slots previous meets.slots_are meets.covers meets.only) meets.only meets.held
      go false e =
          chunk_reaches place k previous rest writable stands brings meets.whole once fits slots differed place.slots (rw e)
          meets.shaped meets.slots_are meets.covers meets.only meets.held

  -- a RUN
  pub run_reaches :
      (slots : List Pixel) (previous : Pixel) (differed : Bool) (place : Place) (run : ℕ) (rest : List ℕ)
      → Meets wanted slots previous differed place → 1 ≤ run → run ≤ 62
      → drop place.at message ≡ chunk_bytes (RUN run) ++ rest → place.pixel + run ≤ pixel_count header
      → Reached way header wanted message slots previous differed place run previous rest
  unfolding times_of colour_of
  run_reaches slots previous differed place run rest meets some few stands fits =
      repeat_reaches slots previous differed place (RUN run) rest meets (some, few) stands meets.current some fits

  -- a run that another pixel ends
  pub ended_reaches :
      (pen : Pen) (place : Place) (rest : List ℕ) → Meets wanted pen.slots pen.previous pen.differed place → pen.run ≤ 62
      → drop place.at message ≡ chunks_bytes (run_ended pen) ++ rest → place.pixel + pen.run ≤ pixel_count header
      → Reached way header wanted message pen.slots pen.previous pen.differed place pen.run pen.previous rest
  unfolding chunks_bytes chunk_bytes times_of colour_of repeated
  ended_reaches pen place rest meets few stands fits = go (run_ended pen) (ended pen) stands
    where
      go :
          (ks : List Chunk) → Ended pen ks → drop place.at message ≡ chunks_bytes ks ++ rest
          → Reached way header wanted message pen.slots pen.previous pen.differed place pen.run pen.previous rest
      go ks (no_run e) stands = rw e (record { next = place; read = refl; stands = stands; pixel = omega arith; meets = meets })
      go ks (as_index e differed) stands =
          rw e
          (repeat_reaches pen.slots pen.previous pen.differed place (INDEX (slot_of pen.previous)) rest meets
          (slot_small pen.previous) stands (meets.covers pen.previous (meets.held differed)) (omega arith) (omega arith))
      go ks (as_run some) stands =
          run_reaches pen.slots pen.previous pen.differed place pen.run rest meets some few stands fits

  -- the chunk of a differing pixel, which is then stored on both sides
  pub differing_reaches :
      (pen : Pen) (place : Place) (p : Pixel) (rest : List ℕ) → 3 ≤ wanted
      → Meets wanted pen.slots pen.previous pen.differed place → Whole wanted p
      → drop place.at message ≡ chunk_bytes (differing_chunk pen p) ++ rest → place.pixel < pixel_count header
      → Reached way header wanted message (set pen.slots (slot_of p) p) p true place 1 p rest
  unfolding slot_holds times_of colour_of
  differing_reaches pen place p rest some meets whole stands missing = go (differing_chunk pen p) (differing pen p) stands
    where
      -- a chunk that brings the pixel once, after which it is stored
      stores :
          (k : Chunk) → Writable (way.reads_rgba wanted) k → drop place.at message ≡ chunk_bytes k ++ rest
          → colour_of place.slots place.current k ≡ p → times_of k ≡ 1
          → cond (way.stores k) (set place.slots (slot_of p) p) place.slots ≡ set place.slots (slot_of p) p
          → Reached way header wanted message (set pen.slots (slot_of p) p) p true place 1 p rest
      stores k writable stands brings once is =
          rw once at
          (chunk_reaches place k p rest writable stands brings whole (omega (arith, once)) (omega (arith, once))
          (set pen.slots (slot_of p) p) true (set place.slots (slot_of p) p) is
          (stored_shaped true pen.slots pen.previous p (slot_of p) meets.shaped whole.four)
          (length-set place.slots (slot_of p) p ∙ meets.slots_are)
          (covers_both pen.slots place.slots p meets.shaped.slots_are meets.slots_are meets.covers)
          (λ q. only_stored pen.slots p q meets.shaped.slots_are)
          (λ e. held_stored pen.slots p meets.shaped.slots_are))

      go :
          (k : Chunk) → Differing pen p k → drop place.at message ≡ chunk_bytes k ++ rest
          → Reached way header wanted message (set pen.slots (slot_of p) p) p true place 1 p rest
      go k (by_slot e) stands =
          let there : get_or pen.slots (slot_of p) clear_pixel ≡ p =
          same_is (get_or pen.slots (slot_of p) clear_pixel) p (meets.shaped.slot_is (slot_of p) (slot_small p)) whole.four e in
          let here = meets.covers p there in
          stores (INDEX (slot_of p)) (slot_small p) stands here refl (stored_again (way.stores (INDEX (slot_of p))) place.slots p here)
      go k by_colour stands =
          let colour = colour_chunk pen.previous p in
          let chosen = colour_chosen wanted pen.previous p some meets.whole whole in
          stores colour (chosen.writable (way.reads_rgba wanted) reads.reads_is) stands
          (rw meets.current (chosen.brings place.slots)) chosen.once
          (rw (reads.stores_is colour chosen.stores))
