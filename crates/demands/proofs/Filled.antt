-- No INDEX of the encoder's names a slot that is not yet filled, slot 0 of a 4-channel source excepted: what a slot
-- of the pen holds was stored by a chunk of its colour, or is clear.
-- Assumes nothing.
use mathlib.Core.Path.{◌≡◌, refl, sym, ◌∙◌, ap}
use mathlib.Core.Bool.{Bool, true, false, ◌&&◌}
use mathlib.Core.List.{List, [], ◌∷◌, ◌++◌, append_assoc}
use Prim.Native.Nat.{ℕ, ◌+◌}
use native.Mathlib.Decide.{ℕ_discrete}
use native.Mathlib.Omega.{arith}
use lib.Dec.{T}
use lib.ListN.{length, get_or, set, replicate, length-set, get_or-replicate}
use lib.Seq.{get_or-set_same, get_or-set_other, set-get_or}
use Rattle.pixel.specs.declared.Pixel.{Pixel}
use Rattle.pixel.specs.declared.types.Channels.{Channels}
use Rattle.pixel.specs.declared.types.Channels.TheVariants.{Rgb, Rgba}
use Rattle.pixel.specs.Colour.{alpha, slot_of, clear_pixel}
use Rattle.pixel.specs.Types.{channels_number}
use Rattle.header.specs.declared.Header.{Header}
use Rattle.rules.specs.Chunk.{Chunk, colour_of, INDEX, DIFF, LUMA, RUN, RGB, RGBA, Stuck}
use Rattle.rules.specs.Reading.{Place, start_place, pixel_after, place_after}
use Rattle.rules.specs.Decode.{decoder, decoder_stores}
use Rattle.rules.specs.Trace.{Visit, own_channels}
use Rattle.rules.specs.Document.{names_filled, filled_after, filled_in}
use Rattle.rules.specs.Encode.{Pen, start_pen, slot_holds, run_ended, differing_chunk, colour_chunk, pen_after, is_last, chunks_from}
use Rattle.rules.proofs.PlaceLaws.{Shaped, shaped_start, stored_shaped}
use Rattle.rules.proofs.ChunkLaws.{slot_small}
use Rattle.rules.proofs.EncodeLaws.{Whole, Wholes, start_whole, same_is, colour_chosen}
use Rattle.rules.proofs.PenLaws.{Ended, no_run, as_index, as_run, ended, Differing, by_slot, by_colour, differing, Penned, held_back, run_is_written, differs, penned}
use Rattle.rules.proofs.PictureLaws.{three_at_least}
use Rattle.demands.proofs.PenAndPlace.{decoder_reads}
use Rattle.demands.proofs.Traced.{place_then, visits_by}

-- the decoder's place has the pen's slots and its previous pixel; and where a slot holds a pixel of a picture, INDEX
-- may name it
record Tracks (n : ℕ) (slots : List Pixel) (previous : Pixel) (differed : Bool) (place : Place) (filled : List Bool) : Type 0 where
  current : place.current ≡ previous
  same : place.slots ≡ slots
  whole : Whole n previous
  shaped : Shaped slots previous
  -- once a pixel differed, the previous pixel is in its slot
  held : differed ≡ true → get_or slots (slot_of previous) clear_pixel ≡ previous
  filled_are : length filled ≡ 64
  fills : (q : Pixel) → Whole n q → get_or slots (slot_of q) clear_pixel ≡ q → T (names_filled n filled (INDEX (slot_of q)))

-- a clear pixel may be named: there is none with three channels, and slot 0 is its own with four
clear_named : (c : Channels) (q : Pixel) → Whole (channels_number c) q → q ≡ clear_pixel → T (names_filled (channels_number c) (replicate 64 false) (INDEX (slot_of q)))
unfolding names_filled slot_of
clear_named Rgb q whole is =
    let opaque : alpha clear_pixel ≡ 255 = rw is at (whole.opaque refl) in
    absurd (omega arith)
clear_named Rgba q whole is = rw is tt

-- before the first pixel
start_tracks : (c : Channels) → Tracks (channels_number c) start_pen.slots start_pen.previous start_pen.differed start_place (replicate 64 false)
unfolding start_pen start_place
start_tracks c =
    record {
      current = refl;
      same = refl;
      whole = start_whole (channels_number c);
      shaped = shaped_start;
      held = λ e. cc;
      filled_are = refl;
      fills = λ q whole h. clear_named c q whole (sym h ∙ get_or-replicate 64 (slot_of q) clear_pixel clear_pixel (slot_small q));
    }

-- a pixel that is stored fills its slot
fills_stored :
    (n : ℕ) (slots : List Pixel) (filled : List Bool) (p : Pixel) → length filled ≡ 64
    → ((q : Pixel) → Whole n q → get_or slots (slot_of q) clear_pixel ≡ q → T (names_filled n filled (INDEX (slot_of q))))
    → (q : Pixel) → Whole n q → get_or (set slots (slot_of p) p) (slot_of q) clear_pixel ≡ q
    → T (names_filled n (set filled (slot_of p) true) (INDEX (slot_of q)))
unfolding names_filled
fills_stored n slots filled p are fills q whole h = go (ℕ_discrete (slot_of q) (slot_of p))
  where
    go : Dec (slot_of q ≡ slot_of p) → T (names_filled n (set filled (slot_of p) true) (INDEX (slot_of q)))
    go (yes e) = rw (e, get_or-set_same filled (slot_of p) true false (omega (arith, slot_small p))) tt
    go (no ne) =
        rw (get_or-set_other filled (slot_of p) (slot_of q) true false ne)
        (fills q whole (sym (get_or-set_other slots (slot_of p) (slot_of q) p clear_pixel ne) ∙ h))

-- a chunk that stores names no slot
stores_names_none : (n : ℕ) (filled : List Bool) (k : Chunk) → decoder_stores k ≡ true → T (names_filled n filled k)
unfolding decoder_stores names_filled
stores_names_none n filled (INDEX slot) e = absurd (let z : ◌≡◌ {A = ℕ} 0 1 = cc in omega arith)
stores_names_none n filled (DIFF r g b) e = tt
stores_names_none n filled (LUMA g r b) e = tt
stores_names_none n filled (RUN times) e = tt
stores_names_none n filled (RGB r g b) e = tt
stores_names_none n filled (RGBA r g b a) e = tt
stores_names_none n filled Stuck e = tt

and_true : (a b : Bool) → T a → T b → T (a && b)
and_true true b s t = t
and_true false b s t = s

module _ (header : Header) where
  -- a chunk found at a place
  abbrev visit_of : Place → Chunk → Visit
  visit_of place k = record { header = header; place = place; found = k }

  -- from wherever the decoder tracks such a pen, no INDEX of some chunks names a slot not yet filled
  abbrev Named : List Pixel → Pixel → Bool → List Chunk → Type 0
  Named slots previous differed ks =
      (place : Place) (filled : List Bool) → Tracks (own_channels header) slots previous differed place filled
      → T (filled_in filled (visits_by header place ks))

  module _ {slots : List Pixel} {previous : Pixel} {differed : Bool} (place : Place) (filled : List Bool)
      (tracks : Tracks (own_channels header) slots previous differed place filled) (k : Chunk) where
    -- a chunk that names none but a filled slot, and then such chunks
    then_named :
        (ks : List Chunk) → T (names_filled (own_channels header) filled k)
        → T (filled_in (filled_after filled (visit_of place k)) (visits_by header (place_then header place k) ks))
        → T (filled_in filled (visits_by header place (k ∷ ks)))
    unfolding filled_in visits_by
    then_named ks names rest = and_true (names_filled (own_channels header) filled k) _ names rest

    -- a chunk that brings a whole pixel
    module _ (p : Pixel) (whole : Whole (own_channels header) p) (brings : colour_of place.slots place.current k ≡ p) where
      comes : pixel_after decoder (own_channels header) place k ≡ p
      unfolding pixel_after
      comes = ap (decoder.keeps (own_channels header)) brings ∙ (decoder_reads header.channels).keeps_is p whole

      -- and stores it
      tracks_stored :
          decoder_stores k ≡ true
          → Tracks (own_channels header) (set slots (slot_of p) p) p true (place_then header place k) (filled_after filled (visit_of place k))
      unfolding place_after filled_after
      tracks_stored stores =
          rw (stores, comes)
          (record {
            current = refl;
            same = ap (λ (l : List Pixel). set l (slot_of p) p) tracks.same;
            whole = whole;
            shaped = stored_shaped true slots previous p (slot_of p) tracks.shaped whole.four;
            held = λ e. get_or-set_same slots (slot_of p) p clear_pixel (omega (arith, slot_small p, tracks.shaped.slots_are));
            filled_are = length-set filled (slot_of p) true ∙ tracks.filled_are;
            fills = fills_stored (own_channels header) slots filled p tracks.filled_are tracks.fills;
          })

      -- and does not store it
      tracks_kept :
          (then : Bool) → decoder_stores k ≡ false → (then ≡ true → get_or slots (slot_of p) clear_pixel ≡ p)
          → Tracks (own_channels header) slots p then (place_then header place k) (filled_after filled (visit_of place k))
      unfolding place_after filled_after
      tracks_kept then stores held =
          rw (stores, comes)
          (record {
            current = refl;
            same = tracks.same;
            whole = whole;
            shaped = record { current_is = whole.four; slots_are = tracks.shaped.slots_are; slot_is = tracks.shaped.slot_is };
            held = held;
            filled_are = tracks.filled_are;
            fills = tracks.fills;
          })

  -- RUN
  run_named : {slots : List Pixel} {previous : Pixel} {differed : Bool} (run : ℕ) (ks : List Chunk) → Named slots previous differed ks → Named slots previous differed (RUN run ∷ ks)
  unfolding names_filled colour_of decoder_stores
  run_named {previous = previous} {differed = differed} run ks on place filled tracks =
      then_named place filled tracks (RUN run) ks tt
      (on _ _ (tracks_kept place filled tracks (RUN run) previous tracks.whole tracks.current differed refl tracks.held))

  -- INDEX of a pixel that its slot holds
  index_named :
      {slots : List Pixel} {previous : Pixel} {differed : Bool} (p : Pixel) (then : Bool) (ks : List Chunk) → Whole (own_channels header) p
      → get_or slots (slot_of p) clear_pixel ≡ p → Named slots p then ks → Named slots previous differed (INDEX (slot_of p) ∷ ks)
  unfolding colour_of decoder_stores
  index_named p then ks whole h on place filled tracks =
      then_named place filled tracks (INDEX (slot_of p)) ks (tracks.fills p whole h)
      (on _ _ (tracks_kept place filled tracks (INDEX (slot_of p)) p whole (rw tracks.same h) then refl (λ e. h)))

  -- the chunks of a pixel, with those after it
  module _ (pen : Pen) (p : Pixel) (whole : Whole (own_channels header) p) where
    -- the chunk of a differing pixel
    differing_named :
        {k : Chunk} → Differing pen p k → (ks : List Chunk) → Named (set pen.slots (slot_of p) p) p true ks
        → Named pen.slots pen.previous pen.differed (k ∷ ks)
    unfolding slot_holds
    differing_named (by_slot e) ks on place filled tracks =
        let there : get_or pen.slots (slot_of p) clear_pixel ≡ p =
        same_is (get_or pen.slots (slot_of p) clear_pixel) p (tracks.shaped.slot_is (slot_of p) (slot_small p)) whole.four e in
        let again : set pen.slots (slot_of p) p ≡ pen.slots = ap (set pen.slots (slot_of p)) (sym there) ∙ set-get_or pen.slots (slot_of p) clear_pixel in
        index_named p true ks whole there (rw again at on) place filled tracks
    differing_named by_colour ks on place filled tracks =
        let k = colour_chunk pen.previous p in
        let chosen = colour_chosen (own_channels header) pen.previous p (three_at_least header.channels) tracks.whole whole in
        then_named place filled tracks k ks (stores_names_none _ filled k chosen.stores)
        (on _ _ (tracks_stored place filled tracks k p whole (rw tracks.current (chosen.brings place.slots)) chosen.stores))

    -- a run that it ends
    ended_named :
        {ks : List Chunk} → Ended pen ks → (later : List Chunk) → Named pen.slots pen.previous pen.differed later
        → Named pen.slots pen.previous pen.differed (ks ++ later)
    ended_named (no_run e) later on = on
    ended_named (as_index e d) later on =
        λ place filled tracks.
        index_named pen.previous pen.differed later tracks.whole (tracks.held d) on place filled tracks
    ended_named (as_run some) later on = run_named pen.run later on

    -- whichever they are
    penned_named :
        {last : Bool} {ks : List Chunk} {then : Pen} → Penned pen last p ks then → (later : List Chunk)
        → Named then.slots then.previous then.differed later → Named pen.slots pen.previous pen.differed (ks ++ later)
    penned_named (held_back e kept) later on = on
    penned_named (run_is_written e) later on = run_named (pen.run + 1) later on
    penned_named differs later on =
        rw (append_assoc (run_ended pen) (differing_chunk pen p ∷ []) later)
        (ended_named (ended pen) (differing_chunk pen p ∷ later) (differing_named (differing pen p) later on))

  -- the chunks of some pixels
  chunks_named :
      (ps : List Pixel) → Wholes (own_channels header) ps → (pen : Pen)
      → Named pen.slots pen.previous pen.differed (chunks_from pen ps)
  unfolding chunks_from filled_in visits_by
  chunks_named [] wholes pen = λ place filled tracks. tt
  chunks_named (p ∷ rest) wholes pen =
      let then = pen_after pen (is_last rest) p in
      penned_named pen p wholes.0 (penned pen (is_last rest) p) (chunks_from then rest) (chunks_named rest wholes.1 then)

  -- from the start
  pub start_filled :
      (ps : List Pixel) → Wholes (own_channels header) ps → T (filled_in (replicate 64 false) (visits_by header start_place (chunks_from start_pen ps)))
  start_filled ps wholes = chunks_named ps wholes start_pen start_place (replicate 64 false) (start_tracks header.channels)
