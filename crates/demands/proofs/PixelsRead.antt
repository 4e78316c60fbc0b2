-- The encoder's chunks read back, over every way that reads them: the pixels of the run that the pen holds back and
-- the pixels to come, and then the marker.
-- Assumes nothing.
use mathlib.Core.Path.{◌≡◌, refl, sym, ◌∙◌, ap}
use mathlib.Core.Bool.{Bool, true, false}
use mathlib.Core.List.{List, [], ◌∷◌, ◌++◌, append_assoc}
use Prim.Native.Nat.{ℕ, zero, suc, ◌+◌, ◌-◌, ◌≤◌, zero-le}
use native.Mathlib.Numerals.{add-one}
use native.Mathlib.Omega.{arith}
use borrow.Author.Tests.{eqb-false}
use lib.Dec.{eqb}
use lib.ListN.{length, take, drop, set, length-drop}
use Rattle.pixel.specs.declared.Pixel.{Pixel}
use Rattle.pixel.specs.Colour.{slot_of}
use Rattle.pixel.specs.Types.{channels_number}
use Rattle.header.specs.declared.Header.{Header}
use Rattle.header.specs.Header.{pixel_count}
use Rattle.rules.specs.Chunk.{Chunk, RUN}
use Rattle.rules.specs.Bytes.{repeated, same_bytes}
use Rattle.rules.specs.Reading.{Way, Place, Reading, done, marker, after, closing, size_wanted, reading, remaining}
use Rattle.rules.specs.Encode.{Pen, run_ended, differing_chunk, run_written, pixel_chunks, with_run, with_pixel, pen_after, is_last, chunks_from, chunk_bytes, chunks_bytes}
use Rattle.rules.proofs.EncodeLaws.{Whole, Wholes, same_is, or_split, chunks_append}
use Rattle.rules.proofs.PenLaws.{Penned, held_back, run_is_written, differs, penned}
use Rattle.rules.proofs.PictureLaws.{written}
use Rattle.demands.proofs.PenAndPlace.{Reads, Meets, Reached, run_reaches, ended_reaches, differing_reaches}

-- once more
repeated_suc : (n : ℕ) (x y : List ℕ) → repeated (suc n) x ++ y ≡ repeated n x ++ (x ++ y)
unfolding repeated
repeated_suc zero x y = append_assoc x [] y
repeated_suc (suc n) x y = append_assoc x (repeated (suc n) x) y ∙ ap (x ++◌) (repeated_suc n x y) ∙ sym (append_assoc x (repeated n x) (x ++ y))

repeated_more : (n : ℕ) (x y : List ℕ) → repeated (n + 1) x ++ y ≡ repeated n x ++ (x ++ y)
repeated_more n x y = rw add-one (repeated_suc n x y)

module _ (way : Way) (header : Header) (wanted : ℕ) (same : channels_number header.channels ≡ wanted) (some : 3 ≤ wanted) (reads : Reads way wanted) (message : List ℕ) where
  -- the whole message is used
  abbrev finished : List ℕ → Reading
  finished bytes = record { answer = done (size_wanted header wanted) (length message); bytes = bytes }

  -- what is read from a place that meets a pen: the pixels of the run that the pen holds back, and then those to come
  abbrev ReadsOn : List Pixel → Type 0
  ReadsOn ps =
      (pen : Pen) (place : Place) → Meets wanted pen.slots pen.previous pen.differed place → Wholes wanted ps
      → pen.run ≤ 61 → (is_last ps ≡ true → pen.run ≡ 0) → place.pixel + pen.run + length ps ≡ pixel_count header
      → drop place.at message ≡ chunks_bytes (chunks_from pen ps) ++ marker
      → remaining way header wanted message place
      ≡ finished (repeated pen.run (take wanted pen.previous.rgba) ++ written wanted ps)

  -- with no pixel to come the marker stands there
  marker_read : ReadsOn []
  unfolding reading closing same_bytes chunks_from chunks_bytes repeated written
  marker_read pen place meets wholes few none count stands =
      let no_run = none refl in
      let nothing_left : pixel_count header - place.pixel ≡ 0 = omega arith in
      let all-used : place.at + 8 ≡ length message = omega (arith, simp length-drop at (ap length stands)) in
      rw (nothing_left, no_run, stands, all-used)

  -- what a reach brings, and then what is read from where it leads
  reached_read :
      {slots : List Pixel} {previous : Pixel} {differed : Bool} {place : Place} {times : ℕ} {p : Pixel} {rest more : List ℕ}
      (reached : Reached way header wanted message slots previous differed place times p rest)
      → remaining way header wanted message reached.next ≡ finished more
      → remaining way header wanted message place ≡ finished (repeated times (take wanted p.rgba) ++ more)
  reached_read {times = times} {p = p} reached then =
      reached.read ∙ ap (after (repeated times (take wanted p.rgba))) then

  -- a pixel, with those after it
  module _ (p : Pixel) (rest : List Pixel) (on : ReadsOn rest) (pen : Pen) (place : Place)
      (meets : Meets wanted pen.slots pen.previous pen.differed place) (whole : Whole wanted p) (wholes : Wholes wanted rest)
      (few : pen.run ≤ 61) (count : place.pixel + pen.run + suc (length rest) ≡ pixel_count header) where
    -- what is to be read
    abbrev goal : Type 0
    goal =
        remaining way header wanted message place
        ≡ finished (repeated pen.run (take wanted pen.previous.rgba) ++ (take wanted p.rgba ++ written wanted rest))

    -- a pixel equal to its predecessor is one more of the run
    one_more :
        p ≡ pen.previous
        → repeated (pen.run + 1) (take wanted pen.previous.rgba) ++ written wanted rest
        ≡ repeated pen.run (take wanted pen.previous.rgba) ++ (take wanted p.rgba ++ written wanted rest)
    one_more e = rw e (repeated_more pen.run (take wanted pen.previous.rgba) (written wanted rest))

    -- a run that is held back
    held_read :
        p ≡ pen.previous → run_written pen (is_last rest) ≡ false
        → drop place.at message
        ≡ chunks_bytes (chunks_from (with_run pen (pen.run + 1)) rest) ++ marker
        → goal
    held_read e kept stands =
        let tests = or_split (eqb (pen.run + 1) 62) (is_last rest) kept in
        let not_full : pen.run + 1 ≡ 62 → ⊥ = eqb-false _ _ tests.0 in
        on (with_run pen (pen.run + 1)) place meets wholes
        (omega arith) (λ last. cc (tests.1, last)) (omega arith) stands
        ∙ ap finished (one_more e)

    -- a run that is written
    run_read :
        p ≡ pen.previous
        → drop place.at message ≡ chunk_bytes (RUN (pen.run + 1)) ++ (chunks_bytes (chunks_from (with_run pen 0) rest) ++ marker)
        → goal
    unfolding repeated
    run_read e stands =
        let reached =
        run_reaches way header wanted same reads message pen.slots pen.previous pen.differed place (pen.run + 1) _ meets (omega arith) (omega arith) stands (omega arith) in
        reached_read reached
        (on (with_run pen 0) reached.next reached.meets wholes zero-le (λ last. refl) (omega (arith, reached.pixel)) reached.stands)
        ∙ ap finished (one_more e)

    -- where a differing pixel stands, it and the pixels after it are read
    stored_read :
        (here : Place) → here.pixel ≡ place.pixel + pen.run
        → Reached way header wanted message (set pen.slots (slot_of p) p) p true here 1 p (chunks_bytes (chunks_from (with_pixel pen p) rest) ++ marker)
        → remaining way header wanted message here ≡ finished (take wanted p.rgba ++ written wanted rest)
    unfolding repeated
    stored_read here pixel reached =
        reached_read reached
        (on (with_pixel pen p) reached.next reached.meets wholes zero-le (λ last. refl) (omega (arith, reached.pixel)) reached.stands)
        ∙ ap finished (append_assoc (take wanted p.rgba) [] (written wanted rest))

    -- a differing pixel, after the run that it ends
    differing_read :
        drop place.at message
        ≡ chunks_bytes (run_ended pen)
        ++ (chunk_bytes (differing_chunk pen p) ++ (chunks_bytes (chunks_from (with_pixel pen p) rest) ++ marker))
        → goal
    differing_read stands =
        let ended = ended_reaches way header wanted same reads message pen place _ meets (omega arith) stands (omega arith) in
        reached_read ended
        (stored_read ended.next ended.pixel
        (differing_reaches way header wanted same reads message pen ended.next p _ some ended.meets whole ended.stands (omega (arith, ended.pixel))))

    -- a pixel's chunks, whichever they are
    pixel_read :
        drop place.at message
        ≡ chunks_bytes (pixel_chunks pen (is_last rest) p) ++ (chunks_bytes (chunks_from (pen_after pen (is_last rest) p) rest) ++ marker)
        → goal
    unfolding chunks_bytes
    pixel_read stands = go (pixel_chunks pen (is_last rest) p) (pen_after pen (is_last rest) p) (penned pen (is_last rest) p) stands
      where
        go :
            (ks : List Chunk) (then : Pen) → Penned pen (is_last rest) p ks then
            → drop place.at message ≡ chunks_bytes ks ++ (chunks_bytes (chunks_from then rest) ++ marker) → goal
        go ks then (held_back e kept) stands = held_read (same_is p pen.previous whole.four meets.whole.four e) kept stands
        go ks then (run_is_written e) stands =
            run_read (same_is p pen.previous whole.four meets.whole.four e) (stands ∙ append_assoc (chunk_bytes (RUN (pen.run + 1))) [] _)
        go ks then differs stands =
            differing_read
            (stands
            ∙ rw (chunks_append (run_ended pen) (differing_chunk pen p ∷ []))
            (append_assoc (chunks_bytes (run_ended pen)) (chunk_bytes (differing_chunk pen p) ++ []) _
            ∙ ap (chunks_bytes (run_ended pen) ++◌) (append_assoc (chunk_bytes (differing_chunk pen p)) [] _)))

  -- all pixels
  pub pixels_read : (ps : List Pixel) → ReadsOn ps
  unfolding chunks_from written
  pixels_read [] = marker_read
  pixels_read (p ∷ rest) =
      λ pen place meets wholes few none count stands.
      pixel_read p rest (pixels_read rest) pen place meets wholes.0 wholes.1 few count
      (stands
      ∙ rw (chunks_append (pixel_chunks pen (is_last rest) p) (chunks_from (pen_after pen (is_last rest) p) rest))
      (append_assoc (chunks_bytes (pixel_chunks pen (is_last rest) p)) (chunks_bytes (chunks_from (pen_after pen (is_last rest) p) rest)) marker))
