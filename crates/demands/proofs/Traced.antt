-- The trace of a stream of the encoder is its chunks, each in its place; they bring the picture's pixels and no more,
-- so no run is longer than the pixels left.
-- Assumes nothing.
use Rattle.std.specs.Prelude.{Ok}
use mathlib.Core.Path.{◌≡◌, refl, sym, ◌∙◌, ap}
use mathlib.Core.Bool.{Bool, true, false, cond}
use mathlib.Core.List.{List, [], ◌∷◌, ◌++◌, append_assoc}
use Prim.Native.Nat.{ℕ, zero, suc, ◌+◌, ◌-◌, ◌≤◌}
use native.Mathlib.Omega.{arith}
use borrow.Author.Tests.{le-ltb, lt-ltb, le-leb}
use lib.Dec.{T, eqb}
use lib.ListN.{length, drop}
use lib.Seq.{drop_at, drop-drop}
use Rattle.pixel.specs.declared.Pixel.{Pixel}
use Rattle.pixel.specs.Bytes.{AllBytes, pixels_from}
use Rattle.pixel.specs.Colour.{red, green, blue, alpha, wrapped_difference}
use Rattle.pixel.specs.Types.{channels_number}
use Rattle.header.specs.declared.Header.{Header}
use Rattle.header.specs.Header.{pixel_count, dimensions_fit, header_of, header_bytes}
use Rattle.header.proofs.Laws.{header_read_back, header_length, sides_fit}
use Rattle.rules.specs.Chunk.{Chunk, times_of, size_of, INDEX, DIFF, LUMA, RUN, RGB, RGBA, Stuck}
use Rattle.rules.specs.Reading.{Place, marker, start_place, pixels_brought, place_after}
use Rattle.rules.specs.Decode.{decoder, decoder_reads_rgba}
use Rattle.rules.specs.Trace.{Visit, own_channels, visits_on, chunk_due, visits, trace}
use Rattle.rules.specs.Strict.{runs_fit_in}
use Rattle.rules.specs.Encode.{Pen, start_pen, colour_chunk, diff_chunk, luma_chunk, fits_diff, fits_luma, pen_after, is_last, chunks_from, chunk_bytes, chunks_bytes, chunks_of, stream_of}
use Rattle.rules.proofs.EncodeLaws.{Writable, or_split, chunk_read_back, chunk_length}
use Rattle.rules.proofs.PenLaws.{Ended, no_run, as_index, as_run, ended, Differing, by_slot, by_colour, differing, Penned, held_back, run_is_written, differs, penned, Writables}
use Rattle.rules.proofs.PictureLaws.{pixels_count, picture_writable}
use Rattle.rules.proofs.TraceLaws.{trace_is}
use Rattle.demands.proofs.PenAndPlace.{decoder_reads}

-- how many pixels some chunks bring
unfoldable pub times_in : List Chunk → ℕ
times_in [] = 0
times_in (k ∷ ks) = times_of k + times_in ks

-- every chunk that can be written brings one at least
writable_once : (b : Bool) (k : Chunk) → Writable b k → 1 ≤ times_of k
unfolding times_of
writable_once b (INDEX slot) w = omega arith
writable_once b (DIFF r g b') w = omega arith
writable_once b (LUMA g r b') w = omega arith
writable_once b (RUN times) w = w.0
writable_once b (RGB r g b') w = omega arith
writable_once b (RGBA r g b' a) w = omega arith
writable_once b Stuck w = absurd w

module _ (header : Header) where
  -- the decoder's place after a chunk, at the header's own channels
  abbrev pub place_then : Place → Chunk → Place
  place_then place k = place_after decoder header (own_channels header) place k

  -- some chunks, each in its place, the first in this one
  unfoldable pub visits_by : Place → List Chunk → List Visit
  visits_by place [] = []
  visits_by place (k ∷ ks) = record { header = header; place = place; found = k } ∷ visits_by (place_then place k) ks

  -- they are as many as the chunks
  pub visits_count : (ks : List Chunk) (place : Place) → length (visits_by place ks) ≡ length ks
  unfolding visits_by
  visits_count [] place = refl
  visits_count (k ∷ ks) place = ap suc (visits_count ks (place_then place k))

  -- a chunk whose pixels are all missing passes as many
  pixels_then : (place : Place) (k : Chunk) → place.pixel + times_of k ≤ pixel_count header → (place_then place k).pixel ≡ place.pixel + times_of k
  unfolding place_after pixels_brought
  pixels_then place k fits = omega arith

  -- where they bring the pixels that are missing and no more, no run is longer than the pixels left
  pub visits_fit : (ks : List Chunk) (place : Place) → place.pixel + times_in ks ≡ pixel_count header → T (runs_fit_in (visits_by place ks))
  unfolding visits_by times_in runs_fit_in
  visits_fit [] place all = tt
  visits_fit (k ∷ ks) place all =
      rw (le-leb (times_of k) (pixel_count header - place.pixel) (omega arith))
      (visits_fit ks (place_then place k) (omega (arith, pixels_then place k (omega arith))))

  module _ (message : List ℕ) where
    -- the bytes after a chunk that stands at a place
    stands_then :
        (place : Place) (k : Chunk) (rest : List ℕ) → drop place.at message ≡ chunk_bytes k ++ rest
        → drop (place_then place k).at message ≡ rest
    unfolding place_after
    stands_then place k rest stands =
        sym (drop-drop (size_of k) place.at message)
        ∙ ap (drop (size_of k)) stands
        ∙ drop_at (chunk_bytes k) rest (size_of k) (chunk_length k)

    -- chunks that can be written, and bring the pixels that are missing, are what the decoder reads where their bytes
    -- stand
    pub visits_are :
        (n : ℕ) (ks : List Chunk) (place : Place) (rest : List ℕ) → Writables (decoder_reads_rgba (own_channels header)) ks
        → place.pixel + times_in ks ≡ pixel_count header → pixel_count header ≤ place.pixel + n
        → drop place.at message ≡ chunks_bytes ks ++ rest → visits header message n place ≡ visits_by place ks
    unfolding visits visits_on chunk_due visits_by times_in chunks_bytes
    visits_are zero [] place rest able all enough stands = refl
    visits_are zero (k ∷ ks) place rest able all enough stands = absurd (omega (arith, writable_once _ k able.0))
    visits_are (suc n) [] place rest able all enough stands = rw (le-ltb place.pixel (pixel_count header) (omega arith))
    visits_are (suc n) (k ∷ ks) place rest able all enough stands =
        let once = writable_once _ k able.0 in
        let here = stands ∙ append_assoc (chunk_bytes k) (chunks_bytes ks) rest in
        let then = pixels_then place k (omega arith) in
        rw (lt-ltb place.pixel (pixel_count header) (omega arith), here, chunk_read_back (decoder_reads_rgba (own_channels header)) k (chunks_bytes ks ++ rest) able.0)
        (ap (λ (l : List Visit). record { header = header; place = place; found = k } ∷ l)
        (visits_are n ks (place_then place k) rest able.1 (omega arith) (omega arith) (stands_then place k _ here)))

-- the pixels of chunks after chunks
times_append : (ks ls : List Chunk) → times_in (ks ++ ls) ≡ times_in ks + times_in ls
unfolding times_in
times_append [] ls = omega arith
times_append (k ∷ ks) ls = omega (arith, times_append ks ls)

-- the chunk of a colour brings its pixel once
colour_once : (previous p : Pixel) → times_of (colour_chunk previous p) ≡ 1
unfolding colour_chunk diff_chunk luma_chunk times_of
colour_once previous p = go (eqb (alpha p) (alpha previous)) (fits_diff r g b) (fits_luma r g b)
  where
    r : ℕ
    r = wrapped_difference (red p) (red previous)

    g : ℕ
    g = wrapped_difference (green p) (green previous)

    b : ℕ
    b = wrapped_difference (blue p) (blue previous)

    go :
        (same diff luma : Bool)
        → times_of
        (cond same (cond diff (diff_chunk r g b) (cond luma (luma_chunk r g b) (RGB (red p) (green p) (blue p))))
        (RGBA (red p) (green p) (blue p) (alpha p)))
        ≡ 1
    go true true luma = refl
    go true false true = refl
    go true false false = refl
    go false diff luma = refl

-- and so does that of a differing pixel
differing_once : {pen : Pen} {p : Pixel} {k : Chunk} → Differing pen p k → times_of k ≡ 1
unfolding times_of
differing_once (by_slot e) = refl
differing_once {pen} {p} by_colour = colour_once pen.previous p

-- the chunks of a run that is ended bring the run
ended_times : {pen : Pen} {ks : List Chunk} → Ended pen ks → times_in ks ≡ pen.run
unfolding times_in times_of
ended_times (no_run e) = omega arith
ended_times (as_index e d) = omega arith
ended_times (as_run some) = omega arith

-- the chunks of a pixel bring it and the run that was held back, less the run that is held back then
penned_times :
    {pen : Pen} {last : Bool} {p : Pixel} {ks : List Chunk} {then : Pen} → Penned pen last p ks then
    → times_in ks + then.run ≡ pen.run + 1
unfolding times_in times_of
penned_times (held_back e w) = omega arith
penned_times (run_is_written e) = omega arith
penned_times {pen} {p = p} differs =
    simp times_append (omega (arith, ended_times (ended pen), differing_once (differing pen p)))

-- after the last pixel no run is held back
last_written : {pen : Pen} {last : Bool} {p : Pixel} {ks : List Chunk} {then : Pen} → Penned pen last p ks then → last ≡ true → then.run ≡ 0
last_written {pen} {last} (held_back e w) is = cc ((or_split (eqb (pen.run + 1) 62) last w).1, is)
last_written (run_is_written e) is = refl
last_written differs is = refl

-- the chunks of some pixels bring them and the run that was held back
pub chunks_times : (ps : List Pixel) (pen : Pen) → (is_last ps ≡ true → pen.run ≡ 0) → times_in (chunks_from pen ps) ≡ pen.run + length ps
unfolding chunks_from times_in
chunks_times [] pen none = let no_run = none refl in omega arith
chunks_times (p ∷ rest) pen none =
    let kind = penned pen (is_last rest) p in
    simp times_append
    (omega (arith, penned_times kind, chunks_times rest (pen_after pen (is_last rest) p) (last_written kind)))

module _ (header : Header) (picture : List ℕ) (fit : T (dimensions_fit header.width header.height)) where
  -- the header of a stream is read
  pub stream_opens : header_of (stream_of header picture) ≡ Ok header
  unfolding stream_of
  stream_opens =
      let sides = sides_fit header fit in
      header_read_back header (chunks_bytes (chunks_of header picture) ++ marker) sides.0 sides.1 fit

  -- the chunks of a picture bring its pixels
  pub stream_times : start_place.pixel + times_in (chunks_of header picture) ≡ pixel_count header
  unfolding start_place start_pen chunks_of
  stream_times =
      let n = channels_number header.channels in
      omega (arith, chunks_times (pixels_from (pixel_count header) n picture) start_pen (λ last. refl), pixels_count (pixel_count header) n picture)

  -- its chunks stand after the header
  pub chunks_stand : drop start_place.at (stream_of header picture) ≡ chunks_bytes (chunks_of header picture) ++ marker
  unfolding stream_of start_place
  chunks_stand = drop_at (header_bytes header) (chunks_bytes (chunks_of header picture) ++ marker) 14 (header_length header)

  -- the trace of a stream is its chunks
  pub stream_traced : AllBytes picture → trace (stream_of header picture) ≡ visits_by header start_place (chunks_of header picture)
  stream_traced bytes =
      trace_is (stream_of header picture) header stream_opens
      ∙ visits_are header (stream_of header picture) (pixel_count header) (chunks_of header picture) start_place marker
      (picture_writable header picture bytes (decoder_reads_rgba (own_channels header)) (decoder_reads header.channels).reads_is)
      stream_times (omega arith) chunks_stand
