-- The document's reading of an accepted message is the decoder's, at the header's own channels, if no INDEX names a
-- slot not yet filled.
-- Assumes nothing: a message's numbers need not be bytes.
use mathlib.Core.Path.{◌≡◌, refl, sym, ◌∙◌, ap}
use mathlib.Core.Bool.{Bool, true, false, cond, ◌&&◌, ◌||◌}
use mathlib.Core.List.{List}
use Prim.Native.Nat.{ℕ, zero, suc, ◌+◌}
use native.Mathlib.Omega.{arith}
use borrow.Author.Tests.{eqb-true, eqb-false}
use lib.Dec.{T, eqb, ltb, eqb→eq}
use lib.ListN.{length, get_or, set, take, drop, replicate, length-set}
use lib.Seq.{get_or-set_same, get_or-set_other}
use Rattle.pixel.specs.declared.Pixel.{Pixel}
use Rattle.pixel.specs.declared.error.Error.TheVariants.{OutputBufferTooSmall}
use Rattle.pixel.specs.declared.types.Channels.{Channels}
use Rattle.pixel.specs.declared.types.Channels.TheVariants.{Rgb, Rgba}
use Rattle.pixel.specs.Colour.{slot_of, clear_pixel, pixel_of, alpha, with_alpha}
use Rattle.pixel.specs.Types.{channels_number}
use Rattle.header.specs.declared.Header.{Header}
use Rattle.header.specs.Header.{pixel_count}
use Rattle.header.proofs.Laws.{both}
use Rattle.rules.specs.Chunk.{Chunk, Found, cut, chunk, chunk_at, colour_of, size_of, INDEX, DIFF, LUMA, RUN, RGB, RGBA, Stuck}
use Rattle.rules.specs.Bytes.{repeated}
use Rattle.rules.specs.Reading.{Place, done, refused, Reading, Move, more, end, after, silent, read_on, closing, start_place, size_wanted, pixels_brought, pixel_after, place_after, bytes_of, move_by, move, reading, reading_into}
use Rattle.rules.specs.Decode.{decoder, decoder_stores, decoder_keeps, decoder_reads_rgba}
use Rattle.rules.specs.Trace.{own_channels, visits_on, chunk_due, visits}
use Rattle.rules.specs.Document.{document, names_filled, filled_after, filled_in, indexes_filled}
use Rattle.demands.specs.Document.{DocumentAgrees}
use Rattle.rules.proofs.ChunkLaws.{slot_small}
use Rattle.rules.proofs.StuckLaws.{Allowed, allowed, Alike, alike, stuck, reads_alike, stuck_is_refused}
use Rattle.rules.proofs.TraceLaws.{refused_is_not_done, whole_is, remaining_is, trace_is}

-- a list of one thing gives it everywhere
get_or_same {ℓ} : {A : Type ℓ} (n i : ℕ) (a : A) → get_or (replicate n a) i a ≡ a
get_or_same zero i a = refl
get_or_same (suc n) zero a = refl
get_or_same (suc n) (suc i) a = get_or_same n i a

-- a proof for two numbers that are the same, and one for two that are not
if_same : {P : Type 0} (a b : ℕ) → (a ≡ b → P) → ((a ≡ b → ⊥) → P) → P
if_same {P} a b same other = go (eqb a b) refl
  where
    go : (t : Bool) → eqb a b ≡ t → P
    go true e = same (eqb-true _ _ e)
    go false e = other (eqb-false _ _ e)

-- a pixel of which the decoder keeps all
abbrev Kept : ℕ → Pixel → Type 0
Kept wanted p = decoder_keeps wanted p ≡ p

-- what is kept is kept again
kept_twice : (wanted : ℕ) (p : Pixel) → Kept wanted (decoder_keeps wanted p)
unfolding decoder_keeps
kept_twice wanted p = go (eqb wanted 3)
  where
    go : (b : Bool) → cond b (with_alpha (cond b (with_alpha p 255) p) 255) (cond b (with_alpha p 255) p) ≡ cond b (with_alpha p 255) p
    go true = refl
    go false = refl

-- a pixel with the alpha of one that is kept is kept
kept_alpha : (wanted : ℕ) (p : Pixel) (r g b : ℕ) → Kept wanted p → Kept wanted (pixel_of r g b (alpha p))
unfolding decoder_keeps
kept_alpha wanted p r g b = go (eqb wanted 3)
  where
    go : (t : Bool) → cond t (with_alpha p 255) p ≡ p → cond t (pixel_of r g b 255) (pixel_of r g b (alpha p)) ≡ pixel_of r g b (alpha p)
    go true e = ap (pixel_of r g b) (ap alpha e)
    go false e = refl

-- a slot that INDEX may name: a filled one, or slot 0 of a 4-channel source
abbrev may_name : ℕ → List Bool → ℕ → Bool
may_name channels filled slot = get_or filled slot false || (eqb channels 4 && eqb slot 0)

-- a slot of the decoder's and the same slot of the document's: one pixel, whose slot it is, and of which the decoder
-- keeps all
record SameSlot (channels i : ℕ) (d q : Pixel) : Type 0 where
  same : d ≡ q
  own : slot_of d ≡ i
  kept : Kept channels d

-- the decoder's slots and the document's agree as far as INDEX may name them; the current pixel stands in its own, if
-- it may be named
record Agree (channels : ℕ) (d q : List Pixel) (filled : List Bool) (current : Pixel) : Type 0 where
  d_are : length d ≡ 64
  q_are : length q ≡ 64
  kept : Kept channels current
  each : (i : ℕ) → T (may_name channels filled i) → SameSlot channels i (get_or d i clear_pixel) (get_or q i clear_pixel)
  stands : T (may_name channels filled (slot_of current)) → get_or d (slot_of current) clear_pixel ≡ current

-- at the start they do
start_agrees : (c : Channels) → Agree (channels_number c) start_place.slots start_place.slots (replicate 64 false) start_place.current
unfolding start_place decoder_keeps slot_of
start_agrees Rgb =
    record {
      d_are = refl;
      q_are = refl;
      kept = refl;
      each = λ i t. absurd (rw (get_or_same 64 i false) at t);
      stands = λ t. absurd t;
    }
start_agrees Rgba =
    record {
      d_are = refl;
      q_are = refl;
      kept = refl;
      each = λ i t.
          let zeroth : i ≡ 0 = eqb→eq i 0 (rw (get_or_same 64 i false) at t) in
          rw zeroth (record { same = refl; own = refl; kept = refl });
      stands = λ t. absurd t;
    }

-- the document stores a pixel
module _ (channels : ℕ) (d q : List Pixel) (filled : List Bool) (current : Pixel) (a : Agree channels d q filled current) (p : Pixel) (kept : Kept channels p) where
  -- and the decoder too
  stored : Agree channels (set d (slot_of p) p) (set q (slot_of p) p) (set filled (slot_of p) true) p
  stored =
      let s = slot_of p in
      let ds = get_or-set_same d s p clear_pixel (omega (arith, a.d_are, slot_small p)) in
      let qs = get_or-set_same q s p clear_pixel (omega (arith, a.q_are, slot_small p)) in
      record {
        d_are = length-set d s p ∙ a.d_are;
        q_are = length-set q s p ∙ a.q_are;
        kept = kept;
        each = λ i t.
            if_same i s (λ e. rw (e, ds, qs) (record { same = refl; own = refl; kept = kept }))
            (λ ne. rw (get_or-set_other d s i p clear_pixel ne, get_or-set_other q s i p clear_pixel ne) (a.each i (rw (get_or-set_other filled s i true false ne) at t)));
        stands = λ t. ds;
      }

  -- and the decoder does not, but has it in that slot already, if the slot may be named
  left_standing :
      (T (may_name channels filled (slot_of p)) → get_or d (slot_of p) clear_pixel ≡ p)
      → Agree channels d (set q (slot_of p) p) filled p
  left_standing there =
      let s = slot_of p in
      let qs = get_or-set_same q s p clear_pixel (omega (arith, a.q_are, slot_small p)) in
      record {
        d_are = a.d_are;
        q_are = length-set q s p ∙ a.q_are;
        kept = kept;
        each = λ i t.
            if_same i s
            (λ e.
            let ds = there (rw e at t) in
            rw (e, ds, qs) (record { same = refl; own = refl; kept = kept }))
            (λ ne. rw (get_or-set_other q s i p clear_pixel ne) (a.each i t));
        stands = there;
      }

module _ (header : Header) (place : Place) (q : List Pixel) (filled : List Bool) (a : Agree (own_channels header) place.slots q filled place.current) where
  -- a chunk brings the same pixel on both sides
  same_colour :
      (k : Chunk) → Allowed (decoder_reads_rgba (own_channels header)) k → T (names_filled (own_channels header) filled k)
      → pixel_after decoder (own_channels header) place k ≡ colour_of q place.current k
  unfolding pixel_after colour_of names_filled decoder_reads_rgba decoder_keeps
  same_colour (INDEX slot) may t = (a.each slot t).kept ∙ (a.each slot t).same
  same_colour (DIFF r g b) may t = kept_alpha (own_channels header) place.current _ _ _ a.kept
  same_colour (LUMA g r b) may t = kept_alpha (own_channels header) place.current _ _ _ a.kept
  same_colour (RUN times) may t = a.kept
  same_colour (RGB r g b) may t = kept_alpha (own_channels header) place.current r g b a.kept
  same_colour (RGBA r g b al) may t = go header.channels may
    where
      go : (c : Channels) → T (decoder_reads_rgba (channels_number c)) → Kept (channels_number c) (pixel_of r g b al)
      go Rgb no-rgba = absurd no-rgba
      go Rgba rgba = refl
  same_colour Stuck may t = a.kept

  -- the slots after a chunk agree
  agree_after :
      (k : Chunk) → T (names_filled (own_channels header) filled k)
      → Agree (own_channels header) (place_after decoder header (own_channels header) place k).slots
      (set q (slot_of (pixel_after decoder (own_channels header) place k)) (pixel_after decoder (own_channels header) place k))
      (filled_after filled (record { header = header; place = place; found = k })) (place_after decoder header (own_channels header) place k).current
  unfolding place_after filled_after decoder_stores names_filled pixel_after colour_of
  agree_after (INDEX slot) t =
      let it = a.each slot t in
      let p = get_or place.slots slot clear_pixel in
      rw it.kept
      (left_standing (own_channels header) place.slots q filled place.current a p it.kept (λ u. rw it.own))
  agree_after (DIFF r g b) t = stored (own_channels header) place.slots q filled place.current a _ (kept_twice _ _)
  agree_after (LUMA g r b) t = stored (own_channels header) place.slots q filled place.current a _ (kept_twice _ _)
  agree_after (RUN times) t =
      rw a.kept
      (left_standing (own_channels header) place.slots q filled place.current a place.current a.kept a.stands)
  agree_after (RGB r g b) t = stored (own_channels header) place.slots q filled place.current a _ (kept_twice _ _)
  agree_after (RGBA r g b al) t = stored (own_channels header) place.slots q filled place.current a _ (kept_twice _ _)
  agree_after Stuck t = stored (own_channels header) place.slots q filled place.current a _ (kept_twice _ _)

-- a place with other slots
abbrev with_slots : Place → List Pixel → Place
with_slots place slots = record { at = place.at; pixel = place.pixel; current = place.current; slots = slots }

module _ (header : Header) (message : List ℕ) where
  -- what the decoder reads from a place, and the document from the same place with its own slots
  abbrev decoder_from : ℕ → Place → Reading
  decoder_from n place = reading decoder header (own_channels header) message n place

  abbrev document_from : ℕ → Place → Reading
  document_from n place = reading document header (own_channels header) message n place

  -- one move of the document by a chunk that brings the same pixel
  document_moves :
      (place : Place) (q : List Pixel) (k : Chunk)
      → pixel_after decoder (own_channels header) place k ≡ colour_of q place.current k
      → move_by document header (own_channels header) (with_slots place q) (chunk k)
      ≡ more
      (with_slots (place_after decoder header (own_channels header) place k)
      (set q (slot_of (pixel_after decoder (own_channels header) place k)) (pixel_after decoder (own_channels header) place k)))
      (bytes_of decoder header (own_channels header) place k)
  unfolding move_by place_after bytes_of pixels_brought pixel_after
  document_moves place q k same = ap moved (sym same)
    where
      moved : Pixel → Move
      moved p =
          more
          (record {
            at = place.at + size_of k;
            pixel = place.pixel + pixels_brought header place k;
            current = p;
            slots = set q (slot_of p) p;
          })
          (repeated (pixels_brought header place k) (take (own_channels header) p.rgba))

  module _ (size used : ℕ) where
    -- from places that agree an accepted reading is the document's
    abbrev ReadAlike : ℕ → Type 0
    ReadAlike n =
        (place : Place) (q : List Pixel) (filled : List Bool) → Agree (own_channels header) place.slots q filled place.current
        → T (filled_in filled (visits header message n place)) → (decoder_from n place).answer ≡ done size used
        → document_from n (with_slots place q) ≡ decoder_from n place

    reads_alike_on : (n : ℕ) → ReadAlike n
    unfolding reading visits visits_on move move_by chunk_due filled_in
    reads_alike_on zero place q filled a t accepted = refl
    reads_alike_on (suc n) place q filled a t accepted = test (ltb place.pixel (pixel_count header)) (reads_alike_on n) t accepted
      where
        w : ℕ
        w = own_channels header

        part : List ℕ
        part = drop place.at message

        -- the same chunk, or one that is stuck, which no accepted reading meets
        by_chunk :
            (k : Chunk) → ReadAlike n → chunk_at (decoder_reads_rgba w) part ≡ chunk k
            → T (filled_in filled (visits_on header (visits header message n) place (chunk k)))
            → (decoder_from n (place_after decoder header w place k)).answer ≡ done size used → Alike part k
            → read_on (document_from n) (move_by document header w (with_slots place q) (chunk_at true part))
            ≡ after (bytes_of decoder header w place k) (decoder_from n (place_after decoder header w place k))
        by_chunk k ih is t e (alike same) =
            let ts = both (names_filled w filled k) _ t in
            let same-pixel = same_colour header place q filled a k (allowed (decoder_reads_rgba w) part k is) ts.0 in
            let next = ih (place_after decoder header w place k) _ _ (agree_after header place q filled a k ts.0) ts.1 e in
            ap (read_on (document_from n)) (ap (move_by document header w (with_slots place q)) same ∙ document_moves place q k same-pixel)
            ∙ ap (after (bytes_of decoder header w place k)) next
        by_chunk k ih is t e (stuck at-stuck) =
            let at-ff : chunk_at (decoder_reads_rgba w) part ≡ chunk Stuck = is ∙ ap chunk at-stuck in
            absurd (refused_is_not_done (sym (stuck_is_refused decoder header w message (suc n) place at-ff) ∙ accepted))

        by_found :
            (f : Found) → ReadAlike n → chunk_at (decoder_reads_rgba w) part ≡ f
            → T (filled_in filled (visits_on header (visits header message n) place f))
            → (read_on (decoder_from n) (move_by decoder header w place f)).answer ≡ done size used
            → read_on (document_from n) (move_by document header w (with_slots place q) (chunk_at true part))
            ≡ read_on (decoder_from n) (move_by decoder header w place f)
        by_found cut ih is t e = absurd (refused_is_not_done e)
        by_found (chunk k) ih is t e = by_chunk k ih is t e (reads_alike (decoder_reads_rgba w) part k is)

        last : Move
        last = end (closing (size_wanted header w) message place.at)

        test :
            (b : Bool) → ReadAlike n
            → T (filled_in filled (visits_on header (visits header message n) place (cond b (chunk_at (decoder_reads_rgba w) part) cut)))
            → (read_on (decoder_from n) (cond b (move_by decoder header w place (chunk_at (decoder_reads_rgba w) part)) last)).answer ≡ done size used
            → read_on (document_from n) (cond b (move_by document header w (with_slots place q) (chunk_at true part)) last)
            ≡ read_on (decoder_from n) (cond b (move_by decoder header w place (chunk_at (decoder_reads_rgba w) part)) last)
        test true ih t e = by_found (chunk_at (decoder_reads_rgba w) part) ih refl t e
        test false ih t e = refl

-- into any room
into_agrees :
    (m : List ℕ) (header : Header) (room size used : ℕ) → T (filled_in (replicate 64 false) (visits header m (pixel_count header) start_place))
    → (reading_into decoder header (own_channels header) m room).answer ≡ done size used
    → reading_into document header (own_channels header) m room ≡ reading_into decoder header (own_channels header) m room
unfolding reading_into
into_agrees m header room size used filled =
    rw (remaining_is decoder m header (own_channels header), remaining_is document m header (own_channels header))
    (go (ltb room (size_wanted header (own_channels header))))
  where
    short : Reading
    short = silent (refused (OutputBufferTooSmall room (size_wanted header (own_channels header))))

    go :
        (b : Bool) → (cond b short (decoder_from header m (pixel_count header) start_place)).answer ≡ done size used
        → cond b short (document_from header m (pixel_count header) start_place)
        ≡ cond b short (decoder_from header m (pixel_count header) start_place)
    go true e = refl
    go false e =
        reads_alike_on header m size used (pixel_count header) start_place start_place.slots (replicate 64 false) (start_agrees header.channels) filled e

-- (b): the document's reading of an accepted message is the decoder's
pub document_agrees : (m : List ℕ) → DocumentAgrees m
unfolding indexes_filled
document_agrees m header room size used reads accepted filled =
    rw (whole_is decoder m header header.channels room reads, whole_is document m header header.channels room reads)
    (into_agrees m header room size used (rw (trace_is m header reads) at filled)
    (rw (whole_is decoder m header header.channels room reads) at accepted))
