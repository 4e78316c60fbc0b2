-- The strict check accepts exactly if a decode accepts, no run is longer than the pixels left and nothing follows the
-- marker; and it counts what was read.
-- Assumes nothing.
use Rattle.std.specs.Prelude.{Result, Ok, Err}
use mathlib.Core.Path.{◌≡◌, refl, sym, ◌∙◌, ap}
use mathlib.Core.Bool.{Bool, true, false, cond, not}
use mathlib.Core.List.{List, [], ◌∷◌}
use Prim.{tt}
use Prim.Native.Nat.{ℕ, zero, suc, ◌+◌, ◌-◌, ◌≤◌, min}
use native.Mathlib.Nat.{add-zero, zero-add}
use native.Mathlib.Omega.{arith}
use borrow.Author.Tests.{ltb-true, ltb-false, leb-true, le-ltb, ne_eqb, eq-eqb}
use lib.Dec.{T, ltb, leb, eqb}
use lib.ListN.{length, drop, length-drop}
use Rattle.pixel.specs.declared.Pixel.{Pixel}
use Rattle.pixel.specs.declared.error.Error.{Error}
use Rattle.pixel.specs.declared.error.Error.TheVariants.{InvalidPadding, OutputBufferTooSmall, RunPastImage, BytesAfterMarker}
use Rattle.pixel.specs.Refusal.{ended_early}
use Rattle.pixel.specs.declared.types.Channels.{Channels}
use Rattle.pixel.specs.Colour.{start_pixel}
use Rattle.pixel.specs.Types.{channels_number, channels_from}
use Rattle.header.specs.declared.Header.{Header}
use Rattle.header.specs.Header.{pixel_count, header_of}
use Rattle.rules.specs.Chunk.{Chunk, Found, cut, chunk, chunk_at, times_of, size_of, INDEX, DIFF, LUMA, RUN, RGB, RGBA, Stuck}
use Rattle.rules.specs.Bytes.{same_bytes}
use Rattle.rules.specs.Reading.{Place, Answer, done, refused, Move, silent, read_on, marker, closing, start_place, size_wanted, pixels_brought, place_after, move_by, move, reading, remaining, reading_into, after_wanted, after_header, whole_reading}
use Rattle.rules.specs.Decode.{decoder, decoder_reads_rgba, decoding, rest_of}
use Rattle.rules.specs.Trace.{Visit, own_channels, visits_on, chunk_due, visits, trace}
use Rattle.rules.specs.Strict.{StrictAnswer, accepted, rejected, Tally, more, end, check_on, strict_closed, strict_closing, strict_counted, strict_by, strict_move, strict_from, strict_header, strict, runs_fit_in, chunk_count}
use Rattle.demands.specs.Strict.{Passes, MustPass}
use Rattle.rules.proofs.StuckLaws.{stuck_is_refused}
use Rattle.rules.proofs.TraceLaws.{refused_is_not_done, whole_is, remaining_is, trace_is}

-- a rejection is no acceptance
rejected_is_not_accepted : {e : Error} {header : Header} {chunks used : ℕ} → rejected e ≡ accepted header chunks used → ⊥
rejected_is_not_accepted p = let z : ◌≡◌ {A = ℕ} 0 1 = cc in omega arith

-- where two accepting answers are one they have used the same bytes
done_used : {size used size' used' : ℕ} → done size used ≡ done size' used' → used ≡ used'
done_used p = cc

-- the pixels left are none exactly where the pixel position has reached them
none_left : (pixel count : ℕ) → eqb (count - pixel) 0 ≡ not (ltb pixel count)
none_left pixel count = go (ltb pixel count) refl
  where
    go : (b : Bool) → ltb pixel count ≡ b → eqb (count - pixel) 0 ≡ not b
    go true e = ne_eqb (count - pixel) 0 (λ z. omega (arith, ltb-true))
    go false e = eq-eqb (count - pixel) 0 (omega (arith, ltb-false))

module _ (header : Header) (message : List ℕ) (wanted : ℕ) where
  -- what the strict check says, after `chunks` chunks, of a part of a reading that ends so and of the chunks in it
  data Verdict (chunks : ℕ) (says : StrictAnswer) (ends : Answer) (read : List Visit) : Type 0 where
    passes :
        says ≡ accepted header (chunks + length read) (length message) → ends ≡ done (size_wanted header wanted) (length message)
        → T (runs_fit_in read) → Verdict chunks says ends read
    fails :
        (e : Error) → says ≡ rejected e
        → ((size used : ℕ) → ends ≡ done size used → length message ≤ used → T (runs_fit_in read) → ⊥)
        → Verdict chunks says ends read

  -- at the end
  closed :
      (at chunks : ℕ)
      → Verdict chunks (strict_closed header message chunks (closing 0 message at)) (closing (size_wanted header wanted) message at) []
  unfolding closing strict_closed runs_fit_in
  closed at chunks = go (ltb (length (drop at message)) 8) refl (same_bytes _ marker)
    where
      last :
          (b : Bool) → ltb (at + 8) (length message) ≡ b → 8 ≤ length (drop at message)
          → Verdict chunks (cond b (rejected BytesAfterMarker) (accepted header chunks (at + 8))) (done (size_wanted header wanted) (at + 8)) []
      last true e room =
          fails BytesAfterMarker refl
          (λ size used p whole t.
          let same = done_used p in
          omega (arith, ltb-true))
      last false e room =
          let same : at + 8 ≡ length message = omega (arith, ltb-false, simp length-drop at room) in
          rw same (passes (ap (λ (n : ℕ). accepted header n (length message)) (omega arith)) refl tt)

      go :
          (short : Bool) → ltb (length (drop at message)) 8 ≡ short → (marked : Bool)
          → Verdict chunks
          (strict_closed header message chunks (cond short (refused ended_early) (cond marked (done 0 (at + 8)) (refused InvalidPadding))))
          (cond short (refused ended_early) (cond marked (done (size_wanted header wanted) (at + 8)) (refused InvalidPadding))) []
      go true e marked = fails _ refl (λ size used p whole t. refused_is_not_done p)
      go false e true = last (ltb (at + 8) (length message)) refl (ltb-false _ _ e)
      go false e false = fails _ refl (λ size used p whole t. refused_is_not_done p)

  -- a verdict on what follows a chunk that fits is one on both
  one_more :
      (chunks : ℕ) (says : StrictAnswer) (ends : Answer) (v : Visit) (read : List Visit)
      → leb (times_of v.found) (pixel_count v.header - v.place.pixel) ≡ true
      → Verdict (chunks + 1) says ends read → Verdict chunks says ends (v ∷ read)
  unfolding runs_fit_in
  one_more chunks says ends v read fits (passes s a t) =
      passes (s ∙ ap (λ (n : ℕ). accepted header n (length message)) (omega arith)) a (rw fits t)
  one_more chunks says ends v read fits (fails e s wrong) =
      fails e s (λ size used p whole t. wrong size used p whole (rw fits at t))

  -- the check's count and a reading's place, at one byte and one pixel
  abbrev tally_at : ℕ → ℕ → ℕ → Tally
  tally_at at pixel chunks = record { at = at; left = pixel_count header - pixel; chunks = chunks }

  abbrev place_at : ℕ → ℕ → Pixel → List Pixel → Place
  place_at at pixel current slots = record { at = at; pixel = pixel; current = current; slots = slots }

  -- a verdict from any such place; the reading at wanted channels and the trace at the header's own have pixels of
  -- their own
  abbrev Judged : ℕ → Type 0
  Judged n =
      (at pixel chunks : ℕ) (p q : Pixel) (ps qs : List Pixel)
      → Verdict chunks (strict_from header message n (tally_at at pixel chunks))
      (reading decoder header wanted message n (place_at at pixel p ps)).answer (visits header message n (place_at at pixel q qs))

  module _ (n : ℕ) (judged : Judged n) (at pixel chunks : ℕ) (p q : Pixel) (ps qs : List Pixel) where
    -- a chunk that is counted
    by_count :
        (k : Chunk)
        → Verdict chunks (check_on (strict_from header message n) (strict_counted header message (tally_at at pixel chunks) k))
        (reading decoder header wanted message n (place_after decoder header wanted (place_at at pixel p ps) k)).answer
        (visits_on header (visits header message n) (place_at at pixel q qs) (chunk k))
    unfolding strict_counted visits_on place_after pixels_brought runs_fit_in
    by_count k = go (leb (times_of k) (pixel_count header - pixel)) refl
      where
        read : List Visit
        read = visits header message n (place_after decoder header (own_channels header) (place_at at pixel q qs) k)

        visit : Visit
        visit = record { header = header; place = place_at at pixel q qs; found = k }

        go :
            (b : Bool) → leb (times_of k) (pixel_count header - pixel) ≡ b
            → Verdict chunks
            (check_on (strict_from header message n)
            (cond b (more (record { at = at + size_of k; left = pixel_count header - pixel - times_of k; chunks = chunks + 1 })) (end (rejected RunPastImage))))
            (reading decoder header wanted message n (place_after decoder header wanted (place_at at pixel p ps) k)).answer
            (visit ∷ read)
        go true e =
            let left : pixel_count header - pixel - times_of k ≡ pixel_count header - (pixel + min (times_of k) (pixel_count header - pixel)) =
            omega (arith, leb-true) in
            rw left (one_more chunks _ _ visit read e (judged _ _ _ _ _ _ _))
        go false e = fails RunPastImage refl (λ size used d whole t. absurd (rw e at t))

    -- what is found where a pixel is missing: cut is 1 on both sides, a stuck ff is 8
    by_found :
        (f : Found) → chunk_at (decoder_reads_rgba (own_channels header)) (drop at message) ≡ f
        → Verdict chunks (check_on (strict_from header message n) (strict_by header message (tally_at at pixel chunks) f))
        (read_on (reading decoder header wanted message n) (move_by decoder header wanted (place_at at pixel p ps) f)).answer
        (visits_on header (visits header message n) (place_at at pixel q qs) f)
    unfolding strict_by move_by visits_on place_after size_of
    by_found cut is = fails _ refl (λ size used d whole t. refused_is_not_done d)
    by_found (chunk (INDEX slot)) is = by_count (INDEX slot)
    by_found (chunk (DIFF r g b)) is = by_count (DIFF r g b)
    by_found (chunk (LUMA g r b)) is = by_count (LUMA g r b)
    by_found (chunk (RUN times)) is = by_count (RUN times)
    by_found (chunk (RGB r g b)) is = by_count (RGB r g b)
    by_found (chunk (RGBA r g b a)) is = by_count (RGBA r g b a)
    by_found (chunk Stuck) is =
        fails InvalidPadding refl
        (λ size used d whole t.
        refused_is_not_done (sym (stuck_is_refused decoder header wanted message n (place_after decoder header wanted (place_at at pixel p ps) Stuck) still) ∙ d))
      where
        still : chunk_at (decoder_reads_rgba (own_channels header)) (drop (place_after decoder header wanted (place_at at pixel p ps) Stuck).at message) ≡ chunk Stuck
        still = rw add-zero is

  -- every part of a reading is judged
  judge : (n : ℕ) → Judged n
  unfolding strict_from strict_closing strict_move reading move visits chunk_due visits_on
  judge zero at pixel chunks p q ps qs = closed at chunks
  judge (suc n) at pixel chunks p q ps qs =
      rw (none_left pixel (pixel_count header)) (go (judge n) (ltb pixel (pixel_count header)))
    where
      found : Found
      found = chunk_at (decoder_reads_rgba (own_channels header)) (drop at message)

      go :
          Judged n → (b : Bool)
          → Verdict chunks
          (check_on (strict_from header message n)
          (cond (not b) (end (strict_closed header message chunks (closing 0 message at))) (strict_by header message (tally_at at pixel chunks) found)))
          (read_on (reading decoder header wanted message n)
          (cond b (move_by decoder header wanted (place_at at pixel p ps) found) (Move.end (closing (size_wanted header wanted) message at)))).answer
          (visits_on header (visits header message n) (place_at at pixel q qs) (cond b found cut))
      go judged true = by_found n judged at pixel chunks p q ps qs found refl
      go judged false = closed at chunks

-- the verdict on a whole message whose header is known
whole_verdict :
    (m : List ℕ) (header : Header) (wanted : ℕ) → header_of m ≡ Ok header
    → Verdict header m wanted 0 (strict m) (remaining decoder header wanted m start_place).answer (trace m)
unfolding strict strict_header start_place
whole_verdict m header wanted reads =
    let start : pixel_count header - 0 ≡ pixel_count header = omega arith in
    rw (reads, trace_is m header reads, remaining_is decoder m header wanted)
    (rw start at (judge header m wanted (pixel_count header) 14 0 0 start_pixel start_pixel start_place.slots start_place.slots))

-- what a decode that accepts has read
record Opened (m : List ℕ) (w room size used : ℕ) : Type 0 where
  header : Header
  channels : Channels
  reads : header_of m ≡ Ok header
  ends : (remaining decoder header (channels_number channels) m start_place).answer ≡ done size used

opened : (m : List ℕ) (w room size used : ℕ) → (decoding m w room).answer ≡ done size used → Opened m w room size used
unfolding whole_reading after_header after_wanted reading_into
opened m w room size used = heading (header_of m) refl
  where
    roomy :
        (header : Header) (c : Channels) → header_of m ≡ Ok header → (b : Bool)
        → (cond b (silent (refused (OutputBufferTooSmall room (size_wanted header (channels_number c))))) (remaining decoder header (channels_number c) m start_place)).answer
        ≡ done size used → Opened m w room size used
    roomy header c reads true e = absurd (refused_is_not_done e)
    roomy header c reads false e = record { header = header; channels = c; reads = reads; ends = e }

    wanting :
        (header : Header) → header_of m ≡ Ok header → (c : Result Channels Error) → (after_wanted decoder m room header c).answer ≡ done size used
        → Opened m w room size used
    wanting header reads (Err x) e = absurd (refused_is_not_done e)
    wanting header reads (Ok c) e = roomy header c reads (ltb room (size_wanted header (channels_number c))) e

    heading : (r : Result Header Error) → header_of m ≡ r → (after_header decoder m room w r).answer ≡ done size used → Opened m w room size used
    heading (Err x) reads e = absurd (refused_is_not_done e)
    heading (Ok header) reads e = wanting header reads (channels_from w) e

-- what an accepting verdict tells
record Told (h header : Header) (m : List ℕ) (wanted chunks bytes : ℕ) (ends : Answer) (read : List Visit) : Type 0 where
  same : h ≡ header
  counts : chunks ≡ length read
  whole : bytes ≡ length m
  ends_well : ends ≡ done (size_wanted h wanted) bytes
  fit : T (runs_fit_in read)

told :
    (h header : Header) (m : List ℕ) (wanted chunks bytes : ℕ) (says : StrictAnswer) (ends : Answer) (read : List Visit)
    → says ≡ accepted header chunks bytes → Verdict h m wanted 0 says ends read → Told h header m wanted chunks bytes ends read
told h header m wanted chunks bytes says ends read e (passes s d fit) =
    let p : accepted h (0 + length read) (length m) ≡ accepted header chunks bytes = sym s ∙ e in
    let whole : bytes ≡ length m = cc in
    let count : 0 + length read ≡ chunks = cc in
    record { same = cc; counts = sym count ∙ zero-add (length read); whole = whole; ends_well = rw whole d; fit = fit }
told h header m wanted chunks bytes says ends read e (fails x s wrong) = absurd (rejected_is_not_accepted (sym s ∙ e))

-- what the strict check accepts passes
pub strict_accepts : (m : List ℕ) (header : Header) (chunks bytes : ℕ) → strict m ≡ accepted header chunks bytes → Passes m header chunks bytes
unfolding strict strict_header reading_into
strict_accepts m header chunks bytes says = heading (header_of m) refl says
  where
    heading : (r : Result Header Error) → header_of m ≡ r → strict_header m r ≡ accepted header chunks bytes → Passes m header chunks bytes
    heading (Err x) reads e = absurd (rejected_is_not_accepted e)
    heading (Ok h) reads e = rw (← (at h.channels).same) passed
      where
        at : (c : Channels) → Told h header m (channels_number c) chunks bytes (remaining decoder h (channels_number c) m start_place).answer (trace m)
        at c = told h header m (channels_number c) chunks bytes (strict m) _ (trace m) says (whole_verdict m h (channels_number c) reads)

        passed : Passes m h chunks bytes
        passed =
            record {
              reads = reads;
              decodes = λ c room fits.
                  rw (whole_is decoder m h c room reads, le-ltb room (size_wanted h (channels_number c)) fits) (at c).ends_well;
              runs = (at h.channels).fit;
              whole = (at h.channels).whole;
              counts = (at h.channels).counts;
            }

-- and it accepts what must pass
pub strict_must_accept : (m : List ℕ) → MustPass m
unfolding rest_of
strict_must_accept m w room size used e runs nothing-follows =
    let o = opened m w room size used e in
    go o (whole_verdict m o.header (channels_number o.channels) o.reads)
  where
    enough : length m ≤ used
    enough = omega (arith, simp length-drop at (ap length nothing-follows))

    go :
        (o : Opened m w room size used)
        → Verdict o.header m (channels_number o.channels) 0 (strict m) (remaining decoder o.header (channels_number o.channels) m start_place).answer (trace m)
        → (header : Header) × (header_of m ≡ Ok header) × (strict m ≡ accepted header (chunk_count m) used)
    go o (passes says ends fit) =
        let same : length m ≡ used = done_used (sym ends ∙ o.ends) in
        (o.header, o.reads, says ∙ rw (zero-add, same))
    go o (fails x says wrong) = absurd (wrong size used o.ends enough runs)
