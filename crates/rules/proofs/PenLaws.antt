-- The encoder pixel by pixel: the kinds of chunk that it chooses and the pen after them; each can be written, and how
-- many bytes they take.
-- Assumes nothing.
use mathlib.Core.Path.{◌≡◌, refl}
use mathlib.Core.Bool.{Bool, true, false, cond, ◌&&◌}
use mathlib.Core.List.{List, [], ◌∷◌, ◌++◌}
use Prim.Native.Nat.{ℕ, ◌+◌, ◌*◌, ◌≤◌, zero-le}
use native.Mathlib.Nat.{suc-mul}
use native.Mathlib.Omega.{arith}
use borrow.Author.Tests.{eqb-true, eqb-false}
use lib.Dec.{eqb}
use lib.ListN.{length, length-append}
use Rattle.pixel.specs.declared.Pixel.{Pixel}
use Rattle.pixel.specs.Colour.{slot_of, same_pixel}
use Rattle.rules.specs.Chunk.{Chunk, size_of, INDEX, RUN}
use Rattle.rules.specs.Encode.{Pen, run_ended, slot_holds, differing_chunk, colour_chunk, run_written, pixel_chunks, with_run, with_pixel, pen_after, is_last, chunks_from, chunk_bytes, chunks_bytes}
use Rattle.rules.proofs.ChunkLaws.{slot_small}
use Rattle.rules.proofs.EncodeLaws.{Writable, Whole, Wholes, colour_chosen, and_split, or_split, chunk_length, chunks_append}

-- a run that another pixel ends: none, one that is INDEX, or RUN
pub data Ended (pen : Pen) : List Chunk → Type 0 where
  no_run : pen.run ≡ 0 → Ended pen []
  as_index : pen.run ≡ 1 → pen.differed ≡ true → Ended pen (INDEX (slot_of pen.previous) ∷ [])
  as_run : 1 ≤ pen.run → Ended pen (RUN pen.run ∷ [])

-- which it is
pub ended : (pen : Pen) → Ended pen (run_ended pen)
unfolding run_ended
ended pen = go (eqb pen.run 0) refl (eqb pen.run 1 && pen.differed) refl
  where
    go :
        (none : Bool) → eqb pen.run 0 ≡ none → (single : Bool) → eqb pen.run 1 && pen.differed ≡ single
        → Ended pen (cond none [] (cond single (INDEX (slot_of pen.previous) ∷ []) (RUN pen.run ∷ [])))
    go true e single f = no_run (eqb-true _ _ e)
    go false e true f =
        let tests = and_split (eqb pen.run 1) pen.differed f in
        as_index (eqb-true _ _ tests.0) tests.1
    go false e false f = let some : pen.run ≡ 0 → ⊥ = eqb-false _ _ e in as_run (omega arith)

-- the chunk of a differing pixel: of its slot, which holds it, or of its colour
pub data Differing (pen : Pen) (p : Pixel) : Chunk → Type 0 where
  by_slot : slot_holds pen p ≡ true → Differing pen p (INDEX (slot_of p))
  by_colour : Differing pen p (colour_chunk pen.previous p)

-- which it is
pub differing : (pen : Pen) (p : Pixel) → Differing pen p (differing_chunk pen p)
unfolding differing_chunk
differing pen p = go (slot_holds pen p) refl
  where
    go : (holds : Bool) → slot_holds pen p ≡ holds → Differing pen p (cond holds (INDEX (slot_of p)) (colour_chunk pen.previous p))
    go true e = by_slot e
    go false e = by_colour

-- a pixel's chunks and the pen after it: a run that is held back, a run that is written, or a differing pixel
pub data Penned (pen : Pen) (last : Bool) (p : Pixel) : List Chunk → Pen → Type 0 where
  held_back :
      same_pixel p pen.previous ≡ true → run_written pen last ≡ false
      → Penned pen last p [] (with_run pen (pen.run + 1))
  run_is_written : same_pixel p pen.previous ≡ true → Penned pen last p (RUN (pen.run + 1) ∷ []) (with_run pen 0)
  differs : Penned pen last p (run_ended pen ++ (differing_chunk pen p ∷ [])) (with_pixel pen p)

-- which they are
pub penned : (pen : Pen) (last : Bool) (p : Pixel) → Penned pen last p (pixel_chunks pen last p) (pen_after pen last p)
unfolding pixel_chunks pen_after
penned pen last p = go (same_pixel p pen.previous) refl (run_written pen last) refl
  where
    go :
        (equal : Bool) → same_pixel p pen.previous ≡ equal → (now : Bool) → run_written pen last ≡ now
        → Penned pen last p
        (cond equal (cond now (RUN (pen.run + 1) ∷ []) []) (run_ended pen ++ (differing_chunk pen p ∷ [])))
        (cond equal (with_run pen (cond now 0 (pen.run + 1))) (with_pixel pen p))
    go true e true w = run_is_written e
    go true e false w = held_back e w
    go false e now w = differs

-- no run of 62 is held back
run_below : {pen : Pen} {last : Bool} {p : Pixel} {ks : List Chunk} {then : Pen} → Penned pen last p ks then → pen.run ≤ 61 → then.run ≤ 61
run_below {pen} {last} (held_back e w) few =
    let not_full : pen.run + 1 ≡ 62 → ⊥ = eqb-false _ _ (or_split (eqb (pen.run + 1) 62) last w).0 in
    omega arith
run_below (run_is_written e) few = zero-le
run_below differs few = zero-le

-- the previous pixel stays whole
previous_whole :
    {n : ℕ} {pen : Pen} {last : Bool} {p : Pixel} {ks : List Chunk} {then : Pen} → Penned pen last p ks then
    → Whole n pen.previous → Whole n p → Whole n then.previous
previous_whole (held_back e w) before this = before
previous_whole (run_is_written e) before this = before
previous_whole differs before this = this

-- each of some chunks can be written
abbrev pub Writables : Bool → List Chunk → Type 0
Writables reads_rgba [] = Unit {0}
Writables reads_rgba (k ∷ ks) = Writable reads_rgba k × Writables reads_rgba ks

writables_append : (b : Bool) (ks ls : List Chunk) → Writables b ks → Writables b ls → Writables b (ks ++ ls)
writables_append b [] ls some more = more
writables_append b (k ∷ ks) ls some more = (some.0, writables_append b ks ls some.1 more)

-- a run that is ended can be written, in no more bytes than it has pixels
ended_writable : (b : Bool) {pen : Pen} {ks : List Chunk} → Ended pen ks → pen.run ≤ 61 → Writables b ks
ended_writable b (no_run e) few = tt
ended_writable b {pen} (as_index e d) few = (slot_small pen.previous, tt)
ended_writable b (as_run some) few = ((some, omega arith), tt)

ended_size : {pen : Pen} {ks : List Chunk} → Ended pen ks → length (chunks_bytes ks) ≤ pen.run
unfolding chunks_bytes chunk_bytes
ended_size (no_run e) = zero-le
ended_size (as_index e d) = omega arith
ended_size (as_run some) = some

module _ (n : ℕ) (some : 3 ≤ n) (pen : Pen) (p : Pixel) (before : Whole n pen.previous) (this : Whole n p) where
  -- a differing pixel's chunk can be written, in one byte more than the pixel has at most
  differing_writable : (b : Bool) → ((n ≡ 3 → ⊥) → b ≡ true) → {k : Chunk} → Differing pen p k → Writable b k
  differing_writable b reads (by_slot e) = slot_small p
  differing_writable b reads by_colour = (colour_chosen n pen.previous p some before this).writable b reads

  differing_size : {k : Chunk} → Differing pen p k → size_of k ≤ n + 1
  unfolding size_of
  differing_size (by_slot e) = omega arith
  differing_size by_colour = (colour_chosen n pen.previous p some before this).size

  -- a pixel's chunks can be written
  pixel_writable :
      (b : Bool) → ((n ≡ 3 → ⊥) → b ≡ true) → pen.run ≤ 61 → {last : Bool} {ks : List Chunk} {then : Pen}
      → Penned pen last p ks then → Writables b ks
  pixel_writable b reads few (held_back e w) = tt
  pixel_writable b reads few (run_is_written e) = ((omega arith, omega arith), tt)
  pixel_writable b reads few differs =
      writables_append b (run_ended pen) (differing_chunk pen p ∷ []) (ended_writable b (ended pen) few)
      (differing_writable b reads (differing pen p), tt)

  -- they and the run held back then take one byte more at most than the pixel and the run held back before
  pixel_size :
      {last : Bool} {ks : List Chunk} {then : Pen} → Penned pen last p ks then
      → length (chunks_bytes ks) + then.run ≤ pen.run + (n + 1)
  unfolding chunks_bytes chunk_bytes
  pixel_size (held_back e w) = omega arith
  pixel_size (run_is_written e) = omega arith
  pixel_size differs =
      simp (chunks_append, length-append)
      (omega (arith, ended_size (ended pen), chunk_length (differing_chunk pen p), differing_size (differing pen p)))

module _ (n : ℕ) (some : 3 ≤ n) where
  -- pixels take one byte more each at most than they have, and the run held back one each
  pub chunks_size :
      (ps : List Pixel) (pen : Pen) → Whole n pen.previous → Wholes n ps
      → length (chunks_bytes (chunks_from pen ps)) ≤ pen.run + length ps * (n + 1)
  unfolding chunks_from chunks_bytes
  chunks_size [] pen before wholes = zero-le
  chunks_size (p ∷ rest) pen before wholes =
      let kind = penned pen (is_last rest) p in
      simp (chunks_append, length-append)
      (omega
      (arith, pixel_size n some pen p before wholes.0 kind, chunks_size rest (pen_after pen (is_last rest) p) (previous_whole kind before wholes.0) wholes.1, suc-mul (length rest) (n + 1)))

  -- the chunks of pixels can be written
  pub chunks_writable :
      (b : Bool) → ((n ≡ 3 → ⊥) → b ≡ true) → (ps : List Pixel) (pen : Pen) → Whole n pen.previous → Wholes n ps
      → pen.run ≤ 61 → Writables b (chunks_from pen ps)
  unfolding chunks_from
  chunks_writable b reads [] pen before wholes few = tt
  chunks_writable b reads (p ∷ rest) pen before wholes few =
      let kind = penned pen (is_last rest) p in
      writables_append b (pixel_chunks pen (is_last rest) p) _ (pixel_writable n some pen p before wholes.0 b reads few kind)
      (chunks_writable b reads rest (pen_after pen (is_last rest) p) (previous_whole kind before wholes.0) wholes.1 (run_below kind few))
