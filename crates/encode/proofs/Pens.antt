-- The loops' locals as the rules' pen, and the chunks still to come where a run that the last pixel leaves is written
-- after it.
-- Assumes nothing.
use mathlib.Core.Path.{◌≡◌, refl, sym, ◌∙◌, ap}
use mathlib.Core.Bool.{Bool, true, false, cond, ◌&&◌}
use mathlib.Core.List.{List, [], ◌∷◌, ◌++◌, append-nil, append_assoc, map}
use Prim.Native.Nat.{ℕ, zero, suc, ◌+◌, ◌-◌, ◌/◌, ◌%◌, ◌<◌, ◌≤◌}
use native.Mathlib.Omega.{arith}
use borrow.Author.Tests.{ltb-true, ltb-false, lt-ltb, eqb-true, eq-eqb, ne_eqb}
use lib.Dec.{ltb, eqb}
use lib.ListN.{get_or, set, replicate, get_or-map}
use Rattle.pixel.specs.declared.Pixel.{Pixel}
use Rattle.pixel.specs.Colour.{slot_of, same_pixel, clear_pixel}
use Rattle.pixel.specs.Packed.{unpacked}
use Rattle.pixel.proofs.PackedLaws.{below_alpha}
use Rattle.rules.specs.Chunk.{Chunk, INDEX, RUN}
use Rattle.rules.specs.Encode.{Pen, start_pen, run_ended, slot_holds, differing_chunk, colour_chunk, pixel_chunks, with_run, with_pixel, pen_after, chunks_from, chunk_bytes, chunks_bytes}
use Rattle.rules.proofs.ChunkLaws.{slot_small}
use Rattle.rules.proofs.EncodeLaws.{and_split}
use Rattle.encode.specs.Asked.{ended_bytes}

-- the pen that the locals are; a run of one is RUN where no pixel differed before
abbrev pub pen_of : List ℕ → ℕ → ℕ → ℕ → Pen
pen_of slots previous run single =
    record { slots = map unpacked slots; previous = unpacked previous; run = run; differed = ltb single 64 }

-- the chunks of the pixels still to come; a run that no pixel follows is still to be written
unfoldable pub held : Pen → List Pixel → List Chunk
held pen [] = cond (eqb pen.run 0) [] (RUN pen.run ∷ [])
held pen (p ∷ ps) = chunks_from pen (p ∷ ps)

start_pen_lem : start_pen ≡ pen_of (replicate 64 0) 0xff000000 0 0xc0
unfolding start_pen unpacked
start_pen_lem = refl

-- before the first pixel
pub start_held : (ps : List Pixel) → chunks_from start_pen ps ≡ held (pen_of (replicate 64 0) 0xff000000 0 0xc0) ps
unfolding held chunks_from
start_held [] = refl
start_held (p ∷ ps) = ap (λ (pen : Pen). chunks_from pen (p ∷ ps)) start_pen_lem

-- a pixel equal to its predecessor makes the run 62
pub held_full :
    (pen : Pen) (p : Pixel) (rest : List Pixel) → same_pixel p pen.previous ≡ true → pen.run ≡ 61
    → held pen (p ∷ rest) ≡ RUN 62 ∷ held (with_run pen 0) rest
unfolding held chunks_from pixel_chunks pen_after
held_full pen p [] same full = rw (same, full)
held_full pen p (q ∷ qs) same full = rw (same, full)

-- or one longer
pub held_longer :
    (pen : Pen) (p : Pixel) (rest : List Pixel) → same_pixel p pen.previous ≡ true → (pen.run ≡ 61 → ⊥)
    → held pen (p ∷ rest) ≡ held (with_run pen (pen.run + 1)) rest
unfolding held chunks_from pixel_chunks pen_after
held_longer pen p [] same less =
    rw (same, ne_eqb (pen.run + 1) 62 (λ e. less (omega arith)), ne_eqb (pen.run + 1) 0 (λ e. omega arith))
held_longer pen p (q ∷ qs) same less = rw (same, ne_eqb (pen.run + 1) 62 (λ e. less (omega arith)))

-- another pixel ends the run
pub held_other :
    (pen : Pen) (p : Pixel) (rest : List Pixel) → same_pixel p pen.previous ≡ false
    → held pen (p ∷ rest) ≡ run_ended pen ++ (differing_chunk pen p ∷ held (with_pixel pen p) rest)
unfolding held chunks_from pixel_chunks pen_after
held_other pen p [] other = rw (other) (append-nil (run_ended pen ++ (differing_chunk pen p ∷ [])))
held_other pen p (q ∷ qs) other = rw (other) (append_assoc (run_ended pen) (differing_chunk pen p ∷ []) _)

-- packed pixels are the same if they are equal
pub same_yes : (p q : ℕ) → p ≡ q → same_pixel (unpacked p) (unpacked q) ≡ true
unfolding unpacked
same_yes p q e =
    rw (e, eq-eqb (q % 256) (q % 256) refl, eq-eqb (q / 256 % 256) (q / 256 % 256) refl, eq-eqb (q / 65536 % 256) (q / 65536 % 256) refl, eq-eqb (q / 16777216 % 256) (q / 16777216 % 256) refl)

-- and only then
alike : (p q : ℕ) → p < 4294967296 → q < 4294967296 → p % 16777216 ≡ q % 16777216 → p / 16777216 % 256 ≡ q / 16777216 % 256 → p ≡ q
alike p q hp hq low high = omega arith

pub same_no : (p q : ℕ) → p < 4294967296 → q < 4294967296 → (p ≡ q → ⊥) → same_pixel (unpacked p) (unpacked q) ≡ false
unfolding unpacked
same_no p q hp hq other = go (same_pixel (unpacked p) (unpacked q)) refl
  where
    go : (t : Bool) → same_pixel (unpacked p) (unpacked q) ≡ t → t ≡ false
    go false e = refl
    go true e =
        let first = and_split (eqb (p % 256) (q % 256)) _ e in
        let second = and_split (eqb (p / 256 % 256) (q / 256 % 256)) _ first.1 in
        let third = and_split (eqb (p / 65536 % 256) (q / 65536 % 256)) _ second.1 in
        let r = eqb-true (p % 256) (q % 256) first.0 in
        let g = eqb-true (p / 256 % 256) (q / 256 % 256) second.0 in
        let b = eqb-true (p / 65536 % 256) (q / 65536 % 256) third.0 in
        let a = eqb-true (p / 16777216 % 256) (q / 16777216 % 256) third.1 in
        let low : p % 16777216 ≡ q % 16777216 = below_alpha p ∙ rw (r, g, b) (sym (below_alpha q)) in
        absurd (other (alike p q hp hq low a))

map_set : (l : List ℕ) (i v : ℕ) → map unpacked (set l i v) ≡ set (map unpacked l) i (unpacked v)
map_set [] i v = refl
map_set (x ∷ xs) zero v = refl
map_set (x ∷ xs) (suc i) v = ap (λ (l : List Pixel). unpacked x ∷ l) (map_set xs i v)

-- a differing pixel in its slot
pub with_packed :
    (slots : List ℕ) (previous run single p s : ℕ) → s ≡ slot_of (unpacked p)
    → with_pixel (pen_of slots previous run single) (unpacked p) ≡ pen_of (set slots s p) p 0 s
with_packed slots previous run single p s is =
    let there : set (map unpacked slots) (slot_of (unpacked p)) (unpacked p) ≡ map unpacked (set slots s p) =
    ap (λ (n : ℕ). set (map unpacked slots) n (unpacked p)) (sym is) ∙ sym (map_set slots s p) in
    let low : s < 64 = rw is (slot_small (unpacked p)) in
    let some : true ≡ ltb s 64 = sym (lt-ltb s 64 low) in
    λ i. record { slots = there i; previous = unpacked p; run = 0; differed = some i }

-- what a slot holds
slot_holds_lem :
    (slots : List ℕ) (previous run single p s : ℕ) → s ≡ slot_of (unpacked p)
    → slot_holds (pen_of slots previous run single) (unpacked p) ≡ same_pixel (unpacked (get_or slots s 0)) (unpacked p)
unfolding slot_holds unpacked
slot_holds_lem slots previous run single p s is =
    ap (λ (q : Pixel). same_pixel q (unpacked p)) (ap (λ (n : ℕ). get_or (map unpacked slots) n clear_pixel) (sym is) ∙ at_slot)
  where
    at_slot : get_or (map unpacked slots) s clear_pixel ≡ unpacked (get_or slots s 0)
    at_slot = get_or-map unpacked slots s 0

pub differing_index :
    (slots : List ℕ) (previous run single p s : ℕ) → s ≡ slot_of (unpacked p) → get_or slots s 0 ≡ p
    → chunk_bytes (differing_chunk (pen_of slots previous run single) (unpacked p)) ≡ s ∷ []
unfolding differing_chunk chunk_bytes
differing_index slots previous run single p s is there =
    rw (slot_holds_lem slots previous run single p s is, same_yes (get_or slots s 0) p there, is)

pub differing_colour :
    (slots : List ℕ) (previous run single p s : ℕ) → s ≡ slot_of (unpacked p) → p < 4294967296 → get_or slots s 0 < 4294967296 → (get_or slots s 0 ≡ p → ⊥)
    → differing_chunk (pen_of slots previous run single) (unpacked p) ≡ colour_chunk (unpacked previous) (unpacked p)
unfolding differing_chunk
differing_colour slots previous run single p s is hp hs other =
    rw (slot_holds_lem slots previous run single p s is, same_no (get_or slots s 0) p hs hp other)

-- the byte of a run of one: INDEX of the previous pixel's slot, or RUN where no pixel differed before
pub record Single (previous single : ℕ) : Type 0 where
  pub index : single < 64 → single ≡ slot_of (unpacked previous)
  pub run : 64 ≤ single → single ≡ 0xc0

-- the bytes of a run that another pixel ends
pub ended_bytes_lem :
    (slots : List ℕ) (previous run single : ℕ) → Single previous single
    → chunks_bytes (run_ended (pen_of slots previous run single)) ≡ ended_bytes run single
unfolding run_ended chunks_bytes chunk_bytes
ended_bytes_lem slots previous run single h = go (eqb run 0) (eqb run 1) (ltb single 64) refl refl
  where
    go :
        (none one index : Bool) → eqb run 1 ≡ one → ltb single 64 ≡ index
        → chunks_bytes (cond none [] (cond (one && index) (INDEX (slot_of (unpacked previous)) ∷ []) (RUN run ∷ [])))
        ≡ cond none [] (cond one single (0xc0 + (run - 1)) ∷ [])
    go true one index e d = refl
    go false true true e d = rw (← h.index (ltb-true single 64 d))
    go false true false e d = let r = eqb-true run 1 e in let s = h.run (omega (arith, ltb-false single 64 d)) in rw (r, s)
    go false false index e d = refl

-- and of one that no other pixel ends
pub run_bytes : (run : ℕ) → chunks_bytes (cond (eqb run 0) [] (RUN run ∷ [])) ≡ ended_bytes run 0xc0
unfolding chunks_bytes chunk_bytes
run_bytes run = go (eqb run 0) (eqb run 1) refl
  where
    go :
        (none one : Bool) → eqb run 1 ≡ one
        → chunks_bytes (cond none [] (RUN run ∷ [])) ≡ cond none [] (cond one 0xc0 (0xc0 + (run - 1)) ∷ [])
    go true one e = refl
    go false true e = rw (eqb-true run 1 e)
    go false false e = refl
