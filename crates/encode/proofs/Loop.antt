-- The loops over the pixels, by the channel number: what is written, followed by the chunks still to come, is all that
-- is to be written.
-- Assumes nothing.
use mathlib.Core.Path.{◌≡◌, refl, sym, ◌∙◌, ap, ap₂}
use mathlib.Core.Bool.{Bool, true, false}
use Rattle.std.specs.Simd.{first_chunks}
use mathlib.Core.List.{map, List, [], ◌∷◌, ◌++◌, append-nil}
use Prim.Native.Nat.{ℕ, zero, suc, ◌+◌, ◌/◌, ◌≤◌, ◌<◌}
use native.Mathlib.Numerals.{add-one}
use native.Mathlib.Omega.{arith}
use borrow.Author.Tests.{eqb-true, eqb-false}
use lib.Dec.{eqb}
use lib.ListN.{drop_of_length-le, length-map, length, get_or, get_or-map, drop, take, set, replicate, length-append, length-set}
use lib.Seq.{drop-cons, get_or-take, set-get_or, get_or-set_same, get_or-set_other}
use Rattle.pixel.specs.declared.Pixel.{Pixel}
use Rattle.pixel.specs.Bytes.{pixel_from, pixels_from}
use Rattle.pixel.specs.Colour.{slot_of}
use Rattle.pixel.specs.Packed.{unpacked}
use Rattle.rules.specs.Bytes.{pasted}
use Rattle.rules.specs.Encode.{Pen, run_ended, differing_chunk, with_pixel, chunk_bytes, chunks_bytes}
use Rattle.rules.proofs.ChunkLaws.{slot_small}
use Rattle.rules.proofs.EncodeLaws.{chunks_append}
use Rattle.rules.proofs.PastingLaws.{length_pasted, pasted_next, pasted_none}
use Rattle.encode.specs.Asked.{colour_bytes, ended_bytes, pixels_bytes}
use Rattle.encode.proofs.Pens.{Single, pen_of, held, start_held, held_full, held_longer, held_other, same_yes, same_no, with_packed, differing_index, differing_colour, ended_bytes_lem, run_bytes}

-- in an output of `size` bytes the rest, put at this place, makes the whole, and ends where the whole does
pub record Pending (size end : ℕ) (final : List ℕ) (at : ℕ) (rest out : List ℕ) : Type 0 where
  pub long : length out ≡ size
  pub room : end ≤ size
  pub ends : at + length rest ≡ end
  pub makes : pasted at rest out ≡ final

module _ {size end : ℕ} {final : List ℕ} {at : ℕ} {out : List ℕ} where
  -- the same rest in other words
  pub reworded : {rest rest' : List ℕ} → rest ≡ rest' → Pending size end final at rest out → Pending size end final at rest' out
  reworded e h = rw (← e) h

  -- nothing is left
  pub ended_at : Pending size end final at [] out → (at ≡ end) × (out ≡ final)
  ended_at h = (omega (arith, h.ends), sym (pasted_none out at) ∙ h.makes)

  module _ (bytes rest : List ℕ) (h : Pending size end final at (bytes ++ rest) out) where
    both_fit : at + length bytes + length rest ≤ length out
    both_fit = omega (arith, h.long, h.room, simp length-append at h.ends)

    -- the first part has room
    pub first_fits : at + length bytes ≤ length out
    first_fits = omega (arith, both_fit)

    -- once it is put, the others are left
    pub advance : (next : ℕ) (out' : List ℕ) → (next ≡ at + length bytes) × (out' ≡ pasted at bytes out) → Pending size end final next rest out'
    advance next out' put =
        record {
          long = ap length put.1 ∙ length_pasted out at bytes first_fits ∙ h.long;
          room = h.room;
          ends = omega (arith, put.0, simp length-append at h.ends);
          makes = rw (put.0, put.1) (pasted_next out at bytes rest both_fit ∙ h.makes);
        }

-- each slot holds 32 bits
abbrev pub Small : List ℕ → Type 0
Small slots = (j : ℕ) → get_or slots j 0 < 4294967296

zeros : (n j : ℕ) → ◌≡◌ {A = ℕ} (get_or (replicate n 0) j 0) 0
zeros zero j = refl
zeros (suc n) zero = refl
zeros (suc n) (suc j) = zeros n j

zeros_small : (n : ℕ) → Small (replicate n 0)
zeros_small n j = rw (zeros n j) (omega arith)

set_small : (slots : List ℕ) (s p : ℕ) → s < length slots → p < 4294967296 → Small slots → Small (set slots s p)
set_small slots s p there hp small j = go (eqb j s) refl
  where
    go : (t : Bool) → eqb j s ≡ t → get_or (set slots s p) j 0 < 4294967296
    go true e = rw (eqb-true j s e, get_or-set_same slots s p 0 there) hp
    go false e = rw (get_or-set_other slots s j p 0 (eqb-false j s e)) (small j)

module _ (pixels : List Pixel) (size end : ℕ) (final : List ℕ) where
  -- at the loop's head, after i pixels
  pub record Head (out slots : List ℕ) (previous run single i at : ℕ) : Type 0 where
    pub short_run : run ≤ 61
    pub sixty_four : length slots ≡ 64
    pub small : Small slots
    pub packed : previous < 4294967296
    pub found : Single previous single
    pub pending : Pending size end final at (chunks_bytes (held (pen_of slots previous run single) (drop i pixels))) out

  module _ {out slots : List ℕ} {previous run single i at : ℕ} (h : Head out slots previous run single i at) where
    -- what the encoder remembers there
    abbrev now : Pen
    now = pen_of slots previous run single

    -- with no pixel left only a run is
    pub last_run : length pixels ≤ i → Pending size end final at (ended_bytes run 0xc0 ++ []) out
    unfolding held
    last_run none =
        reworded (run_bytes run ∙ sym (append-nil (ended_bytes run 0xc0))) (rw (drop_of_length-le pixels none) at h.pending)

    -- the next pixel
    module _ (p : ℕ) (next : drop i pixels ≡ unpacked p ∷ drop (i + 1) pixels) where
      now_pending : Pending size end final at (chunks_bytes (held now (unpacked p ∷ drop (i + 1) pixels))) out
      now_pending = rw (next) at h.pending

      module _ (same : p ≡ previous) where
        -- it makes a run of 62, which is written
        module _ (full : run + 1 ≡ 62) where
          full_pending :
              Pending size end final at (ended_bytes (run + 1) 0xc0 ++ chunks_bytes (held (pen_of slots previous 0 single) (drop (i + 1) pixels))) out
          unfolding chunks_bytes chunk_bytes
          full_pending =
              reworded
              (ap chunks_bytes (held_full now (unpacked p) (drop (i + 1) pixels) (same_yes p previous same) (omega arith))
              ∙ rw (full) refl)
              now_pending

          pub full_fits : at + length (ended_bytes (run + 1) 0xc0) ≤ length out
          full_fits = first_fits (ended_bytes (run + 1) 0xc0) _ full_pending

          pub after_full :
              {next : ℕ} {out' : List ℕ} → (next ≡ at + length (ended_bytes (run + 1) 0xc0)) × (out' ≡ pasted at (ended_bytes (run + 1) 0xc0) out)
              → Head out' slots previous 0 single (i + 1) next
          after_full put =
              record {
                short_run = omega arith;
                sixty_four = h.sixty_four;
                small = h.small;
                packed = h.packed;
                found = h.found;
                pending = advance (ended_bytes (run + 1) 0xc0) _ full_pending _ _ put;
              }

        -- or a longer one, which is held back
        pub after_longer : (run + 1 ≡ 62 → ⊥) → Head out slots previous (run + 1) single (i + 1) at
        after_longer less =
            record {
              short_run = omega (arith, h.short_run);
              sixty_four = h.sixty_four;
              small = h.small;
              packed = h.packed;
              found = h.found;
              pending =
                  reworded
                  (ap chunks_bytes (held_longer now (unpacked p) (drop (i + 1) pixels) (same_yes p previous same) (λ e. less (omega arith))))
                  now_pending;
            }

      module _ (hp : p < 4294967296) (other : p ≡ previous → ⊥) where
        abbrev later : List ℕ
        later = chunk_bytes (differing_chunk now (unpacked p)) ++ chunks_bytes (held (with_pixel now (unpacked p)) (drop (i + 1) pixels))

        other_pending : Pending size end final at (ended_bytes run single ++ later) out
        unfolding chunks_bytes
        other_pending =
            reworded
            (ap chunks_bytes (held_other now (unpacked p) (drop (i + 1) pixels) (same_no p previous hp h.packed other))
            ∙ chunks_append (run_ended now) _
            ∙ ap (λ (l : List ℕ). l ++ later) (ended_bytes_lem slots previous run single h.found))
            now_pending

        -- the run before it has room
        pub run_fits : at + length (ended_bytes run single) ≤ length out
        run_fits = first_fits (ended_bytes run single) later other_pending

        module _ {then : ℕ} {out₁ : List ℕ} (ended : (then ≡ at + length (ended_bytes run single)) × (out₁ ≡ pasted at (ended_bytes run single) out))
            {s : ℕ} (slotted : s ≡ slot_of (unpacked p)) where
          low : s < 64
          low = rw (slotted) (slot_small (unpacked p))

          stored_pending :
              (bytes : List ℕ) → chunk_bytes (differing_chunk now (unpacked p)) ≡ bytes
              → Pending size end final then (bytes ++ chunks_bytes (held (pen_of (set slots s p) p 0 s) (drop (i + 1) pixels))) out₁
          stored_pending bytes e =
              reworded
              (ap (λ (l : List ℕ). l ++ chunks_bytes (held (with_pixel now (unpacked p)) (drop (i + 1) pixels))) e
              ∙ ap (λ (pen : Pen). bytes ++ chunks_bytes (held pen (drop (i + 1) pixels))) (with_packed slots previous run single p s slotted))
              (advance (ended_bytes run single) later other_pending _ _ ended)

          -- its slot holds it
          module _ (there : get_or slots s 0 ≡ p) where
            index_pending : Pending size end final then ((s ∷ []) ++ chunks_bytes (held (pen_of slots p 0 s) (drop (i + 1) pixels))) out₁
            index_pending =
                let kept : set slots s p ≡ slots = ap (set slots s) (sym there) ∙ set-get_or slots s 0 in
                rw (kept) at (stored_pending (s ∷ []) (differing_index slots previous run single p s slotted there))

            pub index_fits : then + 1 ≤ length out₁
            index_fits = first_fits (s ∷ []) _ index_pending

            pub after_index : {next : ℕ} {out₂ : List ℕ} → (next ≡ then + 1) × (out₂ ≡ pasted then (s ∷ []) out₁) → Head out₂ slots p 0 s (i + 1) next
            after_index put =
                record {
                  short_run = omega arith;
                  sixty_four = h.sixty_four;
                  small = h.small;
                  packed = hp;
                  found = record { index = λ e. slotted; run = λ e. absurd (omega (arith, e, low)) };
                  pending = advance (s ∷ []) _ index_pending _ _ put;
                }

          -- its slot holds another
          module _ (another : get_or slots s 0 ≡ p → ⊥) where
            colour_pending :
                Pending size end final then (colour_bytes previous p ++ chunks_bytes (held (pen_of (set slots s p) p 0 s) (drop (i + 1) pixels))) out₁
            colour_pending =
                stored_pending _ (ap chunk_bytes (differing_colour slots previous run single p s slotted hp (h.small s) another))

            pub colour_fits : then + length (colour_bytes previous p) ≤ length out₁
            colour_fits = first_fits (colour_bytes previous p) _ colour_pending

            pub after_colour :
                {next : ℕ} {out₂ : List ℕ} → (next ≡ then + length (colour_bytes previous p)) × (out₂ ≡ pasted then (colour_bytes previous p) out₁)
                → Head out₂ (set slots s p) p 0 s (i + 1) next
            after_colour put =
                record {
                  short_run = omega arith;
                  sixty_four = length-set slots s p ∙ h.sixty_four;
                  small = set_small slots s p (rw h.sixty_four low) hp h.small;
                  packed = hp;
                  found = record { index = λ e. slotted; run = λ e. absurd (omega (arith, e, low)) };
                  pending = advance (colour_bytes previous p) _ colour_pending _ _ put;
                }

-- before the first pixel
pub start_head :
    (pixels : List Pixel) (out : List ℕ) (start : ℕ) → start + length (pixels_bytes pixels) ≤ length out
    → Head pixels (length out) (start + length (pixels_bytes pixels)) (pasted start (pixels_bytes pixels) out) out (replicate 64 0) 0xff000000 0 0xc0 0 start
unfolding unpacked
start_head pixels out start room =
    record {
      short_run = omega arith;
      sixty_four = refl;
      small = zeros_small 64;
      packed = omega arith;
      found = record { index = λ e. absurd (omega (arith, e)); run = λ e. refl };
      pending =
          reworded (ap chunks_bytes (start_held pixels))
          (record { long = refl; room = room; ends = refl; makes = refl });
    }

-- the next of some pixels, each given by its bytes
pub next_pixel :
    (channels p : ℕ) (pixels : List (List ℕ)) {i : ℕ} {bytes : List ℕ} → i < length pixels → bytes ≡ get_or pixels i bytes
    → unpacked p ≡ pixel_from channels bytes
    → drop i (map (pixel_from channels) pixels) ≡ unpacked p ∷ drop (i + 1) (map (pixel_from channels) pixels)
next_pixel channels p pixels {i} {bytes} turn there is =
    let f = pixel_from channels in
    let e : unpacked p ≡ get_or (map f pixels) i (f bytes) = is ∙ ap f there ∙ sym (get_or-map f pixels i bytes) in
    rw (add-one, e) (drop-cons (map f pixels) i (f bytes) (rw (length-map pixels f) turn))

-- the first of a pixel's bytes, of as many as it has channels, are its own
pixel_taken : (n : ℕ) (bytes : List ℕ) → 3 ≤ n → pixel_from n (take n bytes) ≡ pixel_from n bytes
unfolding pixel_from
pixel_taken n bytes three = go (eqb n 3) refl
  where
    go : (b : Bool) → eqb n 3 ≡ b → pixel_from n (take n bytes) ≡ pixel_from n bytes
    go true e = rw (e, get_or-take n bytes 0 0 (omega arith), get_or-take n bytes 1 0 (omega arith), get_or-take n bytes 2 0 (omega arith))
    go false e =
        let four : 3 < n = omega (arith, eqb-false n 3 e) in
        rw (e, get_or-take n bytes 0 0 (omega arith), get_or-take n bytes 1 0 (omega arith), get_or-take n bytes 2 0 (omega arith), get_or-take n bytes 3 0 (omega arith))

cut_pixels : (n k : ℕ) (picture : List ℕ) → 3 ≤ n → map (pixel_from n) (first_chunks n k picture) ≡ pixels_from k n picture
unfolding pixels_from
cut_pixels n zero picture three = refl
cut_pixels n (suc k) picture three =
    ap₂ (λ (p : Pixel) (ps : List Pixel). p ∷ ps) (pixel_taken n picture three) (cut_pixels n k (drop n picture) three)

-- the pixels of a picture that is cut into the bytes of each
pub cut_is :
    (n count : ℕ) (picture : List ℕ) {chunks : List (List ℕ)} → 3 ≤ n → chunks ≡ first_chunks n (length picture / n) picture
    → length picture / n ≡ count → map (pixel_from n) chunks ≡ pixels_from count n picture
cut_is n count picture three cut counted = rw (cut, counted) (cut_pixels n count picture three)
