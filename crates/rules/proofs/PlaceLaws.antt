-- Laws of a place under the decoder's rules: pixels stay four bytes and slots 64, and a chunk writes its pixels'
-- bytes, from its pixel to the next.
-- Assumes nothing.
use mathlib.Core.Path.{◌≡◌, refl, ◌∙◌, ap}
use mathlib.Core.Bool.{Bool, true, false, cond}
use mathlib.Core.List.{List, [], ◌∷◌}
use Prim.Native.Nat.{ℕ, zero, suc, ◌+◌, ◌*◌, ◌≤◌, ◌<◌}
use native.Mathlib.Nat.{add-mul}
use native.Mathlib.Omega.{arith}
use lib.Dec.{eqb}
use lib.ListN.{length, get_or, take, drop, set, length-set, length-drop, get_or-replicate}
use lib.Seq.{length-take-le}
use Rattle.pixel.specs.declared.Pixel.{Pixel}
use Rattle.pixel.specs.Colour.{clear_pixel, with_alpha}
use Rattle.header.specs.declared.Header.{Header}
use Rattle.rules.specs.Chunk.{Chunk, colour_of, INDEX, DIFF, LUMA, RUN, RGB, RGBA, Stuck}
use Rattle.rules.specs.Reading.{Place, start_place, pixels_brought, pixel_after, place_after, bytes_of}
use Rattle.rules.specs.Decode.{decoder, decoder_stores, decoder_keeps}
use Rattle.rules.proofs.ChunkLaws.{SlotFits, Sound}
use Rattle.rules.proofs.PastingLaws.{repeated_length}

-- four bytes a pixel, 64 slots
pub record Shaped (slots : List Pixel) (current : Pixel) : Type 0 where
  pub current_is : length current.rgba ≡ 4
  pub slots_are : length slots ≡ 64
  pub slot_is : (i : ℕ) → i < 64 → length (get_or slots i clear_pixel).rgba ≡ 4

-- the start place has that shape
pub shaped_start : Shaped start_place.slots start_place.current
unfolding start_place
shaped_start =
    record {
      current_is = refl;
      slots_are = refl;
      slot_is = λ i h. ap (λ (q : Pixel). length q.rgba) (get_or-replicate 64 i clear_pixel clear_pixel h);
    }

-- what a chunk brings has four bytes
colour_shaped : (slots : List Pixel) (current : Pixel) → Shaped slots current → (k : Chunk) → SlotFits k → length (colour_of slots current k).rgba ≡ 4
unfolding colour_of
colour_shaped slots current shaped (INDEX slot) fits = shaped.slot_is slot fits
colour_shaped slots current shaped (DIFF r g b) fits = refl
colour_shaped slots current shaped (LUMA g r b) fits = refl
colour_shaped slots current shaped (RUN times) fits = shaped.current_is
colour_shaped slots current shaped (RGB r g b) fits = refl
colour_shaped slots current shaped (RGBA r g b a) fits = refl
colour_shaped slots current shaped Stuck fits = shaped.current_is

-- what is kept of it too
kept_shaped : (wanted : ℕ) (p : Pixel) → length p.rgba ≡ 4 → length (decoder_keeps wanted p).rgba ≡ 4
unfolding decoder_keeps
kept_shaped wanted p four = go (eqb wanted 3)
  where
    go : (b : Bool) → length (cond b (with_alpha p 255) p).rgba ≡ 4
    go true = refl
    go false = four

-- what holds of a value stored and of each before holds of each after
set_keeps : (P : Pixel → Type 0) (l : List Pixel) (s i : ℕ) (p d : Pixel) → P p → P (get_or l i d) → P (get_or (set l s p) i d)
set_keeps P [] s i p d new old = old
set_keeps P (x ∷ xs) zero zero p d new old = new
set_keeps P (x ∷ xs) zero (suc i) p d new old = old
set_keeps P (x ∷ xs) (suc s) zero p d new old = old
set_keeps P (x ∷ xs) (suc s) (suc i) p d new old = set_keeps P xs s i p d new old

-- a pixel of four bytes stored in a slot
pub stored_shaped :
    (b : Bool) (slots : List Pixel) (current p : Pixel) (i : ℕ) → Shaped slots current → length p.rgba ≡ 4
    → Shaped (cond b (set slots i p) slots) p
stored_shaped true slots current p i shaped four =
    record {
      current_is = four;
      slots_are = length-set slots i p ∙ shaped.slots_are;
      slot_is = λ j h. set_keeps (λ q. length q.rgba ≡ 4) slots i j p clear_pixel four (shaped.slot_is j h);
    }
stored_shaped false slots current p i shaped four =
    record { current_is = four; slots_are = shaped.slots_are; slot_is = shaped.slot_is }

-- a chunk of a part at a place
module _ (header : Header) (wanted : ℕ) (place : Place) (k : Chunk) {part : List ℕ} (shaped : Shaped place.slots place.current) (sound : Sound part k) where
  -- its pixel has four bytes
  pub pixel_shaped : length (pixel_after decoder wanted place k).rgba ≡ 4
  unfolding pixel_after
  pixel_shaped =
      kept_shaped wanted (colour_of place.slots place.current k) (colour_shaped place.slots place.current shaped k sound.slot)

  -- the place after it has the shape
  pub shaped_next : Shaped (place_after decoder header wanted place k).slots (place_after decoder header wanted place k).current
  unfolding place_after
  shaped_next =
      stored_shaped (decoder_stores k) place.slots place.current (pixel_after decoder wanted place k) _ shaped pixel_shaped

  -- it writes its pixels' bytes
  bytes_length : wanted ≤ 4 → length (bytes_of decoder header wanted place k) ≡ pixels_brought header place k * wanted
  unfolding bytes_of
  bytes_length few =
      repeated_length (pixels_brought header place k) (take wanted (pixel_after decoder wanted place k).rgba)
      ∙ ap (λ (n : ℕ). pixels_brought header place k * n)
      (length-take-le wanted (pixel_after decoder wanted place k).rgba (omega (arith, pixel_shaped)))

  -- the next pixel's place in the output is where the bytes end
  pub pixel_reached :
      wanted ≤ 4
      → (place_after decoder header wanted place k).pixel * wanted ≡ place.pixel * wanted + length (bytes_of decoder header wanted place k)
  unfolding place_after
  pixel_reached few = rw (bytes_length few) (add-mul place.pixel (pixels_brought header place k) wanted)

-- the byte position stays within the message
pub stays_inside :
    (header : Header) (wanted : ℕ) (message : List ℕ) (place : Place) (k : Chunk) → place.at ≤ length message
    → Sound (drop place.at message) k → (place_after decoder header wanted place k).at ≤ length message
unfolding place_after
stays_inside header wanted message place k inside sound = omega (arith, simp length-drop at sound.fits)
