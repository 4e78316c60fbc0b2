-- A packed pixel and its alpha, taken out of it: what a chunk of colour makes of both; and packed pixels in slots.
-- Assumes nothing.
use mathlib.Core.Path.{◌≡◌, refl, sym, ◌∙◌, ap}
use mathlib.Core.List.{List, [], ◌∷◌, map}
use Prim.Native.Nat.{ℕ, zero, suc, ◌/◌, ◌%◌}
use lib.ListN.{get_or, set, get_or-map}
use Rattle.pixel.specs.declared.Pixel.{Pixel}
use Rattle.pixel.specs.Colour.{alpha, clear_pixel, pixel_of, with_alpha}
use Rattle.pixel.specs.Packed.{unpacked}
use Rattle.rules.specs.Chunk.{colour_of}
use Rattle.chunk.specs.declared.Colour.{Colour}
use Rattle.chunk.specs.declared.Colour.TheVariants.{Diff, Luma, Rgb, Rgba, Stuck}
use Rattle.chunk.specs.Found.{chunk_of}

-- the fourth byte of a packed pixel
abbrev pub alpha_in : ℕ → ℕ
alpha_in p = p / 16777216 % 256

-- the alpha that a chunk of colour leaves does not depend on the colour before it
alpha_alone : (x : Pixel) (a : ℕ) (c : Colour) → alpha (colour_of [] (with_alpha clear_pixel a) (chunk_of c)) ≡ alpha (colour_of [] (with_alpha x a) (chunk_of c))
unfolding colour_of
alpha_alone x a (Diff r g b) = refl
alpha_alone x a (Luma g r b) = refl
alpha_alone x a (Rgb r g b) = refl
alpha_alone x a (Rgba r g b a') = refl
alpha_alone x a Stuck = refl

-- a packed pixel with the alpha that it has
own_alpha : (p a : ℕ) → a ≡ alpha_in p → with_alpha (unpacked p) a ≡ unpacked p
unfolding unpacked
own_alpha p a is = ap (pixel_of (p % 256) (p / 256 % 256) (p / 65536 % 256)) is

-- what a chunk of colour makes of a packed pixel, with the alpha that it makes
made_alpha : (p : ℕ) (c : Colour) → with_alpha (colour_of [] (unpacked p) (chunk_of c)) (alpha (colour_of [] (unpacked p) (chunk_of c))) ≡ colour_of [] (unpacked p) (chunk_of c)
unfolding colour_of unpacked
made_alpha p (Diff r g b) = refl
made_alpha p (Luma g r b) = refl
made_alpha p (Rgb r g b) = refl
made_alpha p (Rgba r g b a) = refl
made_alpha p Stuck = refl

module _ (p a q a' : ℕ) (c : Colour) (kept : a ≡ alpha_in p)
    (leaves : a' ≡ alpha (colour_of [] (with_alpha clear_pixel a) (chunk_of c)))
    (made : unpacked q ≡ with_alpha (colour_of [] (unpacked p) (chunk_of c)) a') where
  -- the alpha made is that of the pixel made
  new_alpha : a' ≡ alpha (colour_of [] (unpacked p) (chunk_of c))
  new_alpha = leaves ∙ alpha_alone (unpacked p) a c ∙ ap (λ (x : Pixel). alpha (colour_of [] x (chunk_of c))) (own_alpha p a kept)

  -- so the pixel is the one that the chunk makes
  pub recoloured : unpacked q ≡ colour_of [] (unpacked p) (chunk_of c)
  recoloured = made ∙ ap (with_alpha (colour_of [] (unpacked p) (chunk_of c))) new_alpha ∙ made_alpha p c

-- a packed pixel stored is the pixel stored
pub unpacked_set : (l : List ℕ) (i p : ℕ) → map unpacked (set l i p) ≡ set (map unpacked l) i (unpacked p)
unpacked_set [] i p = refl
unpacked_set (x ∷ xs) zero p = refl
unpacked_set (x ∷ xs) (suc i) p = ap (λ (l : List Pixel). unpacked x ∷ l) (unpacked_set xs i p)

-- and one read is the pixel read
pub unpacked_slot : (l : List ℕ) (i : ℕ) → unpacked (get_or l i 0) ≡ get_or (map unpacked l) i clear_pixel
unfolding unpacked
unpacked_slot l i = sym (get_or-map unpacked l i 0)
