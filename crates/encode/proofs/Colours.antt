-- The chunk of differences as the writer chooses it: its tests are the rules' ranges, what fits a range is small enough
-- for the chunk's bytes, and those bytes are the chunk's.
-- Assumes nothing.
use mathlib.Core.Path.{◌≡◌, refl, sym, ◌∙◌}
use mathlib.Core.Bool.{Bool, true, false, ◌&&◌}
use Prim.Native.Nat.{ℕ, suc, ◌<◌}
use native.Mathlib.Omega.{arith}
use lib.Dec.{leb, leb-suc-suc}
use lib.IntN.{ℤ, pos, negsuc}
use Rattle.pixel.specs.Colour.{wrapped_sum, wrapped_difference, signed_of, within}
use Rattle.rules.specs.Encode.{fits_diff, fits_luma}
use Rattle.encode.specs.Asked.{in_range}
use Rattle.rules.proofs.EncodeLaws.{and_split, within_fits}

-- a range from below 0 is the rules'
pub range_is : (n above : ℕ) (x : ℤ) → in_range (negsuc n) (pos above) x ≡ within (suc n) above x
range_is n above (pos m) = refl
range_is n above (negsuc k) = rw (leb-suc-suc k n) (and_true (leb k n))
  where
    and_true : (b : Bool) → b && true ≡ b
    and_true true = refl
    and_true false = refl

module _ (r g b : ℕ) (hr : r < 256) (hg : g < 256) (hb : b < 256) where
  -- what DIFF holds takes two bits each
  pub diff_small : {fits : Bool} → fits ≡ fits_diff r g b → fits ≡ true → (wrapped_sum r 2 < 4) × (wrapped_sum g 2 < 4) × (wrapped_sum b 2 < 4)
  unfolding fits_diff
  diff_small is fits =
      let first = and_split (within 2 1 (signed_of r)) _ (sym is ∙ fits) in
      let others = and_split _ _ first.1 in
      let each : (x : ℕ) → x < 256 → within 2 1 (signed_of x) ≡ true → wrapped_sum x 2 < 4 = λ x h. within_fits 2 1 x h (omega arith) (omega arith) in
      (each r hr first.0, each g hg others.0, each b hb others.1)

  -- what LUMA holds takes six bits, and four for each of the others
  pub luma_small :
      {fits : Bool} → fits ≡ fits_luma r g b → fits ≡ true
      → (wrapped_sum g 32 < 64) × (wrapped_sum (wrapped_difference r g) 8 < 16) × (wrapped_sum (wrapped_difference b g) 8 < 16)
  unfolding fits_luma
  luma_small is fits =
      let first = and_split (within 32 31 (signed_of g)) _ (sym is ∙ fits) in
      let others = and_split _ _ first.1 in
      let each : (x : ℕ) → x < 256 → within 8 7 (signed_of x) ≡ true → wrapped_sum x 8 < 16 = λ x h. within_fits 8 7 x h (omega arith) (omega arith) in (
        within_fits 32 31 g hg (omega arith) (omega arith) first.0,
        each (wrapped_difference r g) (omega arith) others.0,
        each (wrapped_difference b g) (omega arith) others.1,
      )
