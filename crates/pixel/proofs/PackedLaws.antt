-- Laws of packed pixels: unpacking what was packed, and the slot of both forms.
-- Assumes nothing.
use mathlib.Core.Path.{◌≡◌, refl, ◌∙◌, ap}
use mathlib.Core.List.{List, [], ◌∷◌}
use Prim.Native.Nat.{ℕ, zero, suc, ◌+◌, ◌*◌, ◌/◌, ◌%◌, ◌<◌}
use native.Mathlib.Nat.{div-div-eq-div-mul, add-mul-mod_self_left}
use native.Mathlib.Omega.{arith}
use lib.ListN.{get_or}
use Rattle.std.proofs.lemmas.Nat.{le_bytes_4}
use Rattle.pixel.specs.Colour.{pixel_of}
use Rattle.pixel.specs.Packed.{packed_of, unpacked}

-- unpacking what was packed gives the four channels back
pub unpacked_packed : (r g b a : ℕ) → r < 256 → g < 256 → b < 256 → a < 256 → unpacked (packed_of r g b a) ≡ pixel_of r g b a
unfolding unpacked
unpacked_packed r g b a hr hg hb ha =
    ap (λ (bytes : List ℕ). record { rgba = bytes }) (le_bytes_4 (r ∷ g ∷ b ∷ a ∷ []) (packed_of r g b a) refl each refl)
  where
    each : (i : ℕ) → get_or (r ∷ g ∷ b ∷ a ∷ []) i 0 < 256
    each zero = hr
    each (suc zero) = hg
    each (suc (suc zero)) = hb
    each (suc (suc (suc zero))) = ha
    each (suc (suc (suc (suc i)))) = omega arith

-- the colour without its alpha
pub below_alpha : (p : ℕ) → p % 16777216 ≡ p % 256 + p / 256 % 256 * 256 + p / 65536 % 256 * 65536
below_alpha p = omega (arith, div-div-eq-div-mul p 256 256, div-div-eq-div-mul p 65536 256)

-- two products of two channels each hold the sum of the slot formula
pub two_products :
    (r g b a : ℕ) → r < 256 → g < 256
    → ((r + b * 65536) * 0x3_0007_0000 + (g + a * 65536) * 0x5_000b_0000) / 0x1_0000_0000 % 64 ≡ (3 * r + 5 * g + 7 * b + 11 * a) % 64
two_products r g b a hr hg =
    let sum = 3 * r + 5 * g + 7 * b + 11 * a in
    let above : ((r + b * 65536) * 0x3_0007_0000 + (g + a * 65536) * 0x5_000b_0000) / 0x1_0000_0000 ≡ sum + 64 * (1024 * (3 * b + 5 * a)) = omega arith in
    ap (λ (n : ℕ). n % 64) above ∙ add-mul-mod_self_left sum 64 (1024 * (3 * b + 5 * a))
