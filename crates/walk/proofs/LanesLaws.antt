-- Laws of a pixel in two lanes: two channels come apart again, one sum adds to both, and the slot of both lanes.
-- Assumes nothing.
use mathlib.Core.Path.{◌≡◌, ◌∙◌, ap}
use mathlib.Core.List.{[], ◌∷◌}
use Prim.Native.Nat.{ℕ, ◌+◌, ◌*◌, ◌/◌, ◌%◌, ◌<◌}
use native.Mathlib.Nat.{add-mul-mod_self_left}
use native.Mathlib.Omega.{arith}
use Rattle.pixel.specs.Colour.{pixel_of, wrapped_sum, wrapped_difference}
use Rattle.walk.specs.declared.lanes.Lanes.{Lanes}
use Rattle.walk.specs.Lanes.{pixel_in}

-- two numbers 16 bits apart come apart again
low : (x y : ℕ) → x < 256 → (x + y * 65536) % 65536 ≡ x
low x y h = omega arith

high : (x y : ℕ) → x < 256 → (x + y * 65536) / 65536 ≡ y
high x y h = omega arith

-- lanes that are made of four bytes are that pixel
pub made :
    (l : Lanes) (r g b a : ℕ) → r < 256 → g < 256 → l.even ≡ r + b * 65536 → l.odd ≡ g + a * 65536
    → pixel_in l ≡ pixel_of r g b a
unfolding pixel_in
made l r g b a hr hg even odd =
    let red : l.even % 65536 ≡ r = ap (λ (n : ℕ). n % 65536) even ∙ low r b hr in
    let green : l.odd % 65536 ≡ g = ap (λ (n : ℕ). n % 65536) odd ∙ low g a hg in
    let blue : l.even / 65536 ≡ b = ap (λ (n : ℕ). n / 65536) even ∙ high r b hr in
    let alpha : l.odd / 65536 ≡ a = ap (λ (n : ℕ). n / 65536) odd ∙ high g a hg in
    λ i. record { rgba = red i ∷ green i ∷ blue i ∷ alpha i ∷ [] }

-- both channels of a number modulo 256
abbrev pub wrapped_of : ℕ → ℕ
wrapped_of x = x % 256 + x / 65536 % 256 * 65536

-- one sum adds to both channels of a lane
added :
    (n r b : ℕ) → n % 65536 < 256 → r < 32768
    → wrapped_of (n + (r + b * 65536)) ≡ (n % 65536 + r) % 256 + (n / 65536 + b) % 256 * 65536
added n r b hn hr =
    let below : (n + (r + b * 65536)) % 256 ≡ (n % 65536 + r) % 256 = omega arith in
    let above : (n + (r + b * 65536)) / 65536 ≡ n / 65536 + b = omega arith in
    λ i. below i + above i % 256 * 65536

-- two sums add to the three colours, and alpha stays
pub shifted_by :
    (l m : Lanes) (r g b : ℕ) → r < 32768 → g < 32768 → m.even ≡ wrapped_of (l.even + (r + b * 65536))
    → m.odd ≡ wrapped_of (l.odd + g)
    → pixel_in m
    ≡ pixel_of (wrapped_sum (l.even % 65536) r) (wrapped_sum (l.odd % 65536) g) (wrapped_sum (l.even / 65536) b)
    (l.odd / 65536)
shifted_by l m r g b hr hg even odd =
    let none : l.odd + g ≡ l.odd + (g + 0 * 65536) = omega arith in
    let kept : (l.odd / 65536 + 0) % 256 ≡ l.odd / 65536 = omega arith in
    let alone : wrapped_of (l.odd + g) ≡ (l.odd % 65536 + g) % 256 + l.odd / 65536 * 65536 =
    ap wrapped_of none ∙ added l.odd g 0 l.green hg
    ∙ ap (λ (n : ℕ). (l.odd % 65536 + g) % 256 + n * 65536) kept in
    made m (wrapped_sum (l.even % 65536) r) (wrapped_sum (l.odd % 65536) g) (wrapped_sum (l.even / 65536) b)
    (l.odd / 65536) (omega arith) (omega arith) (even ∙ added l.even r b l.red hr) (odd ∙ alone)

-- to take a number off a channel is to add what it lacks to 256
pub less_2 : (x d : ℕ) → (x + (d + 254)) % 256 ≡ wrapped_sum x (wrapped_difference d 2)
less_2 x d = omega arith

pub less_32 : (x d : ℕ) → (x + (d + 224)) % 256 ≡ wrapped_sum x (wrapped_difference d 32)
less_32 x d = omega arith

pub less_40 :
    (x g d : ℕ)
    → (x + (g + d + 216)) % 256 ≡ wrapped_sum x (wrapped_sum (wrapped_difference g 32) (wrapped_difference d 8))
less_40 x g d = omega arith

-- a lane is its two channels
pub whole : (n : ℕ) → n % 65536 + n / 65536 * 65536 ≡ n
whole n = omega arith

-- two products of a lane each hold the sum of the slot formula
pub two_lanes :
    (r g b a : ℕ) → r < 256 → g < 256
    → ((r + b * 65536) * 0x3_0007 + (g + a * 65536) * 0x5_000b) / 0x1_0000 % 64 ≡ (3 * r + 5 * g + 7 * b + 11 * a) % 64
two_lanes r g b a hr hg =
    let sum = 3 * r + 5 * g + 7 * b + 11 * a in
    let products = (r + b * 65536) * 0x3_0007 + (g + a * 65536) * 0x5_000b in
    let above : products / 0x1_0000 ≡ sum + 64 * (1024 * (3 * b + 5 * a)) = omega arith in
    ap (λ (n : ℕ). n % 64) above ∙ add-mul-mod_self_left sum 64 (1024 * (3 * b + 5 * a))
