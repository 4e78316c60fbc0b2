-- What the loop of `three::ThreeLayout::put_many` keeps, and why it ends.
use mathlib.Core.Path.{◌≡◌, ◌∙◌}
use mathlib.Core.List.{List, [], ◌∷◌, ◌++◌}
use Prim.Native.Nat.{ℕ, ◌≤◌, ◌+◌, ◌-◌, ◌/◌, ◌%◌}
use lib.ListN.{length}
use Rattle.pixel.specs.declared.Pixel.{Pixel}
use Rattle.pixel.specs.Colour.{pixel_of}
use Rattle.pixel.specs.Packed.{unpacked}
use Rattle.rules.specs.Bytes.{repeated}
use Rattle.walk.specs.Asked.{bytes_in}
use Rattle.walk.proofs.Pasting.{Filled}
use Rattle.walk.proofs.three.ThreeLayout.put_many.Given as goal

-- the bytes of three words
abbrev pub twelve : ℕ → ℕ → ℕ → List ℕ
twelve x y z = bytes_in 4 (unpacked x) ++ (bytes_in 4 (unpacked y) ++ bytes_in 4 (unpacked z))

-- four pixels of three channels are three of four
pub regrouped :
    (x y z : Pixel) (r g b : ℕ) → x ≡ pixel_of r g b r → y ≡ pixel_of g b r g → z ≡ pixel_of b r g b
    → bytes_in 4 x ++ (bytes_in 4 y ++ bytes_in 4 z) ≡ repeated 4 (r ∷ g ∷ b ∷ [])
unfolding repeated
regrouped x y z r g b ex ey ez = rw (ex, ey, ez)

pub words :
    (p x y z r g b : ℕ) → unpacked x ≡ pixel_of r g b r → unpacked y ≡ pixel_of g b r g → unpacked z ≡ pixel_of b r g b
    → r ≡ p % 256 → g ≡ p / 256 % 256 → b ≡ p / 65536 % 256 → twelve x y z ≡ repeated 4 (bytes_in 3 (unpacked p))
unfolding unpacked
words p x y z r g b ex ey ez er eg eb =
    regrouped (unpacked x) (unpacked y) (unpacked z) r g b ex ey ez ∙ (λ i. repeated 4 (er i ∷ eg i ∷ eb i ∷ []))

abbrev pub invariant-loop-i : goal.invariant-loop-i
invariant-loop-i l = (l.at ≤ l.i) × (l.i ≤ l.last + 12) × ((l.i - l.at) % 3 ≡ 0)
    × (length l.out ≡ length l.initial.out) × Filled l.initial.out l.at (bytes_in 3 (unpacked l.p)) ((l.i - l.at) / 3) l.out
    × (twelve l.x l.y l.z ≡ repeated 4 (bytes_in 3 (unpacked l.p)))

abbrev pub decreases-loop-i : goal.decreases-loop-i
decreases-loop-i l = l.last - l.i
