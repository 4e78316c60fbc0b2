-- What owning a decoder tells of its state: numbers that fit, four bytes a pixel, 64 slots.
-- Assumes nothing.
use Prim.Native.Nat.{ℕ, zero, suc, ◌<◌}
use mathlib.Core.Path.{◌≡◌}
use mathlib.Core.List.{List, [], ◌∷◌}
use native.Mathlib.Omega.{arith}
use lib.ListN.{length, get_or}
use mir.Val.{Val}
use denote.Array.{each}
use denote.Laws.{Is}
use denote.Shadow.{shadow}
use Rattle.pixel.specs.declared.Pixel.{Pixel}
use Rattle.pixel.specs.Colour.{clear_pixel}
use Rattle.pixel.specs.contracts.Pixel as pixel
use Rattle.rules.specs.Step.{Typed}
use Rattle.resume.specs.declared.Decoder.{Decoder}
use Rattle.resume.specs.State.{state_of}
use Rattle.resume.specs.contracts.Decoder as decoder

-- a pixel has four bytes
pub pixel_four : (p : Pixel) (vs : List Val) → Is pixel.the_row p vs → length p.rgba ≡ 4
pixel_four p vs is = is.1.1.0.1.0.1

-- each of some pixels has four bytes
slots_four :
    (ps : List Pixel) (us : List Val)
    → shadow (each (pixel.the_row).Denot (pixel.the_row).own_val ps us)
    → (i : ℕ) → i < length ps → length (get_or ps i clear_pixel).rgba ≡ 4
slots_four [] us are i h = absurd (omega arith)
slots_four (p ∷ ps) [] are i h = absurd are
slots_four (p ∷ ps) (u ∷ us) are zero h = pixel_four p (u ∷ []) are.0
slots_four (p ∷ ps) (u ∷ us) are (suc i) h = slots_four ps us are.1 i (omega arith)

-- what the types of a decoder's fields say of its state
pub typed : (d : Decoder) (vs : List Val) → Is decoder.the_row d vs → Typed (state_of d)
typed d vs is =
    let fields = is.1.1 in
    let header = fields.0.1.1 in
    let slots = fields.1.1.1.1.1.1.0 in
    let many : length d.slots ≡ 64 = slots.1.0.1 in
    record {
      width_fits = header.0.1;
      height_fits = header.1.0.1;
      at_fits = fields.1.1.0.1;
      number_fits = fields.1.1.1.1.1.1.1.0.1;
      current_is = pixel_four d.current _ fields.1.1.1.1.1.0;
      slots_are = many;
      slot_is = λ i h. slots_four d.slots slots.0 slots.1.1 i (omega arith);
    }
