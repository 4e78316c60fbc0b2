-- `walk::lanes::Lanes::after_luma` meets its contract: a sum for each lane adds green's six bits less 32, and to red and blue
-- their four bits less 8 as well.
-- Assumes nothing.
use mathlib.Core.Path.{◌≡◌, ◌∙◌, ap}
use mathlib.Core.List.{[]}
use Prim.Native.Nat.{ℕ, ◌+◌, ◌*◌, ◌/◌, ◌%◌, ◌<◌}
use native.Mathlib.Omega.{arith}
use Rattle.pixel.specs.Colour.{pixel_of, wrapped_sum}
use Rattle.rules.specs.Chunk.{colour_of, LUMA}
use Rattle.walk.specs.declared.lanes.Lanes.{Lanes}
use Rattle.walk.specs.Lanes.{pixel_in}
use Rattle.walk.proofs.LanesLaws.{less_32, less_40, shifted_by, wrapped_of}
use Rattle.walk.proofs.lanes.Lanes.after_luma.Goals as goal

-- what is added to the even lane, channel by channel
parts : (n g r b : ℕ) → n + (g * 0x1_0001 + r + b * 65536 + 0xd8_00d8) ≡ n + (g + r + 216 + (g + b + 216) * 65536)
parts n g r b = omega arith

-- the lower channel's sum does not reach the upper
small : (byte second : ℕ) → second < 256 → byte % 64 + second / 16 + 216 < 32768
small byte second h = omega arith

small_green : (byte : ℕ) → byte % 64 + 224 < 32768
small_green byte = omega arith

-- the pixel of the sums is LUMA's
sums :
    (l : Lanes) (g r b : ℕ)
    → pixel_of (wrapped_sum (l.even % 65536) (g + r + 216)) (wrapped_sum (l.odd % 65536) (g + 224)) (wrapped_sum (l.even / 65536) (g + b + 216)) (l.odd / 65536)
    ≡ colour_of [] (pixel_in l) (LUMA g r b)
unfolding colour_of pixel_in
sums l g r b = rw (less_40 (l.even % 65536) g r, less_32 (l.odd % 65536) g, less_40 (l.even / 65536) g b)

pub returns : goal.returns
returns c =
    let l = c.args.self in
    let second = c.args.second in
    let byte = c.args.byte in
    let g = byte % 64 in
    let r = second / 16 in
    let b = second % 16 in
    shifted_by l _ (g + r + 216) (g + 224) (g + b + 216) (small byte second (omega arith)) (small_green byte)
    ((rw (c.from-near.ensures, c.from-others.ensures) at c.wrapped.ensures) ∙ ap wrapped_of (parts l.even g r b))
    (rw c.from-near.ensures at c.wrapped-2.ensures)
    ∙ sums l g r b
