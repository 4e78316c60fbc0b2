-- `walk::lanes::Lanes::after_diff` meets its contract: a sum for each lane adds the two bits of each colour, less 2.
-- Assumes nothing.
use mathlib.Core.Path.{◌≡◌, ◌∙◌, ap}
use mathlib.Core.List.{[]}
use Prim.Native.Nat.{ℕ, ◌+◌, ◌*◌, ◌/◌, ◌%◌}
use native.Mathlib.Omega.{arith}
use Rattle.pixel.specs.Colour.{pixel_of, wrapped_sum}
use Rattle.rules.specs.Chunk.{colour_of, DIFF}
use Rattle.walk.specs.declared.lanes.Lanes.{Lanes}
use Rattle.walk.specs.Lanes.{pixel_in}
use Rattle.walk.proofs.LanesLaws.{less_2, shifted_by, wrapped_of}
use Rattle.walk.proofs.lanes.Lanes.after_diff.Goals as goal

-- what is added to the even lane, channel by channel
parts : (n r b : ℕ) → n + (r + b * 65536 + 0xfe_00fe) ≡ n + (r + 254 + (b + 254) * 65536)
parts n r b = omega arith

-- the pixel of the sums is DIFF's
sums :
    (l : Lanes) (r g b : ℕ)
    → pixel_of (wrapped_sum (l.even % 65536) (r + 254)) (wrapped_sum (l.odd % 65536) (g + 254)) (wrapped_sum (l.even / 65536) (b + 254)) (l.odd / 65536)
    ≡ colour_of [] (pixel_in l) (DIFF r g b)
unfolding colour_of pixel_in
sums l r g b = rw (less_2 (l.even % 65536) r, less_2 (l.odd % 65536) g, less_2 (l.even / 65536) b)

pub returns : goal.returns
returns c =
    let l = c.args.self in
    let byte = c.args.byte in
    let r = byte / 16 % 4 in
    let g = byte / 4 % 4 in
    let b = byte % 4 in
    shifted_by l _ (r + 254) (g + 254) (b + 254) (omega arith) (omega arith)
    ((rw c.from-bits.ensures at c.wrapped.ensures) ∙ ap wrapped_of (parts l.even r b))
    (rw c.from-bits.ensures at c.wrapped-2.ensures)
    ∙ sums l r g b
