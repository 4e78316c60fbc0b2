-- `walk::whole_in` meets its contract: where the input fits it is quick rounds from the start and then the careful loop.
-- Assumes nothing.
use mathlib.Core.Path.{◌≡◌, refl, ◌∙◌, ap}
use mathlib.Core.Bool.{Bool, true, false, cond}
use mathlib.Core.List.{map}
use Prim.Native.Nat.{ℕ}
use lib.Dec.{eqb}
use lib.ListN.{replicate}
use Rattle.pixel.specs.Colour.{start_pixel, with_alpha}
use Rattle.pixel.specs.Packed.{unpacked}
use Rattle.rules.specs.Decode.{decoder_keeps}
use Rattle.rules.specs.Reading.{start_place}
use Rattle.walk.specs.Walking.{end_of, walking_into}
use Rattle.walk.proofs.Fitting.{fitted_by}
use Rattle.walk.proofs.Reach.{stands_first, ends_whole, ends_after}
use Rattle.walk.proofs.whole_in.Goals as goal

-- nothing is stored at the start
clear_slots : map unpacked (replicate 64 0) ≡ start_place.slots
unfolding unpacked start_place
clear_slots = refl

start_kept : (wanted : ℕ) → decoder_keeps wanted start_pixel ≡ start_pixel
unfolding decoder_keeps
start_kept wanted = go (eqb wanted 3)
  where
    go : (three : Bool) → cond three (with_alpha start_pixel 255) start_pixel ≡ start_pixel
    go true = refl
    go false = refl

pub returns-then-not-fits : goal.returns-then-not-fits
unfolding walking_into start_place
returns-then-not-fits g c = rw (← c.n_pixels-missing.ensures, ← c.fits.ensures, c.if-not-fits.true)

pub rounds-spot-requires : goal.rounds-spot-requires
unfolding start_place
rounds-spot-requires g c =
    λ l holds. stands_first (fitted_by c.args.header (g.L.Layout.CHANNELS) c.args.message.now c.n_pixels-missing.result c.n_pixels-missing.result start_place c.args.out.now c.fits.ensures c.if-not-fits.false) _ (holds ∙ c.pack-start.ensures) (start_kept g.L.Layout.CHANNELS)

pub returns-then-spot-missing : goal.returns-then-spot-missing
unfolding walking_into start_place
returns-then-spot-missing g c =
    rw (← c.n_pixels-missing.ensures, ← c.fits.ensures, c.if-not-fits.false)
    (ap end_of
    (ends_whole (fitted_by c.args.header (g.L.Layout.CHANNELS) c.args.message.now c.n_pixels-missing.result c.n_pixels-missing.result start_place c.args.out.now c.fits.ensures c.if-not-fits.false) _ (c.rounds-spot.ensures.1 ∙ c.pack-start.ensures) clear_slots
    c.rounds-spot.ensures.2 c.if-spot-missing.true))

pub returns : goal.returns
unfolding walking_into start_place
returns g c =
    rw (← c.n_pixels-missing.ensures, ← c.fits.ensures, c.if-not-fits.false)
    (ap end_of
    (ends_after (fitted_by c.args.header (g.L.Layout.CHANNELS) c.args.message.now c.n_pixels-missing.result c.n_pixels-missing.result start_place c.args.out.now c.fits.ensures c.if-not-fits.false) _ (c.rounds-spot.ensures.1 ∙ c.pack-start.ensures) clear_slots
    c.rounds-spot.ensures.2 c.careful-end.ensures))
