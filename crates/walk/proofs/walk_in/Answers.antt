-- `walk::walk_in` meets its contract: where the input fits it is quick rounds and then the careful loop, and else nothing is
-- done.
-- Assumes nothing.
use mathlib.Core.Path.{◌≡◌, sym, subst, ◌∙◌}
use Prim.{tt}
use lib.Dec.{T}
use Rattle.pixel.specs.declared.Pixel.{Pixel}
use Rattle.rules.specs.Decode.{decoder_keeps}
use Rattle.walk.specs.Walking.{place_of, walking_into}
use Rattle.walk.proofs.Fitting.{fitted_by}
use Rattle.walk.proofs.Reach.{lies_first, stands_first, ends_first, ends_after, arrives}
use Rattle.walk.proofs.walk_in.Goals as goal

pub returns-then-not-fits : goal.returns-then-not-fits
unfolding walking_into
returns-then-not-fits g c = rw (← c.fits.ensures, c.if-not-fits.true)

pub careful-end-requires : goal.careful-end-requires
careful-end-requires g c = lies_first (fitted_by c.args.header (g.L.Layout.CHANNELS) c.args.message.now c.args.left c.args.steps (place_of c.args.place) c.args.out.now c.fits.ensures c.if-not-fits.false) _ (c.of_packed.ensures ∙ c.of_pixel-current.ensures)

pub walked-requires : goal.walked-requires
walked-requires g c = arrives (fitted_by c.args.header (g.L.Layout.CHANNELS) c.args.message.now c.args.left c.args.steps (place_of c.args.place) c.args.out.now c.fits.ensures c.if-not-fits.false) c.careful-end.ensures

pub returns-then-not-may_follow : goal.returns-then-not-may_follow
unfolding walking_into
returns-then-not-may_follow g c =
    rw (← c.fits.ensures, c.if-not-fits.false)
    (c.walked.ensures _
    ∙ ends_first (fitted_by c.args.header (g.L.Layout.CHANNELS) c.args.message.now c.args.left c.args.steps (place_of c.args.place) c.args.out.now c.fits.ensures c.if-not-fits.false) _ (c.of_packed.ensures ∙ c.of_pixel-current.ensures) c.hold-held.ensures
    c.careful-end.ensures)

pub rounds-spot-requires : goal.rounds-spot-requires
rounds-spot-requires g c =
    λ l holds.
    stands_first (fitted_by c.args.header (g.L.Layout.CHANNELS) c.args.message.now c.args.left c.args.steps (place_of c.args.place) c.args.out.now c.fits.ensures c.if-not-fits.false) _ (holds ∙ c.of_pixel-current.ensures)
    (subst (λ (p : Pixel). decoder_keeps (g.L.Layout.CHANNELS) p ≡ p) c.of_pixel-current.ensures (c.may_follow.ensures (subst T (sym (c.if-not-may_follow.false)) tt)))

pub walked-requires-2 : goal.walked-requires-2
walked-requires-2 g c = arrives (fitted_by c.args.header (g.L.Layout.CHANNELS) c.args.message.now c.args.left c.args.steps (place_of c.args.place) c.args.out.now c.fits.ensures c.if-not-fits.false) c.careful-end-2.ensures

pub returns : goal.returns
unfolding walking_into
returns g c =
    rw (← c.fits.ensures, c.if-not-fits.false)
    (c.walked-2.ensures _
    ∙ ends_after (fitted_by c.args.header (g.L.Layout.CHANNELS) c.args.message.now c.args.left c.args.steps (place_of c.args.place) c.args.out.now c.fits.ensures c.if-not-fits.false) _ (c.rounds-spot.ensures.1 ∙ c.of_pixel-current.ensures) c.hold-held.ensures
    c.rounds-spot.ensures.2 c.careful-end-2.ensures)
