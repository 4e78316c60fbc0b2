-- `walk::fits` meets its contract: each test is one of the definition's.
-- Assumes nothing.
use mathlib.Core.Path.{◌≡◌}
use Prim.Native.Nat.{ℕ, ◌+◌, ◌-◌, ◌*◌, ◌≤◌}
use native.Mathlib.Omega.{arith}
use borrow.Author.Tests.{le-leb, lt-leb, eq-eqb, ne_eqb}
use Rattle.header.specs.Header.{pixel_count}
use Rattle.header.proofs.Laws.{fitted, fitted_small}
use Rattle.walk.specs.Walking.{fits}
use Rattle.walk.proofs.fits.Goals as goal

-- pixel position and pixels left are the pixels, which are not too many
counted :
    (n count pixel left : ℕ) → n ≡ count → n ≤ 400000000 → pixel ≤ n → n - pixel ≡ left
    → (pixel + left ≡ count) × (left ≤ 400000000)
counted n count pixel left is small within rest = (omega arith, omega arith)

pub returns-then-not-dimensions_fit : goal.returns-then-not-dimensions_fit
unfolding fits
returns-then-not-dimensions_fit g c = rw (← c.dimensions_fit.ensures, c.if-not-dimensions_fit.true)

pub returns-then-message-at : goal.returns-then-message-at
unfolding fits
returns-then-message-at g c =
    let a = c.args in
    rw (fitted a.header c.dimensions_fit.ensures c.if-not-dimensions_fit.false, lt-leb a.at a.message c.if-message-at.true)

pub returns-then-pixels-pixel : goal.returns-then-pixels-pixel
unfolding fits
returns-then-pixels-pixel g c =
    let a = c.args in
    let n = c.n_pixels-pixels.ensures in
    rw (fitted a.header c.dimensions_fit.ensures c.if-not-dimensions_fit.false, le-leb a.at a.message c.if-message-at.false, ne_eqb (a.pixel + a.left) (pixel_count a.header) (λ e. omega (arith, e, c.if-pixels-pixel.true)))

pub returns-then-pixels-pixel-2 : goal.returns-then-pixels-pixel-2
unfolding fits
returns-then-pixels-pixel-2 g c =
    let a = c.args in
    let n = c.n_pixels-pixels.ensures in
    let within = c.if-pixels-pixel.false in
    rw (fitted a.header c.dimensions_fit.ensures c.if-not-dimensions_fit.false, le-leb a.at a.message c.if-message-at.false, ne_eqb (a.pixel + a.left) (pixel_count a.header) (λ e. c.if-pixels-pixel-2.true (omega (arith, e))))

pub returns-then-left-steps : goal.returns-then-left-steps
unfolding fits
returns-then-left-steps g c =
    let a = c.args in
    rw (fitted a.header c.dimensions_fit.ensures c.if-not-dimensions_fit.false, le-leb a.at a.message c.if-message-at.false, eq-eqb (a.pixel + a.left) (pixel_count a.header) (counted c.n_pixels-pixels.result (pixel_count c.args.header) c.args.pixel c.args.left c.n_pixels-pixels.ensures (fitted_small c.args.header c.dimensions_fit.ensures c.if-not-dimensions_fit.false c.n_pixels-pixels.ensures) c.if-pixels-pixel.false c.if-pixels-pixel-2.false).0, lt-leb a.steps (a.left + 1) c.if-left-steps.true)

pub returns-then-room-needed : goal.returns-then-room-needed
unfolding fits
returns-then-room-needed g c =
    let a = c.args in
    rw (fitted a.header c.dimensions_fit.ensures c.if-not-dimensions_fit.false, le-leb a.at a.message c.if-message-at.false, eq-eqb (a.pixel + a.left) (pixel_count a.header) (counted c.n_pixels-pixels.result (pixel_count c.args.header) c.args.pixel c.args.left c.n_pixels-pixels.ensures (fitted_small c.args.header c.dimensions_fit.ensures c.if-not-dimensions_fit.false c.n_pixels-pixels.ensures) c.if-pixels-pixel.false c.if-pixels-pixel-2.false).0, le-leb a.steps (a.left + 1) c.if-left-steps.false, lt-leb (a.left * g.L.Layout.CHANNELS) a.room (rw (← c.CHANNELS.ensures) c.if-room-needed.true))

pub returns : goal.returns
unfolding fits
returns g c =
    let a = c.args in
    rw (fitted a.header c.dimensions_fit.ensures c.if-not-dimensions_fit.false, le-leb a.at a.message c.if-message-at.false, eq-eqb (a.pixel + a.left) (pixel_count a.header) (counted c.n_pixels-pixels.result (pixel_count c.args.header) c.args.pixel c.args.left c.n_pixels-pixels.ensures (fitted_small c.args.header c.dimensions_fit.ensures c.if-not-dimensions_fit.false c.n_pixels-pixels.ensures) c.if-pixels-pixel.false c.if-pixels-pixel-2.false).0, le-leb a.steps (a.left + 1) c.if-left-steps.false, le-leb (a.left * g.L.Layout.CHANNELS) a.room (rw (← c.CHANNELS.ensures) c.if-room-needed.false))
