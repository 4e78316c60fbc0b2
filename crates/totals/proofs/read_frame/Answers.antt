-- `totals::read_frame` meets its contract: the decode's refusals, then 2, then 20, and else a frame that fits.
use Rattle.std.proofs.Common.{rules}
use mathlib.Core.Path.{◌≡◌, refl, sym, ◌∙◌, ap}
use Prim.Native.Nat.{ℕ}
use native.Mathlib.Omega.{arith}
use lib.ListN.{length}
use Rattle.pixel.specs.declared.types.Channels.{Channels}
use Rattle.pixel.specs.declared.types.Channels.TheVariants.{Rgb, Rgba}
use Rattle.decode.specs.Decoded.{answer_of}
use Rattle.totals.proofs.Decoded.{decoded_whole}
use Rattle.totals.proofs.Frames.{frame_refused, frame_three, frame_four, unread_as, fits_as, other_as}
use Rattle.totals.proofs.read_frame.Goals as goal

-- channels that are not three are four
four_else : (c : Channels) → (c ≡ Rgb → ⊥) → c ≡ Rgba
four_else Rgb not-three = absurd (not-three refl)
four_else Rgba not-three = refl

pub returns-in_err-used : goal.returns-in_err-used
returns-in_err-used c =
    let refuses = sym c.decode.ensures.0 ∙ ap answer_of c.in_err-used.was in
    let e = unread_as c.args.cells _ _ (frame_refused c.args.message.now (length c.args.frame.now) _ refuses) in
    rw e (search rules)

pub returns-in_err-header : goal.returns-in_err-header
returns-in_err-header c =
    let w = decoded_whole c.args.message.now (length c.args.frame.now) _ _ (sym c.decode.ensures.0 ∙ ap answer_of c.in_ok-used.was) in
    let differs = sym w.1 ∙ sym c.decode_header.ensures ∙ c.in_err-header.was in
    absurd (let z : ◌≡◌ {A = ℕ} 0 1 = cc in omega arith)

pub returns-then-eq : goal.returns-then-eq
returns-then-eq c =
    let is : c.in_ok-header.header.channels ≡ Rgb = search rules in
    let three = frame_three c.args.message.now (length c.args.frame.now) c.in_ok-header.header _ _ (sym c.decode_header.ensures ∙ c.in_ok-header.was) (sym c.decode.ensures.0 ∙ ap answer_of c.in_ok-used.was) is in
    (sym (unread_as _ _ _ three), c.decode.ensures.1)

pub returns-then-pixels-cells : goal.returns-then-pixels-cells
returns-then-pixels-cells c =
    let other : c.in_ok-header.header.channels ≡ Rgb → ⊥ = λ e. search (rules, e) in
    let pixels = c.n_pixels-pixels.ensures in
    let four = frame_four c.args.message.now (length c.args.frame.now) c.in_ok-header.header _ _ (sym c.decode_header.ensures ∙ c.in_ok-header.was) (sym c.decode.ensures.0 ∙ ap answer_of c.in_ok-used.was) (four_else _ other) in
    let n = c.args.cells in
    rw pixels (sym (other_as n _ _ _ _ four (λ e. c.if-pixels-cells.true (pixels ∙ e))), c.decode.ensures.1)

pub returns : goal.returns
returns c =
    let other : c.in_ok-header.header.channels ≡ Rgb → ⊥ = λ e. search (rules, e) in
    let pixels = c.n_pixels-pixels.ensures in
    let four = frame_four c.args.message.now (length c.args.frame.now) c.in_ok-header.header _ _ (sym c.decode_header.ensures ∙ c.in_ok-header.was) (sym c.decode.ensures.0 ∙ ap answer_of c.in_ok-used.was) (four_else _ other) in
    let n = c.args.cells in
    (sym (fits_as n _ _ _ _ four (sym pixels ∙ c.if-pixels-cells.false)), c.decode.ensures.1)
