-- `strict::check` meets its contract: at the loop's head, which the quick loop led to, the check from here is the check
-- of the message.
-- Assumes nothing.
use Rattle.std.specs.Prelude.{Some}
use mathlib.Core.Path.{refl, sym, ◌∙◌, ap}
use Prim.Native.Nat.{◌<◌}
use native.Mathlib.Omega.{arith}
use Rattle.rules.specs.Chunk.{size_of}
use Rattle.chunk.specs.declared.Found.TheVariants as found
use Rattle.chunk.specs.Found.{chunk_of}
use Rattle.strict.proofs.Loop.{begins, finds, within, run_some, ends, ends_cut, ends_stuck, ends_run, after_index, after_run, after_colour}
use Rattle.strict.proofs.check.Goals as goal

pub quick-at-requires : goal.quick-at-requires
quick-at-requires c = begins _ _ c.requires _ c.n_pixels.ensures

pub returns-in_default : goal.returns-in_default
returns-in_default c =
    let turn = c.loop-left-test.true in
    sym (ends_cut c.loop-left.invariant turn (finds c.args.header c.args.message.now c.loop-left.at _ _ c.in_default.is c.read.ensures))

pub loop-left-preserved-in-Index : goal.loop-left-preserved-in-Index
loop-left-preserved-in-Index c =
    after_index c.loop-left.invariant c.loop-left-test.true _ (finds c.args.header c.args.message.now c.loop-left.at _ _ (c.in-Some.is ∙ ap Some c.in-Index.is) c.read.ensures)

pub returns-then-left-times : goal.returns-then-left-times
returns-then-left-times c =
    sym (ends_run c.loop-left.invariant c.loop-left-test.true _ (finds c.args.header c.args.message.now c.loop-left.at _ _ (c.in-Some.is ∙ ap Some c.in-Run.is) c.read.ensures) c.if-left-times.true)

pub loop-left-smaller-in-Run : goal.loop-left-smaller-in-Run
loop-left-smaller-in-Run c =
    let some = run_some c.loop-left.invariant _ (finds c.args.header c.args.message.now c.loop-left.at _ _ (c.in-Some.is ∙ ap Some c.in-Run.is) c.read.ensures) in
    omega (arith, some, c.loop-left-test.true)

pub loop-left-preserved-in-Run : goal.loop-left-preserved-in-Run
loop-left-preserved-in-Run c =
    after_run c.loop-left.invariant c.loop-left-test.true _ (finds c.args.header c.args.message.now c.loop-left.at _ _ (c.in-Some.is ∙ ap Some c.in-Run.is) c.read.ensures) c.if-left-times.false

pub returns-then-size-eq0 : goal.returns-then-size-eq0
returns-then-size-eq0 c =
    let stands = finds c.args.header c.args.message.now c.loop-left.at _ _ (c.in-Some.is ∙ ap Some c.in-Colour.is) c.read.ensures in
    let none = sym c.size-size.ensures ∙ c.if-size-eq0.true in
    sym (ends_stuck c.loop-left.invariant c.loop-left-test.true c.in-Colour.colour stands none)

pub overflow_add-at-in-Colour : goal.overflow_add-at-in-Colour
overflow_add-at-in-Colour c =
    let colour = c.in-Colour.colour in
    let stands = finds c.args.header c.args.message.now c.loop-left.at _ _ (c.in-Some.is ∙ ap Some c.in-Colour.is) c.read.ensures in
    let inside = within c.loop-left.invariant (Some (found.Colour colour)) (chunk_of colour) refl stands in
    record { fits = omega (arith, c.size-size.ensures, inside) }

pub loop-left-preserved : goal.loop-left-preserved
loop-left-preserved c =
    let colour = c.in-Colour.colour in
    let stands = finds c.args.header c.args.message.now c.loop-left.at _ _ (c.in-Some.is ∙ ap Some c.in-Colour.is) c.read.ensures in
    let size = c.size-size.ensures in
    let some : 0 < size_of (chunk_of colour) = rw (← size) (omega (arith, c.if-size-eq0.false)) in
    rw size (after_colour c.loop-left.invariant c.loop-left-test.true colour stands some)

pub returns : goal.returns
returns c =
    c.close.ensures ∙ sym (ends c.loop-left.invariant (omega (arith, c.loop-left-test.false)))
