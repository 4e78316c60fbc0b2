-- `walk::careful::careful` meets its contract: at the loop's head what is left to walk is what was to be walked from
-- the first spot.
-- Assumes nothing.
use Rattle.std.specs.Prelude.{Some}
use mathlib.Core.Path.{◌≡◌, refl, sym, ◌∙◌, ap, ap₂}
use mathlib.Core.List.{List}
use Prim.Native.Nat.{ℕ, ◌+◌, ◌-◌}
use native.Mathlib.Omega.{arith}
use Rattle.pixel.specs.declared.Pixel.{Pixel}
use Rattle.pixel.specs.Packed.{unpacked}
use Rattle.header.specs.declared.Header.{Header}
use Rattle.rules.specs.Decode.{decoder_keeps}
use Rattle.rules.proofs.ChunkLaws.{slot_small}
use Rattle.walk.specs.Walking.{walking}
use Rattle.walk.specs.declared.spot.Spot.{Spot}
use Rattle.walk.specs.Lanes.{pixel_in}
use Rattle.walk.specs.Asked.{place_in}
use Rattle.walk.proofs.Loop.{place_at, finds, index_within, run_some, colour_within, room_for, ends_bound, ends_cut, after_index, after_run, after_colour}
use Rattle.walk.proofs.Packed.{recoloured, unpacked_set, unpacked_slot}
use Rattle.walk.proofs.Pasting.{filled_one}
use Rattle.walk.proofs.careful.careful.Goals as goal

-- the locals' first place is that of the spot that was given
given_place :
    (header : Header) (w : ℕ) (m : List ℕ) (from : ℕ) (spot : Spot) (slots : List Pixel) (out : List ℕ) (p : Pixel)
    → p ≡ pixel_in spot.lanes
    → walking header w m from spot.spare (place_in from spot slots) out
    ≡ walking header w m from (spot.done + spot.spare - spot.done) (place_at spot.at (from + spot.done) p slots) out
given_place header w m from spot slots out p is =
    ap₂
    (λ (n : ℕ) (q : Pixel). walking header w m from n (place_at spot.at (from + spot.done) q slots) out)
    (omega arith) (sym is)

pub returns-in_default : goal.returns-in_default
returns-in_default g c =
    let h = c.loop-done.invariant in
    let cut = finds h _ _ c.read.ensures c.in_default.is in
    record {
      within = h.within;
      whole = λ from header of.
          given_place header _ _ from c.args.spot _ _ _ c.join-current.ensures ∙ ends_cut h c.loop-done-test.true cut from header of
          ∙ rw c.of_packed.ensures;
    }

pub bounds-held-slot : goal.bounds-held-slot
bounds-held-slot g c =
    let h = c.loop-done.invariant in
    index_within h _ (finds h _ _ c.read.ensures (c.in-Some.is ∙ ap Some c.in-Index.is))

pub overflow_sub-limit : goal.overflow_sub-limit
overflow_sub-limit g c = (run_some c.loop-done.invariant _ _ (finds c.loop-done.invariant _ _ c.read.ensures (c.in-Some.is ∙ ap Some c.in-Run.is)) c.loop-done-test.true c.min-n.ensures)

pub loop-done-smaller-in-Run : goal.loop-done-smaller-in-Run
loop-done-smaller-in-Run g c = omega (arith, c.min-n.ensures, (run_some c.loop-done.invariant _ _ (finds c.loop-done.invariant _ _ c.read.ensures (c.in-Some.is ∙ ap Some c.in-Run.is)) c.loop-done-test.true c.min-n.ensures))

pub overflow_add-at-in-Colour : goal.overflow_add-at-in-Colour
overflow_add-at-in-Colour g c =
    let h = c.loop-done.invariant in
    let within = colour_within h c.in-Colour.colour (finds h _ _ c.read.ensures (c.in-Some.is ∙ ap Some c.in-Colour.is)) in
    record { fits = omega (arith, c.size-at.ensures, within) }

pub offset_bounds-held-i : goal.offset_bounds-held-i
offset_bounds-held-i g c = record { fits = omega (arith, c.slot-i.ensures, slot_small (unpacked c.keep-current-in-Colour.result)) }

pub bounds-held-i : goal.bounds-held-i
bounds-held-i g c = omega (arith, c.slot-i.ensures, slot_small (unpacked c.keep-current-in-Colour.result))

pub loop-done-preserved-in-Index : goal.loop-done-preserved-in-Index
loop-done-preserved-in-Index g c =
    let h = c.loop-done.invariant in
    after_index h c.loop-done-test.true _ _ _ (filled_one _ _ _ (rw c.CHANNELS.ensures at c.put.ensures)) _
    (finds h _ _ c.read.ensures (c.in-Some.is ∙ ap Some c.in-Index.is)) refl
    (c.keep-current.ensures ∙ ap (decoder_keeps _) (unpacked_slot c.loop-done.held _))

pub fill-requires : goal.fill-requires
fill-requires g c =
    let h = c.loop-done.invariant in
    let found = finds h _ _ c.read.ensures (c.in-Some.is ∙ ap Some c.in-Run.is) in
    (run_some h _ _ found c.loop-done-test.true c.min-n.ensures, rw c.CHANNELS-in-Run.ensures (room_for h c.loop-done-test.true _ (omega (arith, c.min-n.ensures))))

pub loop-done-preserved-in-Run : goal.loop-done-preserved-in-Run
loop-done-preserved-in-Run g c =
    let h = c.loop-done.invariant in
    after_run h c.loop-done-test.true _ _ _ (rw c.CHANNELS-in-Run.ensures at c.fill.ensures) _
    (finds h _ _ c.read.ensures (c.in-Some.is ∙ ap Some c.in-Run.is)) c.min-n.ensures
    c.keep-current-in-Run.ensures _ refl _ c.min-bound-in-Run.ensures

pub loop-done-preserved : goal.loop-done-preserved
loop-done-preserved g c =
    let h = c.loop-done.invariant in
    let kept = c.keep-current-in-Colour in
    let is =
    recoloured _ _ _ _ c.in-Colour.colour c.alpha.ensures c.alpha-alpha.ensures c.recolour.ensures in
    rw (c.size-at.ensures, unpacked_set c.loop-done.held c.slot-i.result kept.result, c.slot-i.ensures)
    (after_colour h c.loop-done-test.true _ _ _ (filled_one _ _ _ (rw c.CHANNELS-in-Colour.ensures at c.put-in-Colour.ensures)) c.in-Colour.colour
    (finds h _ _ c.read.ensures (c.in-Some.is ∙ ap Some c.in-Colour.is)) refl (kept.ensures ∙ ap (decoder_keeps _) is))

pub returns : goal.returns
returns g c =
    let h = c.loop-done.invariant in
    record {
      within = h.within;
      whole = λ from header of.
          given_place header _ _ from c.args.spot _ _ _ c.join-current.ensures ∙ ends_bound h c.loop-done-test.false from header of
          ∙ rw c.of_packed-2.ensures;
    }
