-- `walk::quick::quick` meets its contract: at the loop's head what is left to walk is what was left at its start.
-- Assumes nothing.
use mathlib.Core.List.{List, map}
use mathlib.Core.Path.{refl, sym, subst, ◌∙◌, ap}
use Prim.Native.Nat.{ℕ, ◌+◌, ◌-◌, ◌*◌, ◌≤◌}
use native.Mathlib.Omega.{arith}
use lib.ListN.{get_or}
use Rattle.pixel.specs.declared.Pixel.{Pixel}
use Rattle.pixel.specs.declared.types.Channels.{Channels}
use Rattle.pixel.specs.Packed.{unpacked}
use Rattle.rules.specs.Bytes.{pasted, repeated}
use Rattle.rules.specs.Chunk.{colour_of}
use Rattle.rules.specs.Decode.{decoder_keeps}
use Rattle.walk.specs.declared.spot.Spot.{Spot}
use Rattle.walk.specs.Asked.{bytes_in, Onward, spot_at}
use Rattle.walk.proofs.Packed.{unpacked_slot}
use Rattle.walk.proofs.QuickLaws.{LeftWith, left_there, left_so, room_for}
use Rattle.walk.proofs.QuickLaws.{after_index, after_diff, after_luma, after_rgb, after_rgba, after_run, after_run_out}
use Rattle.walk.proofs.quick.quick.Goals as goal
use Rattle.walk.proofs.quick.quick.Goals.{else-loop-quota-test, then-loop-quota-test+else-byte-lt64+then-byte-ge192+else-byte+then-byte-2+in-Rgb, then-loop-quota-test+else-byte-lt64+then-byte-ge192+else-byte+else-byte-2+then-missing-done}

-- the spot at the loop's start is the one that was given
from_first :
    {wanted : ℕ} {message : List ℕ} {source : Channels} {missing : ℕ} (given : Spot) {held : List Pixel} {before : List ℕ} (quota : ℕ)
    {spot : Spot} {slots : List Pixel} {out : List ℕ} → quota ≤ given.spare
    → Onward wanted message source missing (spot_at given.at given.done (given.spare - quota + quota) given.lanes) held before spot slots out
    → Onward wanted message source missing given held before spot slots out
from_first {wanted} {message} {source} {missing} given {held} {before} quota {spot} {slots} {out} least o =
    subst
    (λ (spare : ℕ). Onward wanted message source missing (spot_at given.at given.done spare given.lanes) held before spot slots out)
    (omega arith) o

pub loop-quota-preserved-then-byte-lt64 : goal.loop-quota-preserved-then-byte-lt64
loop-quota-preserved-then-byte-lt64 g c =
    let n = g.L.Layout.CHANNELS in
    let l = c.loop-quota in
    let kept = c.keep-kept.ensures in
    after_index l.invariant c.loop-quota-test.true g.met.L.Layout.at_most_four _ _ _ refl c.if-byte-lt64.true
    (c.of_packed-l.ensures ∙ kept ∙ ap (decoder_keeps n) (unpacked_slot l.held (get_or c.args.message.now l.at 0)))
    ((rw c.CHANNELS.ensures at c.put.ensures) ∙ ap (λ (p : Pixel). pasted (l.done * n) (bytes_in n p) l.out) (sym c.of_packed-l.ensures))

pub loop-quota-preserved-then-byte : goal.loop-quota-preserved-then-byte
unfolding colour_of
loop-quota-preserved-then-byte g c =
    after_rgb c.loop-quota.invariant c.loop-quota-test.true g.met.L.Layout.at_most_four _ _ _ refl _ c.store.ensures.0 c.store.ensures.1
    c.if-byte.true
    (rw c.alpha.ensures at c.lanes-l.ensures)

pub loop-quota-preserved-in-Rgba : goal.loop-quota-preserved-in-Rgba
unfolding decoder_keeps
loop-quota-preserved-in-Rgba g c = after_rgba c.loop-quota.invariant c.loop-quota-test.true g.met.L.Layout.at_most_four _ _ _ refl _ c.store-in-Rgba.ensures.0 c.store-in-Rgba.ensures.1
    c.in-Rgba.is c.if-byte-2.true c.lanes-l-in-Rgba.ensures

pub fill-requires : goal.fill-requires
fill-requires g c = (omega (arith, c.loop-quota.invariant.enough, c.if-byte-ge192.true, c.min-n.ensures), rw c.CHANNELS-else-byte-2.ensures (room_for c.loop-quota.invariant c.loop-quota-test.true _ (omega (arith, c.loop-quota.invariant.enough, c.min-n.ensures))))

pub loop-quota-preserved-else-missing-done : goal.loop-quota-preserved-else-missing-done
loop-quota-preserved-else-missing-done g c = after_run c.loop-quota.invariant c.loop-quota-test.true g.met.L.Layout.at_most_four _ _ refl c.if-byte-ge192.true (omega (arith, c.type_inv.message c.loop-quota.at, c.if-byte.false, c.if-byte-2.false)) _ c.min-n.ensures
    ((rw c.CHANNELS-else-byte-2.ensures at c.fill.ensures)
    ∙ ap (λ (p : Pixel). pasted (c.loop-quota.done * g.L.Layout.CHANNELS) (repeated c.min-n.result (bytes_in g.L.Layout.CHANNELS p)) c.loop-quota.out) c.join.ensures)
    c.if-missing-done.false

pub loop-quota-preserved-then-byte-lt128 : goal.loop-quota-preserved-then-byte-lt128
loop-quota-preserved-then-byte-lt128 g c = after_diff c.loop-quota.invariant c.loop-quota-test.true g.met.L.Layout.at_most_four _ _ _ refl _ c.store-then-byte-lt128.ensures.0 c.store-then-byte-lt128.ensures.1
    c.if-byte-lt64.false c.if-byte-lt128.true c.after_diff-l.ensures

pub loop-quota-preserved : goal.loop-quota-preserved
loop-quota-preserved g c = after_luma c.loop-quota.invariant c.loop-quota-test.true g.met.L.Layout.at_most_four _ _ _ refl _ c.store-else-byte-lt128.ensures.0 c.store-else-byte-lt128.ensures.1
    c.if-byte-lt128.false c.if-byte-ge192.false c.after_luma-l.ensures

-- how the loop is left: its test fails, an ff is stuck, or a run left fewer pixels
left :
    (g : _) (e : goal.After-row_known-1 g)
    → (let a = e.args in
    let q = e.min-quota.result in
    let first = spot_at a.spot.at a.spot.done (a.spot.spare - q + q) a.spot.lanes in
    LeftWith g.L.Layout.CHANNELS a.message.now a.source a.missing first (map unpacked a.held.now) a.out.now
    (a.spot.spare - q) (map unpacked e.loop-quota.held) e.loop-quota.l
    e.loop-quota-test.out e.loop-quota-test.at e.loop-quota-test.done e.loop-quota-test.quota)
left g e =
    let b = e.args.spot.spare - e.min-quota.result in
    let h = e.loop-quota.invariant in
    let l = e.loop-quota in
    elim e.loop-quota-test.branch [
      | else-loop-quota-test w ↦ left_so b l.quota (left_there h) w.out-is w.at-is w.done-is w.quota-is
      | then-loop-quota-test+else-byte-lt64+then-byte-ge192+else-byte+then-byte-2+in-Rgb w ↦
          left_so b l.quota (left_there h) w.out-is w.at-is w.done-is w.quota-is
      | then-loop-quota-test+else-byte-lt64+then-byte-ge192+else-byte+else-byte-2+then-missing-done w ↦
          left_so b (l.quota - 1) (
            after_run_out h w.loop-quota-test.true g.met.L.Layout.at_most_four _ _ refl w.if-byte-ge192.true
                (omega (arith, e.type_inv.message l.at, w.if-byte.false, w.if-byte-2.false)) _ w.min-n.ensures
                ((rw w.CHANNELS-else-byte-2.ensures at w.fill.ensures)
                ∙ ap (λ (p : Pixel). pasted (l.done * g.L.Layout.CHANNELS) (repeated w.min-n.result (bytes_in g.L.Layout.CHANNELS p)) l.out) w.join.ensures),
            w.fill.auto.out ∙ h.same_length,
          )
          w.out-is w.at-is w.done-is w.quota-is
    ]

pub returns : goal.returns
returns g c = from_first c.args.spot c.min-quota.result (omega (arith, c.min.ensures, c.min-quota.ensures)) (left g c).0
