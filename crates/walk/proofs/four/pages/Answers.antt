-- `walk::four::pages` meets its contract: each turn fills on from where the one before it ended.
-- Assumes nothing.
use mathlib.Core.Path.{refl, ◌∙◌}
use Prim.Native.Nat.{◌+◌}
use native.Mathlib.Omega.{arith}
use Rattle.walk.specs.Asked.{Fills}
use Rattle.walk.proofs.Pasting.{fills_none, fills_on}
use Rattle.walk.proofs.four.pages.Goals as goal

pub loop-i-init : goal.loop-i-init
loop-i-init c =
    let a = c.args in
    (refl, fills_none a.p a.at a.end a.out.now (omega arith))

pub loop-i-preserved : goal.loop-i-preserved
loop-i-preserved c =
    let l = c.loop-i in
    let page : Fills c.args.p l.i c.args.end l.out (l.i + 64) c.block.new.out = record { times = 16; on = refl; within = omega arith; filled = c.block.ensures } in
    (c.block.auto.out ∙ l.invariant.0, fills_on (l.i + 64) l.invariant.1 page (refl, refl, omega arith))
