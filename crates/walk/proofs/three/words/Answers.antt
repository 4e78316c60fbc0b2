-- `walk::three::words` meets its contract: each word is put after the last.
-- Assumes nothing.
use mathlib.Core.Path.{◌∙◌, ap}
use mathlib.Core.List.{◌++◌}
use Prim.Native.Nat.{◌+◌}
use native.Mathlib.Omega.{arith}
use Rattle.pixel.specs.Packed.{unpacked}
use Rattle.rules.specs.Bytes.{pasted}
use Rattle.rules.proofs.PastingLaws.{pasted_next}
use Rattle.walk.specs.Asked.{bytes_in}
use Rattle.walk.proofs.three.words.Goals as goal

pub returns : goal.returns
unfolding unpacked
returns c =
    let a = c.args in
    let x = bytes_in 4 (unpacked a.x) in
    let y = bytes_in 4 (unpacked a.y) in
    let z = bytes_in 4 (unpacked a.z) in
    c.put-3.ensures ∙ ap (pasted (a.at + 8) z) (c.put-2.ensures ∙ ap (pasted (a.at + 4) y) c.put.ensures ∙ pasted_next a.out.now a.at x y (omega arith)) ∙ pasted_next a.out.now a.at (x ++ y) z (omega arith)
