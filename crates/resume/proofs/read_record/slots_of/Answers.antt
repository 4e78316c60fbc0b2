-- `resume::read_record::slots_of` meets its contract: at each turn the slots passed are the first pixels of the bytes.
-- Assumes nothing.
use Rattle.std.specs.Prelude.{◌*◌, List, [], ◌∷◌, ◌++◌}
use Rattle.std.proofs.Common.{rules, arith, add-one, ap, sym, ◌∙◌, length-set}
use Rattle.std.proofs.Math.Seq.{take-suc-set}
use Rattle.pixel.specs.declared.Pixel.{Pixel}
use Rattle.pixel.specs.Bytes.{pixels_from}
use Rattle.rules.proofs.PastingLaws.{whole_tail}
use Rattle.resume.proofs.Slots.{pixels_more}
use Rattle.resume.proofs.read_record.slots_of.Goals as goal

pub loop-i-init : goal.loop-i-init
unfolding pixels_from
loop-i-init c = search rules

pub loop-i-preserved : goal.loop-i-preserved
loop-i-preserved c =
    let l = c.loop-i in
    let bytes = c.args.bytes.now in
    let v = c.pixel_of in (
      simp length-set l.invariant.0,
      rw (add-one, take-suc-set l.slots l.i v.result (omega arith))
          (ap (λ (xs : List Pixel). xs ++ (v.result ∷ [])) l.invariant.1 ∙ rw (v.ensures, whole_tail bytes (l.i * 4)) (sym (pixels_more l.i bytes))),
    )
