-- `resume::writer::Writer::number` meets its contract: the part from the place on starts with the number, and is
-- back in its place.
-- Assumes nothing.
use Rattle.std.specs.Prelude.{List, ◌++◌, ℕ, ◌≡◌, ◌≤◌, ◌+◌, ◌-◌, Ok, length, take, drop}
use Rattle.std.proofs.Common.{arith, rules, ap, sym, ◌∙◌, length-drop}
use borrow.Rule.Slice.PartMut.{put_mid}
use Rattle.number.specs.Seven.{seven_bits, writing_number, written_number}
use Rattle.rules.proofs.PastingLaws.{whole_tail, put_back}
use Rattle.resume.proofs.Parts.{number_written}
use Rattle.resume.proofs.writer.Writer.number.Goals as goal

module _ (value at : ℕ) (out : List ℕ) (fits : at + length (seven_bits value) ≤ length out) where
  abbrev part : List ℕ
  part = take (length out - at) (drop at out)

  is_written : (writing_number value part ≡ Ok (length (seven_bits value))) × (written_number value part ≡ seven_bits value ++ drop (length (seven_bits value)) part)
  is_written = number_written value part (rw (whole_tail out at) (simp length-drop (omega arith)))

  -- an answer is the number's length
  long : {used : ℕ} → Ok used ≡ writing_number value part → used ≡ length (seven_bits value)
  long is = let same = is ∙ is_written.0 in cc

pub unwrap-requires : goal.unwrap-requires
unwrap-requires c =
    let w = c.args.self.now in
    let done = c.write.ensures.0 ∙ (is_written c.args.value w.at w.out.now c.requires).0 in search rules

pub overflow_add-self : goal.overflow_add-self
overflow_add-self c =
    let w = c.args.self.now in
    let same = long _ _ _ c.requires (sym c.unwrap.ensures ∙ c.write.ensures.0) in
    record { fits = omega arith }

pub returns-clause-written : goal.returns-clause-written
returns-clause-written c =
    let w = c.args.self.now in
    let out = w.out.now in
    let bytes = seven_bits c.args.value in (
      ap (λ (n : ℕ). w.at + n) (long _ _ _ c.requires (sym c.unwrap.ensures ∙ c.write.ensures.0)),
      ap (put_mid w.at (length out - w.at) out) (c.write.ensures.1 ∙ (is_written c.args.value w.at out c.requires).1) ∙ put_back out w.at bytes (omega arith),
    )
