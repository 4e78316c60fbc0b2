-- `resume::reader::Reader::number` meets its contract: a number that is read ends within the record.
-- Assumes nothing.
use Rattle.std.specs.Prelude.{List, ℕ, ◌≡◌, ◌+◌, ◌≤◌, Ok, length}
use Rattle.std.proofs.Common.{arith, sym, ◌∙◌}
use Rattle.pixel.specs.Bytes.{AllBytes}
use Rattle.number.specs.declared.Number.{Number}
use Rattle.number.specs.Seven.{read_number}
use Rattle.number.proofs.Laws.{read_bounds}
use Rattle.resume.proofs.reader.Reader.number.Goals as goal

ends : (bytes : List ℕ) (at : ℕ) (number : Number) → AllBytes bytes → read_number bytes at ≡ Ok number → at + number.used ≤ length bytes
ends bytes at number are is = (read_bounds bytes at number.value number.used are is).3

pub overflow_add-self : goal.overflow_add-self
overflow_add-self c =
    let inside = ends _ _ c.in_ok-value.field-0 c.args.self.now.are_bytes (sym c.read.ensures ∙ c.in_ok-value.was) in
    record { fits = omega arith }

pub invariant_of-self : goal.invariant_of-self
invariant_of-self c =
    record {
      inside = ends _ _ c.in_ok-value.field-0 c.args.self.now.are_bytes (sym c.read.ensures ∙ c.in_ok-value.was);
      are_bytes = c.args.self.now.are_bytes;
    }
