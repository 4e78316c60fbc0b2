-- `resume::Decoder::put_record` meets its contract: each field is put where the one before it ended.
-- Assumes nothing.
use Rattle.std.proofs.Common.{rules, arith, ◌≡◌, ap, ◌∙◌, length-append}
use lib.ListN.{length}
use Rattle.header.proofs.Laws.{header_length}
use Rattle.rules.specs.Bytes.{written_over}
use Rattle.rules.specs.Record.{record_bytes}
use Rattle.resume.specs.State.{state_of}
use Rattle.resume.proofs.Parts.{puts_next, record_parts}
use Rattle.resume.proofs.Decoder.put_record.Goals as goal

pub returns : goal.returns
unfolding record_bytes
returns c =
    let room = record_parts (state_of c.args.self) in
    let first = ap length c.encode.ensures ∙ header_length c.args.self.header in
    let name =
    c.number-4.ensures.same ∙ c.pixels.ensures.same ∙ c.bytes-2.ensures.same ∙ c.number-3.ensures.same ∙ c.number-2.ensures.same ∙ c.number.ensures.same ∙ c.bytes.ensures.same in
    let done : c.number-4.new.self.out.now ≡ written_over (record_bytes (state_of c.args.self)) c.args.out.now =
    rw (← c.encode.ensures)
    (puts_next _ _ _ _ _ _ _ _ c.bytes.ensures.written
    (puts_next _ _ _ _ _ _ _ _ c.number.ensures.written
    (puts_next _ _ _ _ _ _ _ _ c.number-2.ensures.written
    (puts_next _ _ _ _ _ _ _ _ c.number-3.ensures.written
    (puts_next _ _ _ _ _ _ _ _ c.bytes-2.ensures.written
    (puts_next _ _ _ _ _ _ _ _ c.pixels.ensures.written c.number-4.ensures.written (omega arith))
    (simp length-append (omega arith))) (simp length-append (omega arith))) (simp length-append (omega arith))) (simp length-append (omega arith))) (simp length-append (omega arith))).1 in
    search rules
