-- `resume::read_record::read_record` meets its contract: each field's answer leads to the case of the definition.
-- Assumes nothing.
use Rattle.std.specs.Prelude.{◌≡◌, Bool, true, false, List, ℕ, ◌+◌, ◌-◌, ◌≤◌, ltb, length, take, drop, Result, Ok, Err}
use Rattle.std.proofs.Common.{rules, arith, refl, ap, sym, ◌∙◌, length-drop}
use Rattle.std.proofs.Math.Seq.{length-take-le}
use borrow.Author.Tests.{ltb-false, le-ltb}
use Rattle.pixel.specs.Bytes.{pixel_from, pixels_from}
use Rattle.pixel.specs.declared.error.Error.{Error}
use Rattle.pixel.specs.declared.error.Error.TheVariants.{UnexpectedBufferEnd}
use Rattle.pixel.specs.declared.types.Channels.{Channels}
use Rattle.pixel.specs.Types.{channels_number, channels_from}
use Rattle.number.specs.declared.Number.{Number}
use Rattle.number.specs.Seven.{read_number}
use Rattle.header.specs.declared.Header.{Header}
use Rattle.header.specs.Header.{header_of, pixel_count}
use Rattle.header.proofs.Laws.{header_accepted}
use Rattle.rules.specs.Step.{Started, not_started}
use Rattle.rules.specs.Record.{read_record, read_wanted, read_positions, read_slots, after_number, accept_state}
use Rattle.resume.specs.Asked.{value_of, used_of, next_bytes}
use Rattle.resume.proofs.Slots.{pixel_taken, pixels_taken}
use Rattle.resume.proofs.read_record.read_record.Goals as goal

-- a number that was read leads on
number_then :
    (start : ℕ) (r : Result Number Error) (next : ℕ → ℕ → Started) (v : ℕ) → value_of r ≡ Ok v
    → after_number start r next ≡ next v (start + used_of r)
unfolding after_number
number_then start (Ok number) next v is = let same : number.value ≡ v = cc in rw same
number_then start (Err e) next v is = cc

-- and one that was not is refused
number_refused :
    (start : ℕ) (r : Result Number Error) (next : ℕ → ℕ → Started) (e : Error) → value_of r ≡ Err e
    → after_number start r next ≡ not_started e
unfolding after_number
number_refused start (Ok number) next e is = cc
number_refused start (Err e') next e is = cc

-- bytes that were read are that many
bytes_then :
    (bytes : List ℕ) (at size : ℕ) (part : List ℕ) → Ok part ≡ next_bytes bytes at size
    → (ltb (length bytes) (at + size) ≡ false) × (length part ≡ size) × (part ≡ take size (drop at bytes))
bytes_then bytes at size part is = go (ltb (length bytes) (at + size)) refl
  where
    go :
        (cut : Bool) → ltb (length bytes) (at + size) ≡ cut
        → (ltb (length bytes) (at + size) ≡ false) × (length part ≡ size) × (part ≡ take size (drop at bytes))
    go true e = let none : Ok part ≡ Err (UnexpectedBufferEnd at) = rw e at is in cc
    go false e =
        let same : Ok part ≡ Ok (take size (drop at bytes)) = rw e at is in
        let is-part : part ≡ take size (drop at bytes) = cc in
        let room = ltb-false _ _ e in
        (e, rw is-part (length-take-le size (drop at bytes) (simp length-drop (omega arith))), is-part)

-- a record whose fields were read is accepted as the state that they make
fields_read :
    (expected : ℕ) (bytes : List ℕ) (header : Header) (channels : Channels) (w at pixel number a b s e : ℕ)
    → header_of bytes ≡ Ok header
    → value_of (read_number bytes 14) ≡ Ok w → a ≡ 14 + used_of (read_number bytes 14) → channels_from w ≡ Ok channels
    → value_of (read_number bytes a) ≡ Ok at → b ≡ a + used_of (read_number bytes a)
    → value_of (read_number bytes b) ≡ Ok pixel → s ≡ b + used_of (read_number bytes b)
    → ltb (length bytes) (s + 4) ≡ false → ltb (length bytes) (s + 260) ≡ false
    → value_of (read_number bytes (s + 260)) ≡ Ok number → e ≡ s + 260 + used_of (read_number bytes (s + 260))
    → accept_state expected
    (record {
      header = header;
      wanted = channels_number channels;
      place = record {
        at = at;
        pixel = pixel;
        current = pixel_from 4 (drop s bytes);
        slots = pixels_from 64 4 (drop (s + 4) bytes);
      };
      left = pixel_count header - pixel;
      number = number;
    })
    e (length bytes)
    ≡ read_record expected bytes
unfolding read_record read_wanted read_positions read_slots
fields_read expected bytes header channels w at pixel number a b s e opened is-w is-a few is-at is-b is-pixel is-s four room is-number is-e =
    search (rules, number_then)

pub invariant_of-record : goal.invariant_of-record
invariant_of-record c =
    record {
      inside = (header_accepted c.args.bytes.now _ (sym c.decode.ensures ∙ c.in_ok-header.was)).whole;
      are_bytes = λ i h. (c.type_inv.bytes i).fits;
    }

pub returns-in_err-header : goal.returns-in_err-header
unfolding read_record read_wanted read_positions read_slots
returns-in_err-header c = search (rules, number_then, number_refused)

pub returns-in_err-number : goal.returns-in_err-number
unfolding read_record read_wanted read_positions read_slots
returns-in_err-number c = search (rules, number_then, number_refused)

pub returns-in_err-wanted : goal.returns-in_err-wanted
unfolding read_record read_wanted read_positions read_slots
returns-in_err-wanted c = search (rules, number_then, number_refused)

pub returns-in_err-at : goal.returns-in_err-at
unfolding read_record read_wanted read_positions read_slots
returns-in_err-at c = search (rules, number_then, number_refused)

pub returns-in_err-pixel : goal.returns-in_err-pixel
unfolding read_record read_wanted read_positions read_slots
returns-in_err-pixel c = search (rules, number_then, number_refused)

pub returns-in_err-current : goal.returns-in_err-current
unfolding read_record read_wanted read_positions read_slots
returns-in_err-current c = search (rules, number_then, number_refused)

pub returns-in_err-slots : goal.returns-in_err-slots
unfolding read_record read_wanted read_positions read_slots
returns-in_err-slots c = search (rules, number_then, number_refused)

pub returns-in_err-number-2 : goal.returns-in_err-number-2
unfolding read_record read_wanted read_positions read_slots
returns-in_err-number-2 c = search (rules, number_then, number_refused)

pub pixel_of-requires : goal.pixel_of-requires
pixel_of-requires c = omega (arith, (bytes_then _ _ _ _ c.in_ok-current.ensures.value).1)

pub slots_of-requires : goal.slots_of-requires
slots_of-requires c = omega (arith, (bytes_then _ _ _ _ c.in_ok-slots.ensures.value).1)

pub returns-in_err-accept : goal.returns-in_err-accept
returns-in_err-accept c =
    let current = bytes_then _ _ _ _ c.in_ok-current.ensures.value in
    let slots = bytes_then _ _ _ _ c.in_ok-slots.ensures.value in
    let bytes = c.args.bytes.now in
    let start = c.number-3.new.self.at in
    let first : pixel_from 4 c.in_ok-current.current.now ≡ pixel_from 4 (drop start bytes) =
    ap (pixel_from 4) current.2 ∙ pixel_taken 0 _ ∙ cc in
    let others : pixels_from 64 4 c.in_ok-slots.slots.now ≡ pixels_from 64 4 (drop (start + 4) bytes) =
    ap (pixels_from 64 4) slots.2 ∙ pixels_taken 64 _ ∙ cc (c.in_ok-current.ensures.next) in
    let left = rw c.n_pixels.ensures at c.saturating_sub.ensures in
    let same : length c.bytes.new.self.bytes.now ≡ length bytes = cc in
    let room : start + 260 ≤ length bytes = omega (arith, ltb-false _ _ slots.0, c.in_ok-current.ensures.next, same) in
    let there : c.bytes-2.new.self.at ≡ start + 260 = omega (arith, c.in_ok-current.ensures.next, c.in_ok-slots.ensures.next) in
    let read =
    fields_read c.args.expected bytes c.in_ok-header.header c.in_ok-wanted.wanted c.in_ok-number.field-0 c.in_ok-at.at c.in_ok-pixel.pixel
    c.in_ok-number-2.number c.number.new.self.at c.number-2.new.self.at start c.number-4.new.self.at
    (sym c.decode.ensures ∙ c.in_ok-header.was) (search rules) (search rules) (sym c.try_from.ensures ∙ c.in_ok-wanted.was)
    (search rules) (search rules) (search rules) (search rules) (search rules) (le-ltb _ _ room) (search rules) (search rules) in
    search (rules, read)

pub returns : goal.returns
returns c =
    let current = bytes_then _ _ _ _ c.in_ok-current.ensures.value in
    let slots = bytes_then _ _ _ _ c.in_ok-slots.ensures.value in
    let bytes = c.args.bytes.now in
    let start = c.number-3.new.self.at in
    let first : pixel_from 4 c.in_ok-current.current.now ≡ pixel_from 4 (drop start bytes) =
    ap (pixel_from 4) current.2 ∙ pixel_taken 0 _ ∙ cc in
    let others : pixels_from 64 4 c.in_ok-slots.slots.now ≡ pixels_from 64 4 (drop (start + 4) bytes) =
    ap (pixels_from 64 4) slots.2 ∙ pixels_taken 64 _ ∙ cc (c.in_ok-current.ensures.next) in
    let left = rw c.n_pixels.ensures at c.saturating_sub.ensures in
    let same : length c.bytes.new.self.bytes.now ≡ length bytes = cc in
    let room : start + 260 ≤ length bytes = omega (arith, ltb-false _ _ slots.0, c.in_ok-current.ensures.next, same) in
    let there : c.bytes-2.new.self.at ≡ start + 260 = omega (arith, c.in_ok-current.ensures.next, c.in_ok-slots.ensures.next) in
    let read =
    fields_read c.args.expected bytes c.in_ok-header.header c.in_ok-wanted.wanted c.in_ok-number.field-0 c.in_ok-at.at c.in_ok-pixel.pixel
    c.in_ok-number-2.number c.number.new.self.at c.number-2.new.self.at start c.number-4.new.self.at
    (sym c.decode.ensures ∙ c.in_ok-header.was) (search rules) (search rules) (sym c.try_from.ensures ∙ c.in_ok-wanted.was)
    (search rules) (search rules) (search rules) (search rules) (search rules) (le-ltb _ _ room) (search rules) (search rules) in
    search (rules, read)
