-- Laws of a record that is accepted: it is written again as the same bytes, its state is well formed and has the number
-- expected, and it has at most 300 bytes.
-- Assumes nothing.
use Rattle.std.specs.Prelude.{Result, Ok, Err}
use mathlib.Core.Path.{◌≡◌, refl, sym, ◌∙◌, ap, ap₂}
use mathlib.Core.Bool.{Bool, true, false, cond}
use mathlib.Core.List.{List, [], ◌∷◌, ◌++◌, append_assoc, append-nil}
use Prim.Native.Nat.{ℕ, zero, suc, ◌+◌, ◌*◌, ◌≤◌}
use native.Mathlib.Omega.{arith}
use borrow.Author.Tests.{eqb-true, ltb-false}
use lib.Dec.{T, ltb, eqb}
use lib.ListN.{length, take, drop, length-take, length-drop, take-append-drop, drop_of_length-le}
use lib.Seq.{drop-drop}
use Rattle.pixel.specs.declared.error.Error.{Error}
use Rattle.pixel.specs.Bytes.{AllBytes, pixel_from, pixels_from}
use Rattle.pixel.specs.Types.{channels_from}
use Rattle.number.specs.declared.Number.{Number}
use Rattle.number.specs.Seven.{seven_bits, read_number}
use Rattle.header.specs.declared.Header.{Header}
use Rattle.header.specs.Header.{header_bytes, header_of}
use Rattle.number.proofs.Laws.{read_written_back}
use Rattle.header.proofs.Laws.{channels_number_lem, header_written_back}
use Rattle.rules.specs.Step.{State, well_formed, Started, started, not_started}
use Rattle.rules.specs.Record.{pixels_bytes, record_bytes, after_number, accept_number, accept_state, read_slots, read_positions, read_wanted, read_record}
use Rattle.rules.proofs.RecordLaws.{refused_is_no_start, sized}
use Rattle.pixel.specs.declared.types.Channels.{Channels}

-- pixels of four bytes each are written back as those bytes, whatever follows
pixels_back : (n : ℕ) (front rest : List ℕ) → length front ≡ n * 4 → pixels_bytes (pixels_from n 4 (front ++ rest)) ≡ front
unfolding pixels_from pixel_from pixels_bytes
pixels_back zero [] rest size = refl
pixels_back zero (x ∷ xs) rest size = absurd (omega (arith, size))
pixels_back (suc n) [] rest size = absurd (omega (arith, size))
pixels_back (suc n) (a ∷ []) rest size = absurd (omega (arith, size))
pixels_back (suc n) (a ∷ b ∷ []) rest size = absurd (omega (arith, size))
pixels_back (suc n) (a ∷ b ∷ c ∷ []) rest size = absurd (omega (arith, size))
pixels_back (suc n) (a ∷ b ∷ c ∷ d ∷ xs) rest size =
    ap {B = List ℕ} (λ l. a ∷ b ∷ c ∷ d ∷ l) (pixels_back n xs rest (omega (arith, size)))

-- the current pixel and the slots are written back as the first 260 bytes
slots_back :
    (bytes : List ℕ) → 260 ≤ length bytes
    → (pixel_from 4 bytes).rgba ++ pixels_bytes (pixels_from 64 4 (drop 4 bytes)) ≡ take 260 bytes
unfolding pixels_from pixels_bytes
slots_back bytes long =
    let size : length (take 260 bytes) ≡ 65 * 4 = simp length-take (omega arith) in
    rw (take-append-drop 260 bytes) at (pixels_back 65 (take 260 bytes) (drop 260 bytes) size)

module _ (expected : ℕ) (s : State) where
  -- a test that passed, where failing is a refusal
  passed : (b : Bool) (r : Started) (e : Error) → cond b r (not_started e) ≡ started s → (b ≡ true) × (r ≡ started s)
  passed true r e p = (refl, p)
  passed false r e p = absurd (refused_is_no_start p)

  -- a test that failed, where passing is a refusal
  failed : (b : Bool) (r : Started) (e : Error) → cond b (not_started e) r ≡ started s → (b ≡ false) × (r ≡ started s)
  failed true r e p = absurd (refused_is_no_start p)
  failed false r e p = (refl, p)

  -- an accepted record ends with its number, which is the one expected, and its state, which is well formed, is the one
  -- that was read
  end_accepted :
      (made : State) (end size : ℕ) → accept_state expected made end size ≡ started s
      → (end ≡ size) × (made ≡ s) × T (well_formed made) × (made.number ≡ expected)
  unfolding accept_state accept_number
  end_accepted made end size p =
      let well = passed (well_formed made) _ _ p in
      let q = passed (eqb end size) _ _ well.1 in
      let r = passed (eqb made.number expected) _ _ q.1 in
      (eqb-true _ _ q.0, cc r.1, rw well.0 tt, eqb-true _ _ r.0)

  -- what was read so far, written, and the bytes that follow are the record; its state is well formed and has the
  -- number expected, and it has at most 300 bytes
  record Again (bytes : List ℕ) : Type 0 where
    same : record_bytes s ≡ bytes
    well : T (well_formed s)
    number_is : s.number ≡ expected
    short : length (record_bytes s) ≤ 300

  -- the same of bytes that are equal
  again_by : (bytes others : List ℕ) → bytes ≡ others → Again bytes → Again others
  again_by bytes others is a = rw (← is) a

  -- a number that is read is written back before what follows it
  number_back :
      (bytes : List ℕ) (start : ℕ) → AllBytes bytes → (read : Result Number Error) → read_number bytes start ≡ read
      → (next : ℕ → ℕ → Started) → after_number start read next ≡ started s
      → (value : ℕ) × (end : ℕ) × (seven_bits value ++ drop end bytes ≡ drop start bytes) × (next value end ≡ started s)
  unfolding after_number
  number_back bytes start are (Err e) is next p = absurd (refused_is_no_start p)
  number_back bytes start are (Ok number) is next p =
      (number.value, start + number.used, read_written_back bytes start number.value number.used are is, p)

  -- after the positions: the current pixel, the slots and the number
  slots_written_back :
      (header : Header) (wanted at pixel : ℕ) (bytes : List ℕ) (start : ℕ) → AllBytes bytes
      → read_slots expected header wanted at pixel bytes start ≡ started s
      → Again (header_bytes header ++ (seven_bits wanted ++ (seven_bits at ++ (seven_bits pixel ++ drop start bytes))))
  unfolding read_slots record_bytes
  slots_written_back header wanted at pixel bytes start are p =
      let whole-pixel = failed (ltb (length bytes) (start + 4)) _ _ p in
      let whole-slots = failed (ltb (length bytes) (start + 260)) _ _ whole-pixel.1 in
      let long = ltb-false (length bytes) (start + 260) whole-slots.0 in
      let (number, last, back, r) = number_back bytes (start + 260) are (read_number bytes (start + 260)) refl _ whole-slots.1 in
      let end = end_accepted _ last (length bytes) r in
      let rest = drop start bytes in
      let pixels : (pixel_from 4 rest).rgba ++ pixels_bytes (pixels_from 64 4 (drop (start + 4) bytes)) ≡ take 260 rest =
      rw (← drop-drop 4 start bytes) (slots_back rest (omega (arith, length-drop start bytes))) in
      let number-ends : seven_bits number ≡ drop 260 rest =
      rw (drop-drop 260 start bytes) (sym (append-nil (seven_bits number)) ∙ rw (drop_of_length-le bytes {i = last} (omega (arith, end.0))) at back) in
      let whole : (pixel_from 4 rest).rgba ++ (pixels_bytes (pixels_from 64 4 (drop (start + 4) bytes)) ++ seven_bits number) ≡ rest =
      sym (append_assoc (pixel_from 4 rest).rgba _ (seven_bits number)) ∙ ap₂ ◌++◌ pixels number-ends ∙ take-append-drop 260 rest in
      let well = rw end.1 at end.2 in
      let size : length (s.place.current.rgba ++ pixels_bytes s.place.slots) ≡ 260 =
      ap (λ (t : State). length (t.place.current.rgba ++ pixels_bytes t.place.slots)) (sym end.1)
      ∙ ap length pixels ∙ simp length-take (omega (arith, length-drop start bytes)) in
      record {
        same = ap record_bytes (sym end.1) ∙ rw whole;
        well = well;
        number_is = ap (λ (t : State). t.number) (sym end.1) ∙ end.3;
        short = (sized s well size).1;
      }

  -- after wanted: the positions are written back
  positions_written_back :
      (header : Header) (wanted : ℕ) (bytes : List ℕ) (start : ℕ) → AllBytes bytes
      → (read : Result Channels Error) → channels_from wanted ≡ read → read_positions expected header read bytes start ≡ started s
      → Again (header_bytes header ++ (seven_bits wanted ++ drop start bytes))
  unfolding read_positions
  positions_written_back header wanted bytes start are (Err e) is p = absurd (refused_is_no_start p)
  positions_written_back header wanted bytes start are (Ok channels) is p =
      let (at, next, at_back, q) = number_back bytes start are (read_number bytes start) refl _ p in
      let (pixel, last, pixel-back, r) = number_back bytes next are (read_number bytes next) refl _ q in
      rw (← at_back, ← pixel-back, ← channels_number_lem wanted channels is) (slots_written_back header _ at pixel bytes last are r)

  -- after the header: wanted is written back
  wanted_written_back :
      (bytes : List ℕ) → AllBytes bytes → (read : Result Header Error) → header_of bytes ≡ read
      → read_wanted expected read bytes ≡ started s → Again bytes
  unfolding read_wanted
  wanted_written_back bytes are (Err e) is p = absurd (refused_is_no_start p)
  wanted_written_back bytes are (Ok header) is p =
      let (wanted, next, wanted-back, q) = number_back bytes 14 are (read_number bytes 14) refl _ p in
      again_by _ bytes
      (rw (wanted-back, header_written_back bytes are header is) (take-append-drop 14 bytes))
      (positions_written_back header wanted bytes next are (channels_from wanted) refl q)

-- a record that is accepted
module _ (expected : ℕ) (bytes : List ℕ) (are : AllBytes bytes) (s : State) (p : read_record expected bytes ≡ started s) where
  read_so : Again expected s bytes
  unfolding read_record
  read_so = wanted_written_back expected s bytes are (header_of bytes) refl p

  -- is written again as the same bytes
  pub record_written_back : record_bytes s ≡ bytes
  record_written_back = read_so.same

  -- has a well-formed state
  pub record_well_formed : T (well_formed s)
  record_well_formed = read_so.well

  -- of the number expected
  pub record_number : s.number ≡ expected
  record_number = read_so.number_is

  -- and at most 300 bytes
  pub record_short : length bytes ≤ 300
  record_short = rw record_written_back at read_so.short
