-- Laws of a record that is cut short: it is 1, with the offset of the field that is cut.
-- Assumes nothing.
use Rattle.std.specs.Prelude.{Ok}
use mathlib.Core.Path.{◌≡◌, refl, sym, ◌∙◌, ap}
use mathlib.Core.Bool.{Bool, true, false, cond}
use mathlib.Core.List.{List, [], ◌∷◌, ◌++◌, append-nil}
use Prim.Native.Nat.{ℕ, zero, suc, ◌+◌, ◌-◌, ◌^◌, ◌≤◌, ◌<◌}
use native.Mathlib.Omega.{arith}
use borrow.Author.Tests.{ltb-true, ltb-false}
use lib.Dec.{T, ltb}
use lib.ListN.{length, take, drop, length-append, length-take}
use lib.Seq.{take-nil, take-append-le, take-append-add, drop_at, drop-drop}
use Rattle.pixel.specs.declared.error.Error.TheVariants.{UnexpectedBufferEnd}
use Rattle.pixel.specs.declared.types.Channels.{Channels}
use Rattle.pixel.specs.Types.{channels_number}
use Rattle.number.specs.Seven.{seven_bits, read_number}
use Rattle.number.proofs.Laws.{read_written, number_cut, rest_after_written}
use Rattle.header.specs.Header.{header_bytes, header_of}
use Rattle.header.proofs.Laws.{header_read_back, header_length}
use Rattle.rules.specs.Step.{State, Typed, well_formed, Started, not_started}
use Rattle.rules.specs.Record.{pixels_bytes, record_bytes, after_number, at_offset, pixel_offset, current_offset, read_slots, read_positions, read_wanted, read_record}
use Rattle.rules.specs.Damage.{cut_offset}
use Rattle.rules.proofs.RecordLaws.{formed, wanted_channels, wanted_small, pixel_small, slots_length, rest_back}

-- what stands at an offset of the first n elements
drop_take : {A : Type 0} (o n : ℕ) (l : List A) → drop o (take n l) ≡ take (n - o) (drop o l)
drop_take zero n l = let all : n ≡ n - 0 = omega arith in ap (λ (k : ℕ). take k l) all
drop_take (suc o) zero l = let none : 0 ≡ 0 - suc o = omega arith in ap (λ (k : ℕ). take k (drop (suc o) l)) none
drop_take (suc o) (suc n) [] = sym (take-nil (suc n - suc o))
drop_take (suc o) (suc n) (x ∷ l) =
    let same : n - o ≡ suc n - suc o = omega arith in
    drop_take o n l ∙ ap (λ (k : ℕ). take k (drop o l)) same

-- of two tests, where each that holds is 1 at an offset
picked :
    (a b : Bool) (x y z : ℕ) (r : Started) → (b ≡ false → r ≡ not_started (UnexpectedBufferEnd z))
    → cond a (not_started (UnexpectedBufferEnd x)) (cond b (not_started (UnexpectedBufferEnd y)) r)
    ≡ not_started (UnexpectedBufferEnd (cond a x (cond b y z)))
picked true b x y z r then = refl
picked false true x y z r then = refl
picked false false x y z r then = then refl

module _ (n : ℕ) (whole : List ℕ) where
  -- what stands whole before the cut stands there still
  there :
      (o : ℕ) (field rest : List ℕ) → drop o whole ≡ field ++ rest → o + length field ≤ n
      → drop o (take n whole) ≡ field ++ take (n - (o + length field)) rest
  there o field rest stands fits =
      let size : n - o ≡ length field + (n - (o + length field)) = omega arith in
      drop_take o n whole ∙ rw (stands, size) (take-append-add field rest (n - (o + length field)))

  -- what is cut has its first bytes there
  cut_there :
      (o : ℕ) (field rest : List ℕ) → drop o whole ≡ field ++ rest → n < o + length field
      → drop o (take n whole) ≡ take (n - o) field
  cut_there o field rest stands cut = drop_take o n whole ∙ rw stands (take-append-le (n - o) field rest (omega arith))

  -- a number that stands at an offset is read, or 1 there where it is cut
  number_or_cut :
      (v o : ℕ) (rest : List ℕ) → v < 2 ^ 64 → drop o whole ≡ seven_bits v ++ rest → o ≤ n
      → (next : ℕ → ℕ → Started) (later : ℕ)
      → (o + length (seven_bits v) ≤ n → next v (o + length (seven_bits v)) ≡ not_started (UnexpectedBufferEnd later))
      → after_number o (read_number (take n whole) o) next
      ≡ not_started (UnexpectedBufferEnd (cond (ltb n (o + length (seven_bits v))) o later))
  unfolding after_number
  number_or_cut v o rest fits stands inside next later then = go (ltb n (o + length (seven_bits v))) refl
    where
      go :
          (cut : Bool) → ltb n (o + length (seven_bits v)) ≡ cut
          → after_number o (read_number (take n whole) o) next ≡ not_started (UnexpectedBufferEnd (cond cut o later))
      go true is =
          let short = ltb-true n (o + length (seven_bits v)) is in
          rw (number_cut v o (n - o) (take n whole) (cut_there o (seven_bits v) rest stands short) fits (omega (arith, short)))
      go false is =
          let long = ltb-false n (o + length (seven_bits v)) is in
          rw (read_written v o (take n whole) _ (there o (seven_bits v) rest stands long) fits) (then long)

module _ (s : State) (typed : Typed s) (well : T (well_formed s)) (expected n : ℕ) (short : n < length (record_bytes s)) where
  -- the first n bytes are n
  size_is : length (take n (record_bytes s)) ≡ n
  size_is = simp length-take (omega (arith, short))

  -- the current pixel, and what follows it
  abbrev last : List ℕ
  last = s.place.current.rgba ++ (pixels_bytes s.place.slots ++ seven_bits s.number)

  -- where each field stands
  wanted_stands : drop 14 (record_bytes s) ≡ seven_bits s.wanted ++ (seven_bits s.place.at ++ (seven_bits s.place.pixel ++ last))
  unfolding record_bytes
  wanted_stands = drop_at (header_bytes s.header) _ 14 (header_length s.header)

  at_stands : drop (at_offset s) (record_bytes s) ≡ seven_bits s.place.at ++ (seven_bits s.place.pixel ++ last)
  at_stands = rest_after_written s.wanted 14 (record_bytes s) _ wanted_stands

  pixel_stands : drop (pixel_offset s) (record_bytes s) ≡ seven_bits s.place.pixel ++ last
  pixel_stands = rest_after_written s.place.at (at_offset s) (record_bytes s) _ at_stands

  last_stands : drop (current_offset s) (record_bytes s) ≡ last
  last_stands = rest_after_written s.place.pixel (pixel_offset s) (record_bytes s) _ pixel_stands

  -- the record ends where its number does
  record_ends : length (record_bytes s) ≡ current_offset s + 260 + length (seven_bits s.number)
  unfolding record_bytes
  record_ends = simp (length-append, header_length s.header) (omega (arith, simp length-append at (slots_length s typed well)))

  number_stands : drop (current_offset s + 260) (record_bytes s) ≡ seven_bits s.number ++ []
  number_stands =
      sym (drop-drop 260 (current_offset s) (record_bytes s)) ∙ ap (drop 260) last_stands
      ∙ rest_back s typed well (seven_bits s.number) ∙ sym (append-nil (seven_bits s.number))

  -- the current pixel, the slots and the number are cut
  slots_cut :
      read_slots expected s.header s.wanted s.place.at s.place.pixel (take n (record_bytes s)) (current_offset s)
      ≡ not_started
      (UnexpectedBufferEnd
      (cond (ltb n (current_offset s + 4)) (current_offset s)
      (cond (ltb n (current_offset s + 260)) (current_offset s + 4) (current_offset s + 260))))
  unfolding read_slots after_number
  slots_cut =
      let start = current_offset s + 260 in
      let cut : n < start + length (seven_bits s.number) = omega (arith, short, record_ends) in
      rw size_is
      (picked (ltb n (current_offset s + 4)) (ltb n start) (current_offset s) (current_offset s + 4) start _
      (λ is.
      let stands = cut_there n (record_bytes s) start (seven_bits s.number) [] number_stands cut in
      rw (number_cut s.number start (n - start) (take n (record_bytes s)) stands typed.number_fits (omega (arith, cut, ltb-false n start is)))))

  -- the positions after wanted, or what follows them, are
  positions_cut :
      (c : Channels) → channels_number c ≡ s.wanted → at_offset s ≤ n
      → read_positions expected s.header (Ok c) (take n (record_bytes s)) (at_offset s)
      ≡ not_started
      (UnexpectedBufferEnd
      (cond (ltb n (pixel_offset s)) (at_offset s)
      (cond (ltb n (current_offset s)) (pixel_offset s)
      (cond (ltb n (current_offset s + 4)) (current_offset s)
      (cond (ltb n (current_offset s + 260)) (current_offset s + 4) (current_offset s + 260))))))
  unfolding read_positions
  positions_cut c same inside =
      number_or_cut n (record_bytes s) s.place.at (at_offset s) _ typed.at_fits at_stands inside _ _
      (λ to-pixel.
      number_or_cut n (record_bytes s) s.place.pixel (pixel_offset s) _ (omega (arith, pixel_small s well)) pixel_stands to-pixel _ _
      (λ to-current. rw same slots_cut))

  -- a record that is cut short is 1, where the field starts that is cut
  pub record_cut : read_record expected (take n (record_bytes s)) ≡ not_started (UnexpectedBufferEnd (cut_offset s n))
  unfolding read_record read_wanted header_of record_bytes
  record_cut = go (ltb n 14) refl
    where
      go :
          (cut : Bool) → ltb n 14 ≡ cut
          → read_record expected (take n (record_bytes s))
          ≡ not_started
          (UnexpectedBufferEnd
          (cond cut 0
          (cond (ltb n (at_offset s)) 14
          (cond (ltb n (pixel_offset s)) (at_offset s)
          (cond (ltb n (current_offset s)) (pixel_offset s)
          (cond (ltb n (current_offset s + 4)) (current_offset s)
          (cond (ltb n (current_offset s + 260)) (current_offset s + 4) (current_offset s + 260))))))))
      go true is = rw (size_is, is)
      go false is =
          let inside : 14 ≤ n = ltb-false n 14 is in
          let count = wanted_channels s.wanted (formed s well).wanted_passes_lem in
          let stands = there n (record_bytes s) 0 (header_bytes s.header) _ refl (omega (arith, header_length s.header)) in
          let opened : header_of (take n (record_bytes s)) ≡ Ok s.header =
          rw stands (header_read_back s.header _ typed.width_fits typed.height_fits (formed s well).header_passes_lem) in
          rw opened
          (number_or_cut n (record_bytes s) s.wanted 14 _ (omega (arith, wanted_small s well)) wanted_stands inside _ _
          (λ to_at. rw count.1 (positions_cut count.0 count.2 to_at)))
