-- Laws of the record: reading what was written gives the same state, or 12 under another number, and with more bytes
-- after it 9 where they begin; a record is 278 to 300 bytes.
-- Assumes nothing.
use Rattle.std.specs.Prelude.{Ok}
use mathlib.Core.Path.{◌≡◌, refl, sym, ◌∙◌, ap, ap₂}
use mathlib.Core.Bool.{Bool, true, false, cond, ◌||◌}
use mathlib.Core.List.{List, [], ◌∷◌, ◌++◌, append_assoc, append-nil}
use Prim.Native.Nat.{ℕ, suc, ◌+◌, ◌-◌, ◌*◌, ◌^◌, ◌≤◌, ◌<◌}
use native.Mathlib.Omega.{arith}
use borrow.Author.Tests.{eqb-true, eq-eqb, ne_eqb, le-ltb}
use lib.Dec.{T, eqb, eqb→eq, leb→le}
use lib.ListN.{length, get_or, drop, length-append, length-drop}
use lib.Seq.{drop_at, drop-drop}
use Rattle.pixel.specs.declared.error.Error.{Error}
use Rattle.pixel.specs.declared.error.Error.TheVariants.{BadState, OtherMessage}
use Rattle.pixel.specs.declared.Pixel.{Pixel}
use Rattle.pixel.specs.declared.types.Channels.{Channels}
use Rattle.pixel.specs.declared.types.Channels.TheVariants.{Rgb, Rgba}
use Rattle.pixel.specs.Colour.{clear_pixel}
use Rattle.pixel.specs.Types.{channels_number, channels_from}
use Rattle.number.specs.Seven.{seven_bits, read_number}
use Rattle.header.specs.Header.{header_bytes, header_of, pixel_count}
use Rattle.number.proofs.Laws.{read_written, rest_after_written, length_at_least_one, length_at_most_ten, length_one, length_at_most_five}
use Rattle.header.proofs.Laws.{is_true, both, pixels_small, header_read_back, header_length}
use Rattle.pixel.specs.Bytes.{pixel_from, pixels_from}
use Rattle.rules.specs.Step.{State, Typed, header_passes, wanted_passes, at_passes, pixel_passes, left_passes, alpha_passes, well_formed, Started, started, not_started}
use Rattle.rules.specs.Record.{pixels_bytes, record_bytes, after_number, accept_number, accept_state, read_slots, read_positions, read_wanted, read_record}

-- a list of four is read back as a pixel, whatever follows
four_read : (bytes rest : List ℕ) → length bytes ≡ 4 → pixel_from 4 (bytes ++ rest) ≡ record { rgba = bytes }
unfolding pixel_from
four_read [] rest e = absurd (omega (arith, e))
four_read (a ∷ []) rest e = absurd (omega (arith, e))
four_read (a ∷ b ∷ []) rest e = absurd (omega (arith, e))
four_read (a ∷ b ∷ c ∷ []) rest e = absurd (omega (arith, e))
four_read (a ∷ b ∷ c ∷ d ∷ []) rest e = refl
four_read (a ∷ b ∷ c ∷ d ∷ x ∷ xs) rest e = absurd (omega (arith, e))

-- each of some pixels has four bytes
abbrev pub Fours : List Pixel → Type 0
Fours ps = (i : ℕ) → i < length ps → length (get_or ps i clear_pixel).rgba ≡ 4

-- pixels of four bytes take four bytes each
pub pixels_length : (ps : List Pixel) → Fours ps → length (pixels_bytes ps) ≡ 4 * length ps
unfolding pixels_bytes
pixels_length [] each = refl
pixels_length (p ∷ ps) each =
    simp length-append (omega (arith, each 0 (omega arith), pixels_length ps (λ i h. each (suc i) (omega arith))))

-- pixels are read back, whatever follows
pixels_read : (ps : List Pixel) (rest : List ℕ) → Fours ps → pixels_from (length ps) 4 (pixels_bytes ps ++ rest) ≡ ps
unfolding pixels_from pixels_bytes
pixels_read [] rest each = refl
pixels_read (p ∷ ps) rest each =
    let is : length p.rgba ≡ 4 = each 0 (omega arith) in
    rw append_assoc
    (ap₂ ◌∷◌ (four_read p.rgba (pixels_bytes ps ++ rest) is)
    (ap (pixels_from (length ps) 4) (drop_at p.rgba (pixels_bytes ps ++ rest) 4 is)
    ∙ pixels_read ps rest (λ i h. each (suc i) (omega arith))))

-- the tests of being well formed, one by one
pub record Formed (s : State) : Type 0 where
  pub header_passes_lem : T (header_passes s)
  pub wanted_passes_lem : T (wanted_passes s)
  pub at_passes_lem : T (at_passes s)
  pub pixel_passes_lem : T (pixel_passes s)
  pub left_passes_lem : T (left_passes s)
  pub alpha_passes_lem : T (alpha_passes s)

-- a state that is well formed passes each
pub formed : (s : State) → T (well_formed s) → Formed s
unfolding well_formed
formed s t =
    let second = (both (header_passes s) _ t).1 in
    let third = (both (wanted_passes s) _ second).1 in
    let fourth = (both (at_passes s) _ third).1 in
    let fifth = (both (pixel_passes s) _ fourth).1 in
    record {
      header_passes_lem = (both (header_passes s) _ t).0;
      wanted_passes_lem = (both (wanted_passes s) _ second).0;
      at_passes_lem = (both (at_passes s) _ third).0;
      pixel_passes_lem = (both (pixel_passes s) _ fourth).0;
      left_passes_lem = (both (left_passes s) _ fifth).0;
      alpha_passes_lem = (both (left_passes s) _ fifth).1;
    }

-- a state that passes each is well formed
pub forms : (s : State) → Formed s → T (well_formed s)
unfolding well_formed
forms s f =
    rw (is_true (header_passes s) f.header_passes_lem, is_true (wanted_passes s) f.wanted_passes_lem, is_true (at_passes s) f.at_passes_lem, is_true (pixel_passes s) f.pixel_passes_lem, is_true (left_passes s) f.left_passes_lem)
    f.alpha_passes_lem

-- the pixel position and the pixels left of a well-formed state are the pixels
pub adds_up : (s : State) → T (well_formed s) → s.place.pixel + s.left ≡ pixel_count s.header
adds_up s well = eqb→eq (s.place.pixel + s.left) (pixel_count s.header) (formed s well).left_passes_lem

-- where they are the pixels the test of them passes
pub left_adds : (s : State) → s.place.pixel + s.left ≡ pixel_count s.header → T (left_passes s)
left_adds s e = rw (eq-eqb (s.place.pixel + s.left) (pixel_count s.header) e) tt

-- wanted 3 or 4 is a channel count, and its number is wanted again
pub wanted_channels : (wanted : ℕ) → T (eqb wanted 3 || eqb wanted 4) → (c : Channels) × (channels_from wanted ≡ Ok c) × (channels_number c ≡ wanted)
wanted_channels wanted t = go (eqb wanted 3) refl (eqb wanted 4) refl t
  where
    go :
        (three : Bool) → eqb wanted 3 ≡ three → (four : Bool) → eqb wanted 4 ≡ four → T (three || four)
        → (c : Channels) × (channels_from wanted ≡ Ok c) × (channels_number c ≡ wanted)
    go true e four f t = (Rgb, rw e, sym (eqb-true _ _ e))
    go false e true f t = (Rgba, rw (e, f), sym (eqb-true _ _ f))
    go false e false f t = absurd t

-- a channel count is at most 4
channels_small : (c : Channels) → channels_number c ≤ 4
channels_small Rgb = omega arith
channels_small Rgba = omega arith

-- a well-formed state wants four channels at most
pub wanted_few : (s : State) → T (well_formed s) → s.wanted ≤ 4
wanted_few s well =
    let count = wanted_channels s.wanted (formed s well).wanted_passes_lem in
    omega (arith, count.2, channels_small count.0)

-- a refusal is no start
pub refused_is_no_start : {e : Error} {s : State} → not_started e ≡ started s → ⊥
refused_is_no_start p = let z : ◌≡◌ {A = ℕ} 0 1 = cc in omega arith

module _ (s : State) (well : T (well_formed s)) where
  -- the pixel position takes five bytes at most
  pub pixel_small : s.place.pixel < 2 ^ 35
  pixel_small =
      omega
      (arith, leb→le s.place.pixel (pixel_count s.header) (formed s well).pixel_passes_lem, pixels_small s.header (formed s well).header_passes_lem)

  -- wanted takes one byte
  pub wanted_small : s.wanted < 128
  wanted_small = omega (arith, wanted_few s well)

  -- a record with 260 bytes of pixels is 278 to 300 bytes
  pub sized :
      length (s.place.current.rgba ++ pixels_bytes s.place.slots) ≡ 260
      → (278 ≤ length (record_bytes s)) × (length (record_bytes s) ≤ 300)
  unfolding record_bytes
  sized whole =
      simp (length-append, header_length s.header)
      (omega (arith, simp length-append at whole, length_one s.wanted wanted_small, length_at_least_one s.place.at, length_at_most_ten s.place.at, length_at_least_one s.place.pixel, length_at_most_five s.place.pixel pixel_small, length_at_least_one s.number, length_at_most_ten s.number))

-- a number that stands somewhere is read there, and what follows starts where it ends
number_there :
    (n start : ℕ) (bytes rest : List ℕ) → drop start bytes ≡ seven_bits n ++ rest → n < 2 ^ 64
    → (next : ℕ → ℕ → Started) → after_number start (read_number bytes start) next ≡ next n (start + length (seven_bits n))
unfolding after_number
number_there n start bytes rest stands fits next = rw (read_written n start bytes rest stands fits)

-- the bytes that stand at an offset, and those before it, are all
length_there : (start : ℕ) (bytes part : List ℕ) → drop start bytes ≡ part → 1 ≤ length part → length bytes ≡ start + length part
length_there start bytes part stands some = omega (arith, length-drop start bytes, ap length stands)

module _ (s : State) (typed : Typed s) (well : T (well_formed s)) where
  -- each slot has four bytes
  fours : Fours s.place.slots
  fours i h = typed.slot_is i (omega (arith, typed.slots_are))

  -- the current pixel and the slots are 260 bytes
  pub slots_length : length (s.place.current.rgba ++ pixels_bytes s.place.slots) ≡ 260
  slots_length =
      simp length-append
      (omega (arith, typed.current_is, typed.slots_are, pixels_length s.place.slots fours))

  -- the slots are read back, whatever follows
  slots_back : (rest : List ℕ) → pixels_from 64 4 (drop 4 (s.place.current.rgba ++ (pixels_bytes s.place.slots ++ rest))) ≡ s.place.slots
  slots_back rest =
      rw (drop_at s.place.current.rgba (pixels_bytes s.place.slots ++ rest) 4 typed.current_is, ← typed.slots_are)
      (pixels_read s.place.slots rest fours)

  -- what follows them
  pub rest_back : (rest : List ℕ) → drop 260 (s.place.current.rgba ++ (pixels_bytes s.place.slots ++ rest)) ≡ rest
  rest_back rest =
      ap (drop 260) (sym (append_assoc s.place.current.rgba (pixels_bytes s.place.slots) rest))
      ∙ drop_at (s.place.current.rgba ++ pixels_bytes s.place.slots) rest 260 slots_length

  -- the pixels left are those from the pixel position on
  left_back : pixel_count s.header - s.place.pixel ≡ s.left
  left_back = omega (arith, adds_up s well)

  -- where the current pixel, the slots and the number stand, with some bytes after them, they are read back
  slots_read :
      (expected start : ℕ) (bytes extra : List ℕ)
      → drop start bytes ≡ s.place.current.rgba ++ (pixels_bytes s.place.slots ++ (seven_bits s.number ++ extra))
      → read_slots expected s.header s.wanted s.place.at s.place.pixel bytes start
      ≡ accept_state expected s (start + 260 + length (seven_bits s.number)) (length bytes)
  unfolding read_slots
  slots_read expected start bytes extra stands =
      let rest = seven_bits s.number ++ extra in
      let size : length (s.place.current.rgba ++ (pixels_bytes s.place.slots ++ rest)) ≡ 260 + length rest =
      simp length-append (omega (arith, simp length-append at slots_length)) in
      let long : length bytes ≡ start + (260 + length rest) = length_there start bytes _ stands (omega (arith, size)) ∙ rw size in
      let number_stands : drop (start + 260) bytes ≡ rest =
      sym (drop-drop 260 start bytes) ∙ ap (drop 260) stands ∙ rest_back rest in
      let slots-stand : drop (start + 4) bytes ≡ drop 4 (s.place.current.rgba ++ (pixels_bytes s.place.slots ++ rest)) =
      sym (drop-drop 4 start bytes) ∙ ap (drop 4) stands in
      rw (le-ltb (length bytes) (start + 4) (omega arith), le-ltb (length bytes) (start + 260) (omega arith), stands, slots-stand, four_read s.place.current.rgba (pixels_bytes s.place.slots ++ rest) typed.current_is, slots_back rest, left_back)
      (number_there s.number (start + 260) bytes extra number_stands typed.number_fits _)

  -- the positions after wanted are read back
  positions_read :
      (expected start : ℕ) (bytes extra : List ℕ) (c : Channels) → channels_number c ≡ s.wanted
      → drop start bytes ≡ seven_bits s.place.at ++ (seven_bits s.place.pixel ++ (s.place.current.rgba ++ (pixels_bytes s.place.slots ++ (seven_bits s.number ++ extra))))
      → read_positions expected s.header (Ok c) bytes start
      ≡ accept_state expected s
      (start + length (seven_bits s.place.at) + length (seven_bits s.place.pixel) + 260 + length (seven_bits s.number))
      (length bytes)
  unfolding read_positions
  positions_read expected start bytes extra c same stands =
      let pixel_stands = rest_after_written s.place.at start bytes _ stands in
      let slots-stand = rest_after_written s.place.pixel (start + length (seven_bits s.place.at)) bytes _ pixel_stands in
      number_there s.place.at start bytes _ stands typed.at_fits _
      ∙ number_there s.place.pixel _ bytes _ pixel_stands (omega (arith, pixel_small s well)) _
      ∙ rw same (slots_read expected _ bytes extra slots-stand)

  -- a written record, with some bytes after it, is read up to its length
  record_read_then :
      (expected : ℕ) (extra : List ℕ)
      → read_record expected (record_bytes s ++ extra) ≡ accept_state expected s (length (record_bytes s)) (length (record_bytes s ++ extra))
  unfolding read_record record_bytes read_wanted
  record_read_then expected extra =
      let count = wanted_channels s.wanted (formed s well).wanted_passes_lem in
      let rest =
      seven_bits s.wanted ++ (seven_bits s.place.at ++ (seven_bits s.place.pixel ++ (s.place.current.rgba ++ (pixels_bytes s.place.slots ++ (seven_bits s.number ++ extra))))) in
      let joined : record_bytes s ++ extra ≡ header_bytes s.header ++ rest = simp append_assoc in
      let stands : drop 14 (record_bytes s ++ extra) ≡ rest =
      rw joined (drop_at (header_bytes s.header) rest 14 (header_length s.header)) in
      let positions-stand = rest_after_written s.wanted 14 (record_bytes s ++ extra) _ stands in
      let opened : header_of (record_bytes s ++ extra) ≡ Ok s.header =
      rw joined (header_read_back s.header rest typed.width_fits typed.height_fits (formed s well).header_passes_lem) in
      let end : 14 + length (seven_bits s.wanted) + length (seven_bits s.place.at) + length (seven_bits s.place.pixel) + 260 + length (seven_bits s.number) ≡ length (record_bytes s) =
      simp (length-append, header_length s.header) (omega (arith, simp length-append at slots_length)) in
      rw (opened, ← end)
      (number_there s.wanted 14 (record_bytes s ++ extra) _ stands (omega (arith, wanted_small s well)) _
      ∙ rw count.1 (positions_read expected _ (record_bytes s ++ extra) extra count.0 count.2 positions-stand))

  -- a written record is read as its state where its number is the one expected; else it is 12
  pub record_read : (expected : ℕ) → read_record expected (record_bytes s) ≡ accept_number expected s
  unfolding accept_state
  record_read expected =
      rw (← append-nil (record_bytes s))
      (record_read_then expected [] ∙ rw (append-nil (record_bytes s), is_true (well_formed s) well, eq-eqb (length (record_bytes s)) (length (record_bytes s)) refl))

  -- with more bytes after it, it is 9 where these begin, whichever number is expected
  pub record_then_more :
      (expected byte : ℕ) (more : List ℕ) → read_record expected (record_bytes s ++ byte ∷ more) ≡ not_started (BadState (length (record_bytes s)))
  unfolding accept_state
  record_then_more expected byte more =
      record_read_then expected (byte ∷ more)
      ∙ rw (is_true (well_formed s) well, ne_eqb (length (record_bytes s)) (length (record_bytes s ++ byte ∷ more)) (λ e. omega (arith, e, length-append (record_bytes s) (byte ∷ more))))

  -- reading a written record under its number gives the same state
  pub record_read_back : read_record s.number (record_bytes s) ≡ started s
  unfolding accept_number
  record_read_back = record_read s.number ∙ rw (eq-eqb s.number s.number refl)

  -- under another number it is 12, with its own number
  pub record_of_another : (expected : ℕ) → (s.number ≡ expected → ⊥) → read_record expected (record_bytes s) ≡ not_started (OtherMessage s.number)
  unfolding accept_number
  record_of_another expected other = record_read expected ∙ rw (ne_eqb s.number expected other)

  -- where it is read, it is read under its number, and gives the same state
  pub record_taken : (expected : ℕ) (s' : State) → read_record expected (record_bytes s) ≡ started s' → (s.number ≡ expected) × (s ≡ s')
  unfolding accept_number
  record_taken expected s' e = go (eqb s.number expected) refl (sym (record_read expected) ∙ e)
    where
      go :
          (same : Bool) → eqb s.number expected ≡ same → cond same (started s) (not_started (OtherMessage s.number)) ≡ started s'
          → (s.number ≡ expected) × (s ≡ s')
      go true is p = (eqb-true s.number expected is, cc)
      go false is p = absurd (refused_is_no_start p)

  -- a record is 278 to 300 bytes
  pub record_length : (278 ≤ length (record_bytes s)) × (length (record_bytes s) ≤ 300)
  record_length = sized s well slots_length
