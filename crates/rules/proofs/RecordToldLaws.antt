-- Laws of what a refused record is told: which refusals there are, where 1 and 9 point, and that the fields stand where a
-- fault of state is told.
-- Assumes nothing.
use Rattle.std.specs.Prelude.{Result, Ok}
use mathlib.Core.Path.{◌≡◌, refl}
use mathlib.Core.Bool.{Bool, true, false, cond}
use mathlib.Core.List.{List}
use Prim.Native.Nat.{ℕ, ◌+◌, ◌≤◌, ◌<◌}
use native.Mathlib.Omega.{arith}
use borrow.Author.Tests.{eqb-true, eqb-false, ltb-true, ltb-false}
use lib.Dec.{ltb, eqb}
use lib.ListN.{length, get_or}
use Rattle.pixel.specs.declared.types.Channels.{Channels}
use Rattle.pixel.specs.declared.types.Channels.TheVariants.{Rgb, Rgba}
use Rattle.pixel.specs.declared.types.ColorSpace.{ColorSpace}
use Rattle.pixel.specs.declared.types.ColorSpace.TheVariants.{Srgb, Linear}
use Rattle.pixel.specs.Bytes.{AllBytes}
use Rattle.pixel.specs.Types.{channels_number, channels_from}
use Rattle.number.specs.declared.Number.{Number}
use Rattle.number.specs.Seven.{seven_bits, number_read, read_number}
use Rattle.number.proofs.Laws.{ReadAt, is_read, is_cut, is_bad, number_at_lem, read_bounds, read_used}
use Rattle.header.specs.declared.Header.{Header}
use Rattle.header.specs.Header.{number_at, magic_number, dimensions_fit, header_from, after_color_space, after_channels, header_of}
use Rattle.rules.specs.Step.{State, at_passes, pixel_passes, well_formed, Started}
use Rattle.rules.specs.Record.{after_number, at_offset, pixel_offset, current_offset, fault_offset, accept_number, accept_state, read_slots, read_positions, read_wanted, read_record}
use Rattle.rules.specs.Damage.{Told, taken, header_cut, field_cut, channels_bad, color_space_bad, magic_bad, dimensions_bad, field_bad, of_another}
use Rattle.pixel.specs.declared.error.Error.{Error}

-- what holds of each way of a test holds of what it picks
either : {A : Type 0} (P : A → Type 0) (test : Bool) (a b : A) → (test ≡ true → P a) → (test ≡ false → P b) → P (cond test a b)
either P true a b ha hb = ha refl
either P false a b ha hb = hb refl

-- a fault of state lies past the header, and at the current pixel at most
fault_inside : (s : State) → (14 ≤ fault_offset s) × (fault_offset s ≤ current_offset s)
unfolding fault_offset
fault_inside s =
    either (λ (k : ℕ). (14 ≤ k) × (k ≤ current_offset s)) (at_passes s) _ _
    (λ at-good.
    either (λ (k : ℕ). (14 ≤ k) × (k ≤ current_offset s)) (pixel_passes s) _ _ (λ good. (omega arith, omega arith))
    (λ bad. (omega arith, omega arith)))
    (λ at-bad. (omega arith, omega arith))

module _ (bytes : List ℕ) (are : AllBytes bytes) where
  -- numbers that were read one after another, from wanted on, stand where the record of their state has them
  pub fields_there :
      (s : State) (wanted-used at-used pixel-used : ℕ)
      → read_number bytes 14 ≡ number_read s.wanted wanted-used
      → read_number bytes (14 + wanted-used) ≡ number_read s.place.at at-used
      → read_number bytes (14 + wanted-used + at-used) ≡ number_read s.place.pixel pixel-used
      → (at_offset s ≡ 14 + wanted-used)
      × (pixel_offset s ≡ 14 + wanted-used + at-used)
      × (current_offset s ≡ 14 + wanted-used + at-used + pixel-used)
  fields_there s wanted-used at-used pixel-used wanted_read at_read pixel_read =
      let w = read_used bytes 14 s.wanted wanted-used are wanted_read in
      let a = read_used bytes (14 + wanted-used) s.place.at at-used are at_read in
      let p = read_used bytes (14 + wanted-used + at-used) s.place.pixel pixel-used are pixel_read in
      (omega (arith, w), omega (arith, w, a), omega (arith, w, a, p))

  module _ (expected : ℕ) where
    -- a number, and then what follows it
    number_told :
        (start : ℕ) → 14 ≤ start → start ≤ length bytes → (r : Result Number Error) → read_number bytes start ≡ r
        → ReadAt start (length bytes) r → (next : ℕ → ℕ → Started)
        → ((value used : ℕ) → read_number bytes start ≡ number_read value used → Told (length bytes) (next value (start + used)))
        → Told (length bytes) (after_number start r next)
    unfolding after_number
    number_told start past inside _ is (is_read value used) next then = then value used is
    number_told start past inside _ is is_cut next then = field_cut start past inside
    number_told start past inside _ is (is_bad before) next then = field_bad start past before

    -- the end of a record whose fields stand where they were read
    state_told :
        (s : State) (end : ℕ) → current_offset s < length bytes → 14 ≤ end → end ≤ length bytes
        → Told (length bytes) (accept_state expected s end (length bytes))
    unfolding accept_state accept_number
    state_told s end inside past fits =
        either (Told (length bytes)) (well_formed s) _ _
        (λ well.
        either (Told (length bytes)) (eqb end (length bytes)) _ _
        (λ all. either (Told (length bytes)) (eqb s.number expected) _ _ (λ same. taken s) (λ other. of_another s.number))
        (λ extra. field_bad end past (omega (arith, fits, eqb-false end (length bytes) extra))))
        (λ fault. field_bad (fault_offset s) (fault_inside s).0 (omega (arith, (fault_inside s).1, inside)))

    -- after the positions
    slots_told :
        (header : Header) (wanted at pixel start : ℕ)
        → 14 + length (seven_bits wanted) + length (seven_bits at) + length (seven_bits pixel) ≡ start → start ≤ length bytes
        → Told (length bytes) (read_slots expected header wanted at pixel bytes start)
    unfolding read_slots
    slots_told header wanted at pixel start stands inside =
        either (Told (length bytes)) (ltb (length bytes) (start + 4)) _ _ (λ cut. field_cut start (omega arith) inside)
        (λ pixel-whole.
        either (Told (length bytes)) (ltb (length bytes) (start + 260)) _ _
        (λ cut. field_cut (start + 4) (omega arith) (ltb-false (length bytes) (start + 4) pixel-whole))
        (λ slots-whole.
        let long = ltb-false (length bytes) (start + 260) slots-whole in
        number_told (start + 260) (omega arith) long (read_number bytes (start + 260)) refl (number_at_lem bytes (start + 260) long) _
        (λ number used is.
        state_told _ (start + 260 + used) (omega (arith, long, stands)) (omega arith) (read_bounds bytes (start + 260) number used are is).3)))

    -- after wanted, which is a channel count
    channels_told :
        (header : Header) (c : Channels) (start : ℕ) → 14 + length (seven_bits (channels_number c)) ≡ start → start ≤ length bytes
        → Told (length bytes) (read_positions expected header (Ok c) bytes start)
    unfolding read_positions
    channels_told header c start stands inside =
        number_told start (omega arith) inside (read_number bytes start) refl (number_at_lem bytes start inside) _
        (λ at used is.
        let next = start + used in
        let fits = (read_bounds bytes start at used are is).3 in
        number_told next (omega arith) fits (read_number bytes next) refl (number_at_lem bytes next fits) _
        (λ pixel last-used last-is.
        slots_told header (channels_number c) at pixel (next + last-used)
        (omega (arith, stands, read_used bytes start at used are is, read_used bytes next pixel last-used are last-is))
        (read_bounds bytes next pixel last-used are last-is).3))

    -- after wanted
    positions_told :
        (header : Header) (wanted start : ℕ) → 14 + length (seven_bits wanted) ≡ start → start ≤ length bytes
        → Told (length bytes) (read_positions expected header (channels_from wanted) bytes start)
    unfolding read_positions
    positions_told header wanted start stands inside =
        let P : Result Channels Error → Type 0 = λ read. Told (length bytes) (read_positions expected header read bytes start) in
        either P (eqb wanted 3) _ _ (λ three. channels_told header Rgb start (rw (eqb-true wanted 3 three) at stands) inside)
        (λ other.
        either P (eqb wanted 4) _ _ (λ four. channels_told header Rgba start (rw (eqb-true wanted 4 four) at stands) inside)
        (λ neither. channels_bad _))

    -- after the header
    wanted_told : (header : Header) → 14 ≤ length bytes → Told (length bytes) (read_wanted expected (Ok header) bytes)
    unfolding read_wanted
    wanted_told header long =
        number_told 14 (omega arith) long (read_number bytes 14) refl (number_at_lem bytes 14 long) _
        (λ wanted used is.
        positions_told header wanted (14 + used) (omega (arith, read_used bytes 14 wanted used are is)) (read_bounds bytes 14 wanted used are is).3)

    -- the header after its colour space
    space_told :
        (c : Channels) (space : ColorSpace) → 14 ≤ length bytes
        → Told (length bytes) (read_wanted expected (after_color_space bytes c (Ok space)) bytes)
    unfolding after_color_space header_from read_wanted
    space_told c space long =
        let P : Result Header Error → Type 0 = λ read. Told (length bytes) (read_wanted expected read bytes) in
        either P (eqb (number_at bytes 0) magic_number) _ _
        (λ same.
        either P (dimensions_fit (number_at bytes 4) (number_at bytes 8)) _ _ (λ fit. wanted_told _ long) (λ bad. dimensions_bad _ _))
        (λ other. magic_bad _)

    -- the header after its channels
    header_told :
        (c : Channels) → 14 ≤ length bytes
        → Told (length bytes) (read_wanted expected (after_channels bytes (Ok c)) bytes)
    unfolding after_channels after_color_space read_wanted
    header_told c long =
        let P : Result ColorSpace Error → Type 0 = λ read. Told (length bytes) (read_wanted expected (after_color_space bytes c read) bytes) in
        either P (eqb (get_or bytes 13 0) 0) _ _ (λ is. space_told c Srgb long)
        (λ other. either P (eqb (get_or bytes 13 0) 1) _ _ (λ is. space_told c Linear long) (λ neither. color_space_bad _))

    -- each answer of reading a record is one of these
    pub record_told : Told (length bytes) (read_record expected bytes)
    unfolding read_record read_wanted header_of after_channels
    record_told =
        let P : Result Header Error → Type 0 = λ read. Told (length bytes) (read_wanted expected read bytes) in
        let Q : Result Channels Error → Type 0 = λ read. Told (length bytes) (read_wanted expected (after_channels bytes read) bytes) in
        either P (ltb (length bytes) 14) _ _ (λ cut. header_cut (ltb-true (length bytes) 14 cut))
        (λ whole.
        let long = ltb-false (length bytes) 14 whole in
        either Q (eqb (get_or bytes 12 0) 3) _ _ (λ is. header_told Rgb long)
        (λ other. either Q (eqb (get_or bytes 12 0) 4) _ _ (λ is. header_told Rgba long) (λ neither. channels_bad _)))
