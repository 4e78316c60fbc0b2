-- Where a damaged record is told to be bad: what the promises about refused records say.
use Rattle.std.specs.Prelude.{cond, ℕ, ◌+◌, ◌≤◌, ◌<◌, ltb}
use Rattle.pixel.specs.declared.error.Error.TheVariants.{UnexpectedBufferEnd, InvalidChannels, InvalidColorSpace, InvalidMagic, InvalidImageDimensions, BadState, OtherMessage}
use Rattle.rules.specs.Step.{State, Started, started, not_started}
use Rattle.rules.specs.Record.{at_offset, pixel_offset, current_offset}

-- the record of a state, cut off after n bytes: where the field starts that is cut
abbrev pub cut_offset : State → ℕ → ℕ
cut_offset s n =
    cond (ltb n 14) 0
    (cond (ltb n (at_offset s)) 14
    (cond (ltb n (pixel_offset s)) (at_offset s)
    (cond (ltb n (current_offset s)) (pixel_offset s)
    (cond (ltb n (current_offset s + 4)) (current_offset s)
    (cond (ltb n (current_offset s + 260)) (current_offset s + 4) (current_offset s + 260))))))

-- all that reading a record of `size` bytes answers. 1 carries 0 where the header is cut, else an offset past the
-- header and at most at the end; 9 carries one past the header and before the end
pub data Told (size : ℕ) : Started → Type 0 where
  taken : (s : State) → Told size (started s)
  header_cut : size < 14 → Told size (not_started (UnexpectedBufferEnd 0))
  field_cut : (offset : ℕ) → 14 ≤ offset → offset ≤ size → Told size (not_started (UnexpectedBufferEnd offset))
  channels_bad : (channels : ℕ) → Told size (not_started (InvalidChannels channels))
  color_space_bad : (byte : ℕ) → Told size (not_started (InvalidColorSpace byte))
  magic_bad : (magic : ℕ) → Told size (not_started (InvalidMagic magic))
  dimensions_bad : (width height : ℕ) → Told size (not_started (InvalidImageDimensions width height))
  field_bad : (offset : ℕ) → 14 ≤ offset → offset < size → Told size (not_started (BadState offset))
  of_another : (number : ℕ) → Told size (not_started (OtherMessage number))
