-- Document 01's table of refusals, and those of document 02's Q-7 and Q-13: each one's number and figures, which
-- determine it. 1 and 9 have the offset of Q-9, which is 0 wherever no record is read.
use Rattle.std.specs.Prelude.{◌≡◌, refl, List, [], ◌∷◌, cond, ℕ, eqb, get_or}
use Rattle.std.proofs.Common.{sym, ◌∙◌, ap₂}
use Rattle.pixel.specs.declared.error.Error.{Error}
use Rattle.pixel.specs.declared.error.Error.TheVariants.{UnexpectedBufferEnd, InvalidChannels, InvalidColorSpace, InvalidMagic, InvalidImageDimensions, InvalidImageLength, OutputBufferTooSmall, InvalidPadding, BadState, RunPastImage, BytesAfterMarker, OtherMessage, InvalidHour, InvalidCellCount, TotalTooLarge}

-- 1 with offset 0: of anything but a record, or of a record whose header is cut
abbrev pub ended_early : Error
ended_early = UnexpectedBufferEnd 0

-- 9 with offset 0: of a state
abbrev pub bad_state : Error
bad_state = BadState 0

-- the number that the documents give it
abbrev pub number_of : Error → ℕ
number_of (UnexpectedBufferEnd offset) = 1
number_of (InvalidChannels channels) = 2
number_of (InvalidColorSpace byte) = 3
number_of (InvalidMagic magic) = 4
number_of (InvalidImageDimensions width height) = 5
number_of (InvalidImageLength size width height) = 6
number_of (OutputBufferTooSmall size required) = 7
number_of InvalidPadding = 8
number_of (BadState offset) = 9
number_of RunPastImage = 10
number_of BytesAfterMarker = 11
number_of (OtherMessage number) = 12
number_of (InvalidHour hour) = 19
number_of (InvalidCellCount pixels cells) = 20
number_of (TotalTooLarge cell) = 21

-- the figures in the documents' order, zeros after them
abbrev pub figures_of : Error → List ℕ
figures_of (UnexpectedBufferEnd offset) = offset ∷ 0 ∷ 0 ∷ 0 ∷ []
figures_of (InvalidChannels channels) = channels ∷ 0 ∷ 0 ∷ 0 ∷ []
figures_of (InvalidColorSpace byte) = byte ∷ 0 ∷ 0 ∷ 0 ∷ []
figures_of (InvalidMagic magic) = magic ∷ 0 ∷ 0 ∷ 0 ∷ []
figures_of (InvalidImageDimensions width height) = width ∷ height ∷ 0 ∷ 0 ∷ []
figures_of (InvalidImageLength size width height) = size ∷ width ∷ height ∷ 0 ∷ []
figures_of (OutputBufferTooSmall size required) = size ∷ required ∷ 0 ∷ 0 ∷ []
figures_of InvalidPadding = 0 ∷ 0 ∷ 0 ∷ 0 ∷ []
figures_of (BadState offset) = offset ∷ 0 ∷ 0 ∷ 0 ∷ []
figures_of RunPastImage = 0 ∷ 0 ∷ 0 ∷ 0 ∷ []
figures_of BytesAfterMarker = 0 ∷ 0 ∷ 0 ∷ 0 ∷ []
figures_of (OtherMessage number) = number ∷ 0 ∷ 0 ∷ 0 ∷ []
figures_of (InvalidHour hour) = hour ∷ 0 ∷ 0 ∷ 0 ∷ []
figures_of (InvalidCellCount pixels cells) = pixels ∷ cells ∷ 0 ∷ 0 ∷ []
figures_of (TotalTooLarge cell) = cell ∷ 0 ∷ 0 ∷ 0 ∷ []

-- the refusal that a number and figures name
abbrev refusal_of : ℕ → List ℕ → Error
refusal_of n f =
    cond (eqb n 2) (InvalidChannels (get_or f 0 0))
    (cond (eqb n 3) (InvalidColorSpace (get_or f 0 0))
    (cond (eqb n 4) (InvalidMagic (get_or f 0 0))
    (cond (eqb n 5) (InvalidImageDimensions (get_or f 0 0) (get_or f 1 0))
    (cond (eqb n 6) (InvalidImageLength (get_or f 0 0) (get_or f 1 0) (get_or f 2 0))
    (cond (eqb n 7) (OutputBufferTooSmall (get_or f 0 0) (get_or f 1 0))
    (cond (eqb n 8) InvalidPadding
    (cond (eqb n 9) (BadState (get_or f 0 0))
    (cond (eqb n 10) RunPastImage
    (cond (eqb n 11) BytesAfterMarker
    (cond (eqb n 12) (OtherMessage (get_or f 0 0))
    (cond (eqb n 19) (InvalidHour (get_or f 0 0))
    (cond (eqb n 20) (InvalidCellCount (get_or f 0 0) (get_or f 1 0))
    (cond (eqb n 21) (TotalTooLarge (get_or f 0 0)) (UnexpectedBufferEnd (get_or f 0 0)))))))))))))))

-- a refusal is the one that its number and figures name
named : (e : Error) → refusal_of (number_of e) (figures_of e) ≡ e
named (UnexpectedBufferEnd offset) = refl
named (InvalidChannels channels) = refl
named (InvalidColorSpace byte) = refl
named (InvalidMagic magic) = refl
named (InvalidImageDimensions width height) = refl
named (InvalidImageLength size width height) = refl
named (OutputBufferTooSmall size required) = refl
named InvalidPadding = refl
named (BadState offset) = refl
named RunPastImage = refl
named BytesAfterMarker = refl
named (OtherMessage number) = refl
named (InvalidHour hour) = refl
named (InvalidCellCount pixels cells) = refl
named (TotalTooLarge cell) = refl

-- two refusals with the same number and figures are the same
pub refusal_determined : (a b : Error) → number_of a ≡ number_of b → figures_of a ≡ figures_of b → a ≡ b
refusal_determined a b n f = sym (named a) ∙ ap₂ refusal_of n f ∙ named b
