-- Answers as numbers: 0 or the refusal's number, then four figures.
use Rattle.std.specs.Prelude.{List, [], ◌∷◌, ℕ, Result, Ok, Err}
use Rattle.pixel.specs.declared.error.Error.{Error}
use Rattle.pixel.specs.Refusal.{number_of, figures_of}
use Rattle.pixel.specs.Types.{channels_number, color_space_number}
use Rattle.rules.specs.Reading.{Answer, done, refused}
use Rattle.rules.specs.Encode.{EncodeAnswer, encoded, not_encoded}
use Rattle.rules.specs.Strict.{StrictAnswer, accepted, rejected}
use Rattle.header.specs.declared.Header.{Header}

-- a refusal: its number and its figures
abbrev pub refusal_figures : Error → List ℕ
refusal_figures e = number_of e ∷ figures_of e

-- a header: width, height, channels, colour space
abbrev pub header_figures : Result Header Error → List ℕ
header_figures (Ok h) = 0 ∷ h.width ∷ h.height ∷ channels_number h.channels ∷ color_space_number h.colorspace ∷ []
header_figures (Err e) = refusal_figures e

-- a decode: bytes written, message bytes used
abbrev pub answer_figures : Answer → List ℕ
answer_figures (done size used) = 0 ∷ size ∷ used ∷ 0 ∷ 0 ∷ []
answer_figures (refused e) = refusal_figures e

-- an encode: bytes written
abbrev pub encode_figures : EncodeAnswer → List ℕ
encode_figures (encoded size) = 0 ∷ size ∷ 0 ∷ 0 ∷ 0 ∷ []
encode_figures (not_encoded e) = refusal_figures e

-- the strict check: chunks, bytes
abbrev pub strict_figures : StrictAnswer → List ℕ
strict_figures (accepted header chunks bytes) = 0 ∷ chunks ∷ bytes ∷ 0 ∷ 0 ∷ []
strict_figures (rejected e) = refusal_figures e

-- words: bytes written
abbrev pub worded_figures : Result ℕ Error → List ℕ
worded_figures (Ok size) = 0 ∷ size ∷ 0 ∷ 0 ∷ 0 ∷ []
worded_figures (Err e) = refusal_figures e
