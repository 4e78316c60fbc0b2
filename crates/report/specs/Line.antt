-- The line that `qoicheck` prints of what it read.
use Rattle.std.specs.Prelude.{cond, List, [], ◌∷◌, ℕ, ltb, length}
use Rattle.text.specs.Text.{Part, say, figure, said}
use Rattle.pixel.specs.Refusal.{number_of}
use Rattle.pixel.specs.Types.{channels_number, color_space_number}
use Rattle.header.specs.declared.Header.{Header}
use Rattle.rules.specs.Strict.{StrictAnswer, accepted, rejected, strict}

-- `ok` and width, height, channels, colour space, chunks, bytes
abbrev pub ok_parts : Header → ℕ → ℕ → List Part
ok_parts header chunks bytes =
    figure "ok " header.width
    ∷ figure " " header.height
    ∷ figure " " (channels_number header.channels)
    ∷ figure " " (color_space_number header.colorspace)
    ∷ figure " " chunks
    ∷ figure " " bytes
    ∷ say "\n" ∷ []

-- `refused` and the number
abbrev pub refused_parts : ℕ → List Part
refused_parts number = figure "refused " number ∷ say "\n" ∷ []

abbrev pub verdict_parts : StrictAnswer → List Part
verdict_parts (accepted header chunks bytes) = ok_parts header chunks bytes
verdict_parts (rejected e) = refused_parts (number_of e)

-- or `too long` above 65,536 bytes
unfoldable pub line_parts : List ℕ → List Part
line_parts input = cond (ltb 65536 (length input)) (say "too long\n" ∷ []) (verdict_parts (strict input))

abbrev pub line_of : List ℕ → List ℕ
line_of input = said (line_parts input)
