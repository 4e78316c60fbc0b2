-- A refusal in words: the Rust's own for the eight that it has, and in the same style for 9 to 12, 19 to 21 and for a
-- number that is no refusal. 1 and 9 with an offset are those of a record.
use Rattle.std.specs.Prelude.{cond, List, [], ◌∷◌, ℕ, ◌/◌, ◌%◌, eqb, ltb, length, get_or, Result, Ok, Err}
use Rattle.text.specs.Text.{Part, say, figure, said}
use Rattle.pixel.specs.declared.error.Error.TheVariants.{OutputBufferTooSmall}
use Rattle.pixel.specs.declared.error.Error.{Error}

-- the magic expected is "qoif" as a number; of the one found the four bytes are told, the high one first
abbrev pub magic_parts : ℕ → List Part
magic_parts magic =
    figure "invalid magic: expected 1903126886, got [" (magic / 16777216 % 256)
    ∷ figure ", " (magic / 65536 % 256)
    ∷ figure ", " (magic / 256 % 256)
    ∷ figure ", " (magic % 256)
    ∷ say "]" ∷ []

-- input that ended early: a record's, past its header, has an offset
abbrev pub end_parts : ℕ → List Part
end_parts offset =
    cond (eqb offset 0) (say "unexpected input buffer end while decoding" ∷ [])
    (figure "record is bad at byte " offset ∷ say " (unexpected end)" ∷ [])

-- a bad record has an offset, a bad state none
abbrev pub bad_parts : ℕ → List Part
bad_parts offset =
    cond (eqb offset 0) (say "invalid decoder state" ∷ []) (figure "record is bad at byte " offset ∷ [])

-- what is said of a number and its figures a, b and c
unfoldable pub sentence : ℕ → ℕ → ℕ → ℕ → List Part
sentence number a b c =
    cond (eqb number 1) (end_parts a)
    (cond (eqb number 2) (figure "invalid number of channels: " a ∷ [])
    (cond (eqb number 3) (figure "invalid color space: " a ∷ say " (expected 0 or 1)" ∷ [])
    (cond (eqb number 4) (magic_parts a)
    (cond (eqb number 5) (figure "invalid image dimensions: " a ∷ figure "x" b ∷ [])
    (cond (eqb number 6) (figure "invalid image length: " a ∷ figure " bytes for " b ∷ figure "x" c ∷ [])
    (cond (eqb number 7) (figure "output buffer size too small: " a ∷ figure " (required: " b ∷ say ")" ∷ [])
    (cond (eqb number 8) (say "invalid padding (stream end marker mismatch)" ∷ [])
    (cond (eqb number 9) (bad_parts a)
    (cond (eqb number 10) (say "invalid run (longer than the pixels left)" ∷ [])
    (cond (eqb number 11) (say "invalid length (bytes after the stream end marker)" ∷ [])
    (cond (eqb number 12) (figure "record of another message: " a ∷ [])
    (cond (eqb number 19) (figure "invalid hour: " a ∷ say " (expected 0 to 743)" ∷ [])
    (cond (eqb number 20) (figure "invalid number of cells: " a ∷ figure " pixels for " b ∷ say " cells" ∷ [])
    (cond (eqb number 21) (figure "total too large: cell " a ∷ say " would pass 18446744073709551615" ∷ [])
    (figure "unknown refusal: " number ∷ [])))))))))))))))

-- the words of a number and its figures
abbrev pub words_of : ℕ → List ℕ → List ℕ
words_of number figures = said (sentence number (get_or figures 0 0) (get_or figures 1 0) (get_or figures 2 0))

-- the answer for an output with this room: the length of the words, or 7
unfoldable pub worded_in : List ℕ → ℕ → Result ℕ Error
worded_in words room =
    cond (ltb room (length words)) (Err (OutputBufferTooSmall room (length words))) (Ok (length words))
