-- What an encode's answer means, and what is left in the output that is lent to it.
use Rattle.std.specs.Prelude.{List, ◌≡◌, ℕ, Result, Ok, Err}
use Rattle.rules.specs.Bytes.{written_over}
use Rattle.rules.specs.Encode.{EncodeAnswer, encoded, not_encoded, Encoding}
use Rattle.encode.specs.declared.Encoder.{Encoder}
use Rattle.header.specs.declared.Header.{Header}
use Rattle.pixel.specs.declared.error.Error.{Error}

-- how many bytes were written, or a refusal
abbrev pub answer_of : Result ℕ Error → EncodeAnswer
answer_of (Ok size) = encoded size
answer_of (Err e) = not_encoded e

-- the encoder that has a header, or the refusal
abbrev pub encoder_of : Result Header Error → Result Encoder Error
encoder_of (Ok header) = Ok (record { header = header })
encoder_of (Err e) = Err e

-- what an encode answers, and what a lent output that held `before` holds after it
abbrev pub Encodes : Encoding → List ℕ → Result ℕ Error → List ℕ → Type 0
Encodes encoding before r after = (answer_of r ≡ encoding.answer) × (after ≡ written_over encoding.bytes before)
