-- What the decode's own parts ask of one another; nothing that a public contract cites.
use Rattle.std.specs.Prelude.{List, ◌≡◌, ℕ, Result}
use Rattle.pixel.specs.declared.error.Error.{Error}
use Rattle.rules.specs.Bytes.{written_over}
use Rattle.rules.specs.Reading.{Reading}
use Rattle.decode.specs.declared.Decoded.{Decoded}
use Rattle.decode.specs.Decoded.{answer_of}

-- a reading's answer, and what a lent output that held `before` holds after it
abbrev pub Reads : Reading → List ℕ → Result Decoded Error → List ℕ → Type 0
Reads reading before r after = (answer_of r ≡ reading.answer) × (after ≡ written_over reading.bytes before)
