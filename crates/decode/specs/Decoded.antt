-- What a decode's answer means, and the decode to the header's own channels.
use Rattle.decode.specs.declared.Decoded.{Decoded}
use Rattle.std.specs.Prelude.{List, [], ◌≡◌, ℕ, ◌+◌, min, length, Result, Ok, Err}
use Rattle.std.specs.Borrow.{Bor}
use Rattle.pixel.specs.Types.{channels_number}
use Rattle.header.specs.declared.Header.{Header}
use Rattle.header.specs.Header.{header_of}
use Rattle.rules.specs.Reading.{Answer, done, refused}
use Rattle.rules.specs.Bytes.{written_over}
use Rattle.rules.specs.Decode.{decoding, rest_of}
use Rattle.pixel.specs.declared.error.Error.{Error}

-- so many bytes written, and message bytes used
abbrev pub decoded : ℕ → ℕ → Result Decoded Error
decoded size used = Ok (record { size = size; used = used })

-- bytes written and message bytes used, or a refusal
abbrev pub answer_of : Result Decoded Error → Answer
answer_of (Ok decoded) = done decoded.size decoded.used
answer_of (Err e) = refused e

-- the header where the decode accepts, or the refusal
abbrev pub header_when : Header → Answer → Result Header Error
header_when header (done size used) = Ok header
header_when header (refused e) = Err e

-- decoding to the channels of the message's own header: its answer
abbrev pub buf_answer : List ℕ → ℕ → Result Header Error → Result Header Error
buf_answer message room (Err e) = Err e
buf_answer message room (Ok header) =
    header_when header (decoding message (channels_number header.channels) room).answer

-- and the bytes that it writes
abbrev pub buf_bytes : List ℕ → ℕ → Result Header Error → List ℕ
buf_bytes message room (Err e) = []
buf_bytes message room (Ok header) = (decoding message (channels_number header.channels) room).bytes

-- what a decode answers, and what a lent output that held `before` holds after it
abbrev pub Decodes : List ℕ → ℕ → List ℕ → Result Decoded Error → List ℕ → Type 0
Decodes message wanted before r after =
    (answer_of r ≡ (decoding message wanted (length before)).answer)
    × (after ≡ written_over (decoding message wanted (length before)).bytes before)

-- the same of a decode to the channels of the message's own header
abbrev pub DecodesToBuf : List ℕ → List ℕ → Result Header Error → List ℕ → Type 0
DecodesToBuf message before r after =
    (r ≡ buf_answer message (length before) (header_of message))
    × (after ≡ written_over (buf_bytes message (length before) (header_of message)) before)

-- where the rest of a message of `size` bytes begins: after the bytes used, or at its end
abbrev pub rest_at : ℕ → Answer → ℕ
rest_at size (done written used) = min used size
rest_at size (refused e) = size

-- a part is the rest of a message after an answer: where in the message it lies, and what it holds
abbrev pub IsRest : Bor (List ℕ) → Answer → Bor (List ℕ) → Type 0
IsRest message answer part =
    (part.ref_ptr ≡ (message.ref_ptr.0, rest_at (length message.now) answer + message.ref_ptr.1))
    × (part.now ≡ rest_of message.now answer)
