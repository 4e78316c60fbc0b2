-- Against the document, (b): what is said of a message that the decoder accepts at the header's own channels.
use Rattle.std.specs.Prelude.{List, ◌≡◌, ℕ, T, Ok}
use Rattle.header.specs.declared.Header.{Header}
use Rattle.header.specs.Header.{header_of}
use Rattle.rules.specs.Reading.{done}
use Rattle.rules.specs.Decode.{decoding}
use Rattle.rules.specs.Trace.{own_channels}
use Rattle.rules.specs.Document.{document_reading, indexes_filled}

-- if no INDEX names a slot not yet filled, slot 0 of a 4-channel source excepted, the document's reading is the
-- decoder's: its bytes and its answer
abbrev pub DocumentAgrees : List ℕ → Type 0
DocumentAgrees m =
    (header : Header) (room size used : ℕ) → header_of m ≡ Ok header
    → (decoding m (own_channels header) room).answer ≡ done size used → T (indexes_filled m)
    → document_reading m (own_channels header) room ≡ decoding m (own_channels header) room
