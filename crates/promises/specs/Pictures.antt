-- Demand 2 for the calls. `Encodes` and `Decodes` are the contracts of encode and decode, `IsEncode` and `IsDecode`
-- those of pivotshade_encode and pivotshade_decode: what holds of whatever they allow.
use Rattle.std.specs.Prelude.{List, [], ◌∷◌, ◌≡◌, ℕ, ◌*◌, ◌/◌, ◌≤◌, T, length, take, Ok, Result}
use Rattle.pixel.specs.Bytes.{AllBytes}
use Rattle.pixel.specs.Types.{channels_number, color_space_number}
use Rattle.header.specs.declared.Header.{Header}
use Rattle.header.specs.Header.{header_of, encoded_room}
use Rattle.rules.specs.Bytes.{written_over}
use Rattle.rules.specs.Document.{document_reading, indexes_filled}
use Rattle.rules.specs.Encode.{stream_of, encoding}
use Rattle.rules.specs.Figures.{header_figures, answer_figures}
use Rattle.rules.specs.Record.{read_record}
use Rattle.rules.specs.Trace.{own_channels}
use Rattle.demands.specs.ReadBack.{picture_read}
use Rattle.decode.specs.declared.Decoded.{Decoded}
use Rattle.decode.specs.Decoded.{answer_of, Decodes, decoded}
use Rattle.encode.specs.Encoded.{Encodes}
use Rattle.qoi.specs.Hosted.{IsDecode, IsEncode, host_figures, host_out, host_next}
use Rattle.promises.specs.Hosts.{says, returned, record_room, Host}
use Rattle.pixel.specs.declared.error.Error.{Error}

-- the figures of a decode that wrote `size` bytes and used `used` of its message
abbrev pub says_done : ℕ → ℕ → List ℕ
says_done size used = 0 ∷ size ∷ used ∷ 0 ∷ 0 ∷ []

-- A message brings a picture of these dimensions, channels and colour space: into any output that holds it, whoever
-- reads it.
pub record Brings (picture message : List ℕ) (width height channels colorspace : ℕ) : Type 0 where
  -- its header says so: what pivotshade_header answers
  pub header_says : header_figures (header_of message) ≡ 0 ∷ width ∷ height ∷ channels ∷ colorspace ∷ []
  -- the document's reading accepts it, and is the picture
  pub document_reads :
      (room : ℕ) → length picture ≤ room → document_reading message channels room ≡ picture_read picture message
  -- decode answers with all its bytes, and leaves the picture followed by what the output held
  pub decode_brings :
      (before : List ℕ) (r : Result Decoded Error) (after : List ℕ) → length picture ≤ length before
      → Decodes message channels before r after
      → (r ≡ decoded (length picture) (length message)) × (after ≡ written_over picture before)
  -- and so does pivotshade_decode
  pub host_brings :
      (before figures left : List ℕ) → length picture ≤ length before → IsDecode message channels before figures left
      → (figures ≡ says_done (length picture) (length message)) × (left ≡ written_over picture before)
  -- and so does a host that starts, runs and takes over as it likes, under any number, whenever a run does not return
  -- 256
  pub taken_over_brings :
      {number : ℕ} {r o b : List ℕ} → Host message number channels r o b → length picture ≤ length b
      → (steps : ℕ) (next : List ℕ) → record_room ≤ length next
      → (returned (host_figures message steps o next (read_record number r)) ≡ 256 → ⊥)
      → (host_figures message steps o next (read_record number r) ≡ says_done (length picture) (length message))
      × (host_out message steps o (read_record number r) ≡ written_over picture b)
      × (host_next message steps o next (read_record number r) ≡ next)

-- (a) for encode: where it is done, the first `size` bytes of its output bring the picture. Each number of the picture
-- is a byte, as in every slice.
abbrev pub EncodeReadsBack : List ℕ → ℕ → ℕ → Type 0
EncodeReadsBack picture width height =
    AllBytes picture → (colorspace : ℕ) (before : List ℕ) (r : Result ℕ Error) (after : List ℕ) (size : ℕ)
    → Encodes (encoding picture width height colorspace (length before)) before r after → r ≡ Ok size
    → (size ≤ length before) × Brings picture (take size after) width height (length picture / (width * height)) colorspace

-- and for pivotshade_encode
abbrev pub HostReadsBack : List ℕ → ℕ → ℕ → Type 0
HostReadsBack picture width height =
    AllBytes picture → (colorspace : ℕ) (before figures left : List ℕ) (size : ℕ)
    → IsEncode picture width height colorspace before figures left → figures ≡ says 0 size
    → (size ≤ length before) × Brings picture (take size left) width height (length picture / (width * height)) colorspace

-- and it is done, for every picture of a header, into the room that the header asks for; with `EncodeReadsBack` this
-- shuts out an encode that refuses
abbrev pub EncodeAccepts : Header → List ℕ → Type 0
EncodeAccepts header picture =
    (before : List ℕ) (r : Result ℕ Error) (after : List ℕ)
    → encoded_room header.width header.height (channels_number header.channels) ≤ length before
    → Encodes (encoding picture header.width header.height (color_space_number header.colorspace) (length before)) before r after
    → r ≡ Ok (length (stream_of header picture))

-- and for pivotshade_encode
abbrev pub HostAccepts : Header → List ℕ → Type 0
HostAccepts header picture =
    (before figures left : List ℕ)
    → encoded_room header.width header.height (channels_number header.channels) ≤ length before
    → IsEncode picture header.width header.height (color_space_number header.colorspace) before figures left
    → figures ≡ says 0 (length (stream_of header picture))

-- (b) for decode: a message that it accepts at the header's channels, where no INDEX names a slot not yet filled, slot 0
-- of a 4-channel source excepted: answer and output are the document's
abbrev pub DecodeIsDocument : List ℕ → Type 0
DecodeIsDocument m =
    (header : Header) (before : List ℕ) (r : Result Decoded Error) (after : List ℕ) (size used : ℕ)
    → header_of m ≡ Ok header
    → T (indexes_filled m) → Decodes m (own_channels header) before r after → r ≡ decoded size used
    → (answer_of r ≡ (document_reading m (own_channels header) (length before)).answer)
    × (after ≡ written_over (document_reading m (own_channels header) (length before)).bytes before)

-- and for pivotshade_decode
abbrev pub HostIsDocument : List ℕ → Type 0
HostIsDocument m =
    (header : Header) (before figures left : List ℕ) (size used : ℕ) → header_of m ≡ Ok header
    → T (indexes_filled m) → IsDecode m (own_channels header) before figures left → figures ≡ says_done size used
    → (figures ≡ answer_figures (document_reading m (own_channels header) (length before)).answer)
    × (left ≡ written_over (document_reading m (own_channels header) (length before)).bytes before)
