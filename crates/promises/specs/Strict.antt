-- The strict check for the calls. `verdict_of s ≡ strict m` is the contract of strict, `IsStrict` that of
-- pivotshade_strict: what holds of whatever they allow, beside `Decodes`, `IsDecode`, `Encodes` and `IsEncode`, the
-- contracts of decode, pivotshade_decode, encode and pivotshade_encode.
use Rattle.std.specs.Prelude.{List, ◌≡◌, ℕ, ◌≤◌, T, length, take, Ok, Result}
use Rattle.pixel.specs.declared.types.Channels.{Channels}
use Rattle.pixel.specs.Bytes.{AllBytes}
use Rattle.pixel.specs.Types.{channels_number}
use Rattle.header.specs.declared.Header.{Header}
use Rattle.header.specs.Header.{header_of}
use Rattle.rules.specs.Reading.{size_wanted}
use Rattle.rules.specs.Encode.{chunks_of, encoding}
use Rattle.rules.specs.Strict.{strict, runs_fit, chunk_count}
use Rattle.decode.specs.declared.Decoded.{Decoded}
use Rattle.decode.specs.Decoded.{Decodes, decoded}
use Rattle.encode.specs.Encoded.{Encodes}
use Rattle.strict.specs.declared.Accepted.{Accepted}
use Rattle.strict.specs.Checked.{verdict_of, passes}
use Rattle.qoi.specs.Hosted.{IsDecode, IsEncode, IsStrict}
use Rattle.promises.specs.Hosts.{says}
use Rattle.promises.specs.Pictures.{says_done}
use Rattle.pixel.specs.declared.error.Error.{Error}

-- What is so of a message that the strict check accepts, with its figures: the calls that decode accept it, and use
-- `bytes` bytes.
pub record Decodable (m : List ℕ) (header : Header) (chunks bytes : ℕ) : Type 0 where
  pub header_is : header_of m ≡ Ok header
  -- decode accepts it, at 3 and at 4 channels, into any output that holds the picture
  pub decode_accepts :
      (c : Channels) (before : List ℕ) (r : Result Decoded Error) (after : List ℕ)
      → size_wanted header (channels_number c) ≤ length before
      → Decodes m (channels_number c) before r after → r ≡ decoded (size_wanted header (channels_number c)) bytes
  -- and so does pivotshade_decode
  pub host_accepts :
      (c : Channels) (before figures left : List ℕ)
      → size_wanted header (channels_number c) ≤ length before
      → IsDecode m (channels_number c) before figures left
      → figures ≡ says_done (size_wanted header (channels_number c)) bytes
  -- no run is longer than the pixels left
  pub runs_fit : T (runs_fit m)
  -- nothing follows the marker
  pub whole : bytes ≡ length m
  -- the chunks are those that the decoder reads
  pub chunks_are : chunks ≡ chunk_count m

-- what strict accepts is so
abbrev pub StrictAccepts : List ℕ → Type 0
StrictAccepts m =
    (s : Result Accepted Error) (header : Header) (chunks bytes : ℕ) → verdict_of s ≡ strict m
    → s ≡ passes header chunks bytes → Decodable m header chunks bytes

-- and what pivotshade_strict accepts: its figures are the chunks and the bytes
abbrev pub HostStrictAccepts : List ℕ → Type 0
HostStrictAccepts m =
    (figures : List ℕ) (chunks bytes : ℕ) → IsStrict m figures → figures ≡ says_done chunks bytes
    → (header : Header) × Decodable m header chunks bytes

-- And back: a message that decode accepts, at any wanted channels and into any output, where no run is longer than the
-- pixels left and every byte is used, strict accepts, with the message's header, its chunks and its bytes.
abbrev pub StrictMustAccept : List ℕ → Type 0
StrictMustAccept m =
    (wanted size used : ℕ) (before : List ℕ) (r : Result Decoded Error) (after : List ℕ) → Decodes m wanted before r after
    → r ≡ decoded size used → T (runs_fit m) → used ≡ length m → (s : Result Accepted Error) → verdict_of s ≡ strict m
    → (header : Header) × (header_of m ≡ Ok header) × (s ≡ passes header (chunk_count m) used)

-- and so for pivotshade_decode and pivotshade_strict
abbrev pub HostStrictMustAccept : List ℕ → Type 0
HostStrictMustAccept m =
    (wanted size used : ℕ) (before figures left : List ℕ) → IsDecode m wanted before figures left
    → figures ≡ says_done size used → T (runs_fit m) → used ≡ length m → (checked : List ℕ) → IsStrict m checked
    → checked ≡ says_done (chunk_count m) used

-- What encode wrote, the first `size` bytes of its output, strict accepts: with the header that it has, as many chunks
-- as the encoder chose, and all its bytes. Each number of the picture is a byte, as in every slice.
abbrev pub EncodeIsStrict : List ℕ → ℕ → ℕ → Type 0
EncodeIsStrict picture width height =
    AllBytes picture → (colorspace : ℕ) (before : List ℕ) (r : Result ℕ Error) (after : List ℕ) (size : ℕ)
    → Encodes (encoding picture width height colorspace (length before)) before r after → r ≡ Ok size
    → (s : Result Accepted Error) → verdict_of s ≡ strict (take size after)
    → (header : Header) × (header_of (take size after) ≡ Ok header)
    × (s ≡ passes header (length (chunks_of header picture)) size)

-- and so for pivotshade_encode and pivotshade_strict
abbrev pub HostEncodeIsStrict : List ℕ → ℕ → ℕ → Type 0
HostEncodeIsStrict picture width height =
    AllBytes picture → (colorspace : ℕ) (before figures left : List ℕ) (size : ℕ)
    → IsEncode picture width height colorspace before figures left → figures ≡ says 0 size
    → (checked : List ℕ) → IsStrict (take size left) checked
    → (header : Header) × (header_of (take size left) ≡ Ok header)
    × (checked ≡ says_done (length (chunks_of header picture)) size)
