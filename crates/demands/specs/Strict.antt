-- The strict check against the decode: it accepts exactly if a decode accepts, no run is longer than the pixels left,
-- and nothing follows the marker.
use Rattle.std.specs.Prelude.{List, [], ◌≡◌, ℕ, ◌≤◌, T, length, Ok}
use Rattle.pixel.specs.declared.types.Channels.{Channels}
use Rattle.pixel.specs.Types.{channels_number}
use Rattle.header.specs.declared.Header.{Header}
use Rattle.header.specs.Header.{header_of}
use Rattle.rules.specs.Reading.{done, size_wanted}
use Rattle.rules.specs.Decode.{decoding, rest_of}
use Rattle.rules.specs.Strict.{accepted, strict, runs_fit, chunk_count}

-- what is so of a message that the strict check accepts, with its figures
pub record Passes (m : List ℕ) (header : Header) (chunks bytes : ℕ) : Type 0 where
  pub reads : header_of m ≡ Ok header
  -- a decode accepts it, at 3 and at 4 channels, into any room that is enough, and uses `bytes` bytes
  pub decodes :
      (c : Channels) (room : ℕ) → size_wanted header (channels_number c) ≤ room
      → (decoding m (channels_number c) room).answer ≡ done (size_wanted header (channels_number c)) bytes
  -- no run is longer than the pixels left
  pub runs : T (runs_fit m)
  -- nothing follows the marker
  pub whole : bytes ≡ length m
  -- the chunks are those that the decoder reads
  pub counts : chunks ≡ chunk_count m

-- what a decode accepts, at any wanted channels and into any room, with no run past the image and nothing after the
-- marker, the strict check accepts, with the message's header and the chunks and the bytes of it
abbrev pub MustPass : List ℕ → Type 0
MustPass m =
    (wanted room size used : ℕ) → (decoding m wanted room).answer ≡ done size used → T (runs_fit m) → rest_of m (done size used) ≡ []
    → (header : Header) × (header_of m ≡ Ok header) × (strict m ≡ accepted header (chunk_count m) used)
