-- What the decoder reads of a message at the header's own channels: the chunks, each where it is found, until no
-- pixel is left or a chunk is cut.
use Rattle.std.specs.Prelude.{cond, List, [], ◌∷◌, ℕ, zero, suc, ltb, drop, Result, Ok, Err}
use Rattle.pixel.specs.Types.{channels_number}
use Rattle.header.specs.declared.Header.{Header}
use Rattle.header.specs.Header.{pixel_count, header_of}
use Rattle.rules.specs.Chunk.{Chunk, Found, cut, chunk, chunk_at}
use Rattle.rules.specs.Reading.{Place, start_place, place_after}
use Rattle.rules.specs.Decode.{decoder, decoder_reads_rgba}
use Rattle.pixel.specs.declared.error.Error.{Error}

-- a chunk in the place where it is found
pub record Visit : Type 0 where
  pub header : Header
  pub place : Place
  pub found : Chunk

-- the number of the header's own channels
abbrev pub own_channels : Header → ℕ
own_channels header = channels_number header.channels

-- a chunk, and then those that follow it
unfoldable pub visits_on : Header → (Place → List Visit) → Place → Found → List Visit
visits_on header next place cut = []
visits_on header next place (chunk k) =
    record { header = header; place = place; found = k } ∷ next (place_after decoder header (own_channels header) place k)

module _ (header : Header) (message : List ℕ) where
  -- the decoder's chunk at a place, none with no pixel left
  unfoldable pub chunk_due : Place → Found
  chunk_due place =
      cond (ltb place.pixel (pixel_count header))
      (chunk_at (decoder_reads_rgba (own_channels header)) (drop place.at message)) cut

  -- at most `left` chunks
  unfoldable pub visits : ℕ → Place → List Visit
  visits zero place = []
  visits (suc left) place = visits_on header (visits left) place (chunk_due place)

-- a message with no header has no chunk; each chunk brings a pixel, so there are no more of them than pixels
unfoldable pub header_trace : List ℕ → Result Header Error → List Visit
header_trace message (Err e) = []
header_trace message (Ok header) = visits header message (pixel_count header) start_place

-- the chunks that the decoder reads of a message
unfoldable pub trace : List ℕ → List Visit
trace message = header_trace message (header_of message)
