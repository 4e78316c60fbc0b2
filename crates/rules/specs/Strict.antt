-- The strict check: what a decode accepts, with no run past the image and nothing after the marker; it counts chunks
-- and bytes.
-- The order of refusals reads from the bottom up: the last definition of it makes the first test.
use Rattle.std.specs.Prelude.{Bool, true, cond, ◌&&◌, List, [], ◌∷◌, ℕ, zero, suc, ◌+◌, ◌-◌, ltb, leb, eqb, length, drop, Result, Ok, Err}
use Rattle.pixel.specs.declared.error.Error.{Error}
use Rattle.pixel.specs.declared.error.Error.TheVariants.{InvalidPadding, RunPastImage, BytesAfterMarker}
use Rattle.pixel.specs.Refusal.{ended_early}
use Rattle.pixel.specs.Types.{channels_number}
use Rattle.header.specs.declared.Header.{Header}
use Rattle.header.specs.Header.{pixel_count, header_of}
use Rattle.rules.specs.Chunk.{Chunk, Found, cut, chunk, chunk_at, times_of, size_of, INDEX, DIFF, LUMA, RUN, RGB, RGBA, Stuck}
use Rattle.rules.specs.Reading.{Answer, closing}
use Rattle.rules.specs.Decode.{decoder_reads_rgba}
use Rattle.rules.specs.Trace.{Visit, trace}

-- the header, how many chunks and how many bytes in all; or a refusal
pub data StrictAnswer : Type 0 where
  accepted : Header → ℕ → ℕ → StrictAnswer
  rejected : Error → StrictAnswer

-- byte position, pixels left, chunks so far
pub record Tally : Type 0 where
  pub at : ℕ
  pub left : ℕ
  pub chunks : ℕ

-- one move of the check: on to the next tally, or the end
pub data StrictMove : Type 0 where
  more : Tally → StrictMove
  end : StrictAnswer → StrictMove

-- a move, and then the check from where it leads
abbrev pub check_on : (Tally → StrictAnswer) → StrictMove → StrictAnswer
check_on next (more tally) = next tally
check_on next (end verdict) = verdict

module _ (header : Header) (message : List ℕ) where
  -- at the end 1 and 8 as a decode, then 11 where something follows the marker
  unfoldable pub strict_closed : ℕ → Answer → StrictAnswer
  strict_closed chunks (Answer.refused e) = rejected e
  strict_closed chunks (Answer.done size used) =
      cond (ltb used (length message)) (rejected BytesAfterMarker) (accepted header chunks used)

  -- the end of a message
  unfoldable pub strict_closing : Tally → StrictAnswer
  strict_closing tally = strict_closed tally.chunks (closing 0 message tally.at)

  -- a chunk that fits the pixels left; a longer run is 10
  unfoldable pub strict_counted : Tally → Chunk → StrictMove
  strict_counted tally k =
      cond (leb (times_of k) tally.left)
      (more (record { at = tally.at + size_of k; left = tally.left - times_of k; chunks = tally.chunks + 1 }))
      (end (rejected RunPastImage))

  -- at each chunk 1, then 8 at once for an ff that is stuck, then 10
  unfoldable pub strict_by : Tally → Found → StrictMove
  strict_by tally cut = end (rejected ended_early)
  strict_by tally (chunk (INDEX slot)) = strict_counted tally (INDEX slot)
  strict_by tally (chunk (DIFF r g b)) = strict_counted tally (DIFF r g b)
  strict_by tally (chunk (LUMA g r b)) = strict_counted tally (LUMA g r b)
  strict_by tally (chunk (RUN times)) = strict_counted tally (RUN times)
  strict_by tally (chunk (RGB r g b)) = strict_counted tally (RGB r g b)
  strict_by tally (chunk (RGBA r g b a)) = strict_counted tally (RGBA r g b a)
  strict_by tally (chunk Stuck) = end (rejected InvalidPadding)

  -- one chunk or, with no pixel left, the end
  unfoldable pub strict_move : Tally → StrictMove
  strict_move tally =
      cond (eqb tally.left 0) (end (strict_closing tally))
      (strict_by tally (chunk_at (decoder_reads_rgba (channels_number header.channels)) (drop tally.at message)))

  -- moves until the end; each counts a pixel, so with none left only the end is to do
  unfoldable pub strict_from : ℕ → Tally → StrictAnswer
  strict_from zero tally = strict_closing tally
  strict_from (suc n) tally = check_on (strict_from n) (strict_move tally)

-- the header's refusals come first
unfoldable pub strict_header : List ℕ → Result Header Error → StrictAnswer
strict_header message (Err e) = rejected e
strict_header message (Ok header) =
    strict_from header message (pixel_count header) (record { at = 14; left = pixel_count header; chunks = 0 })

-- strict: header; each chunk; the end
unfoldable pub strict : List ℕ → StrictAnswer
strict message = strict_header message (header_of message)

-- no run of these chunks is longer than the pixels left
unfoldable pub runs_fit_in : List Visit → Bool
runs_fit_in [] = true
runs_fit_in (v ∷ rest) = leb (times_of v.found) (pixel_count v.header - v.place.pixel) && runs_fit_in rest

-- no run of a message is longer than the pixels left
abbrev pub runs_fit : List ℕ → Bool
runs_fit message = runs_fit_in (trace message)

-- how many chunks of a message the decoder reads
abbrev pub chunk_count : List ℕ → ℕ
chunk_count message = length (trace message)
