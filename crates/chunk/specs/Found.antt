-- What the reader's answers mean in the chunk table, and the marker test of a part.
use Rattle.std.specs.Prelude.{cond, List, ℕ, ◌+◌, ltb, length, take, Option, Some, None, Result, Ok, Err}
use Rattle.chunk.specs.declared.Colour.{Colour}
use Rattle.chunk.specs.declared.Colour.TheVariants as colour
use Rattle.chunk.specs.declared.Found.{Found}
use Rattle.chunk.specs.declared.Found.TheVariants as found
use Rattle.rules.specs.Chunk.{Chunk, INDEX, DIFF, LUMA, RUN, RGB, RGBA, Stuck, cut, chunk}
use Rattle.rules.specs.Chunk as rules
use Rattle.rules.specs.Bytes.{same_bytes}
use Rattle.rules.specs.Reading.{Answer, done, refused, marker}
use Rattle.pixel.specs.declared.error.Error.{Error}
use Rattle.pixel.specs.declared.error.Error.TheVariants.{InvalidPadding}
use Rattle.pixel.specs.Refusal.{ended_early}

-- the chunk that a colour is
abbrev pub chunk_of : Colour → Chunk
chunk_of (colour.Diff r g b) = DIFF r g b
chunk_of (colour.Luma g r b) = LUMA g r b
chunk_of (colour.Rgb r g b) = RGB r g b
chunk_of (colour.Rgba r g b a) = RGBA r g b a
chunk_of colour.Stuck = Stuck

-- the row of the table that an answer is
abbrev pub found_of : Option Found → rules.Found
found_of None = cut
found_of (Some (found.Index slot)) = chunk (INDEX slot)
found_of (Some (found.Run times)) = chunk (RUN times)
found_of (Some (found.Colour c)) = chunk (chunk_of c)

-- under 8 bytes, 1; the marker; other bytes, 8
unfoldable pub ending_at : List ℕ → Result (Unit {0}) Error
ending_at part =
    cond (ltb (length part) 8) (Err ended_early)
    (cond (same_bytes (take 8 part) marker) (Ok tt) (Err InvalidPadding))

-- the answer that an ending gives at a byte position, for `size` bytes written
abbrev pub closed_by : ℕ → ℕ → Result (Unit {0}) Error → Answer
closed_by size at (Err e) = refused e
closed_by size at (Ok marker-stands) = done size (at + 8)
