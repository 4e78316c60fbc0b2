-- The document's decoder, from the QOI Specification 1.0: the three points on which it is not the decoder of
-- `Decode`; and the slots that are filled.
use Rattle.std.specs.Prelude.{Bool, true, false, cond, ◌&&◌, ◌||◌, List, [], ◌∷◌, ℕ, eqb, get_or, set, replicate}
use Rattle.pixel.specs.declared.Pixel.{Pixel}
use Rattle.pixel.specs.Colour.{slot_of}
use Rattle.rules.specs.Chunk.{Chunk, INDEX, DIFF, LUMA, RUN, RGB, RGBA, Stuck}
use Rattle.rules.specs.Reading.{Way, Reading, pixel_after, whole_reading}
use Rattle.rules.specs.Decode.{decoder, decoder_stores}
use Rattle.rules.specs.Trace.{Visit, own_channels, trace}

-- every pixel is stored in its slot, whichever chunk brought it
abbrev pub document_stores : Chunk → Bool
document_stores k = true

-- alpha is kept always; it is dropped only where three channels are written out
abbrev pub document_keeps : ℕ → Pixel → Pixel
document_keeps wanted p = p

-- ff is an RGBA chunk in any source
abbrev pub document_reads_rgba : ℕ → Bool
document_reads_rgba channels = true

-- the three points together
abbrev pub document : Way
document = record { stores = document_stores; keeps = document_keeps; reads_rgba = document_reads_rgba }

-- the document's reading of a message, written out with the wanted channels; the header's tests, the pixel limit and
-- the marker test are the decoder's, runs are clipped and bytes after the marker ignored
abbrev pub document_reading : List ℕ → ℕ → ℕ → Reading
document_reading message wanted room = whole_reading document message wanted room

-- INDEX names a filled slot, or slot 0 of a 4-channel source; other chunks name none
unfoldable pub names_filled : ℕ → List Bool → Chunk → Bool
names_filled channels filled (INDEX slot) = get_or filled slot false || (eqb channels 4 && eqb slot 0)
names_filled channels filled (DIFF r g b) = true
names_filled channels filled (LUMA g r b) = true
names_filled channels filled (RUN times) = true
names_filled channels filled (RGB r g b) = true
names_filled channels filled (RGBA r g b a) = true
names_filled channels filled Stuck = true

-- filled means stored by a chunk other than INDEX and RUN: one whose pixel the decoder stores
unfoldable pub filled_after : List Bool → Visit → List Bool
filled_after filled v =
    cond (decoder_stores v.found)
    (set filled (slot_of (pixel_after decoder (own_channels v.header) v.place v.found)) true) filled

-- no INDEX of these chunks names a slot not yet filled
unfoldable pub filled_in : List Bool → List Visit → Bool
filled_in filled [] = true
filled_in filled (v ∷ rest) = names_filled (own_channels v.header) filled v.found && filled_in (filled_after filled v) rest

-- no INDEX of a message names a slot not yet filled, slot 0 of a 4-channel source excepted
unfoldable pub indexes_filled : List ℕ → Bool
indexes_filled message = filled_in (replicate 64 false) (trace message)
