-- The decoder's rules, the Rust's: which chunks store, what is kept of alpha, when ff is read; the uncut decode; the
-- rest of a message.
use Rattle.std.specs.Prelude.{Bool, true, false, cond, List, [], ℕ, eqb, drop}
use Rattle.pixel.specs.declared.Pixel.{Pixel}
use Rattle.pixel.specs.Colour.{with_alpha}
use Rattle.rules.specs.Chunk.{Chunk, INDEX, DIFF, LUMA, RUN, RGB, RGBA, Stuck}
use Rattle.rules.specs.Reading.{Way, Reading, Answer, done, refused, whole_reading}

-- every chunk but INDEX and RUN stores its pixel in its slot
unfoldable pub decoder_stores : Chunk → Bool
decoder_stores (INDEX slot) = false
decoder_stores (DIFF r g b) = true
decoder_stores (LUMA g r b) = true
decoder_stores (RUN times) = false
decoder_stores (RGB r g b) = true
decoder_stores (RGBA r g b a) = true
decoder_stores Stuck = true

-- with wanted channels 3 the pixel's fourth byte is 255 after every chunk, so slots are found and stored with it;
-- with 4, alpha is as it came
unfoldable pub decoder_keeps : ℕ → Pixel → Pixel
decoder_keeps wanted p = cond (eqb wanted 3) (with_alpha p 255) p

-- ff is an RGBA chunk only if the header says 4 channels
unfoldable pub decoder_reads_rgba : ℕ → Bool
decoder_reads_rgba channels = eqb channels 4

-- the three points together
abbrev pub decoder : Way
decoder = record { stores = decoder_stores; keeps = decoder_keeps; reads_rgba = decoder_reads_rgba }

-- the uncut decode of a message at wanted channels into `room` bytes
abbrev pub decoding : List ℕ → ℕ → ℕ → Reading
decoding message wanted room = whole_reading decoder message wanted room

-- the rest of a message: from 14 + chunk bytes + 8 to the end; after a refusal, the empty part at its end
unfoldable pub rest_of : List ℕ → Answer → List ℕ
rest_of message (done size used) = drop used message
rest_of message (refused e) = []
