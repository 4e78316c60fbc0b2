-- Against the document, (a): what must come out where a stream of the encoder is read back.
use Rattle.std.specs.Prelude.{List, ◌≡◌, ℕ, ◌≤◌, length}
use Rattle.rules.specs.Reading.{Reading, done}
use Rattle.rules.specs.Decode.{decoding}
use Rattle.rules.specs.Document.{document_reading}

-- the reading of a picture's stream: accepted with the size of the picture and the length of the stream, and its
-- bytes are the picture
abbrev pub picture_read : List ℕ → List ℕ → Reading
picture_read picture stream = record { answer = done (length picture) (length stream); bytes = picture }

-- by the document's rules and by the decoder's that reading comes out, into every room that holds the picture
pub record ReadBack (picture stream : List ℕ) (wanted : ℕ) : Type 0 where
  pub document_is : (room : ℕ) → length picture ≤ room → document_reading stream wanted room ≡ picture_read picture stream
  pub decoder_is : (room : ℕ) → length picture ≤ room → decoding stream wanted room ≡ picture_read picture stream

-- what is true of an encode that wrote `size` bytes: they are all of its bytes, they fit its room, and they are read
-- back at the picture's channels
pub record Encoded (picture stream : List ℕ) (channels room size : ℕ) : Type 0 where
  pub all : size ≡ length stream
  pub fits : size ≤ room
  pub back : ReadBack picture stream channels
