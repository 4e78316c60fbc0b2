-- Laws of a picture: its pixels are whole and their bytes are the picture; its chunks can be written, and its stream
-- fits the room that is asked for.
-- Assumes nothing.
use mathlib.Core.Path.{◌≡◌, refl, ◌∙◌, ap}
use mathlib.Core.Bool.{Bool, true}
use mathlib.Core.List.{List, [], ◌∷◌, ◌++◌}
use Prim.Native.Nat.{ℕ, zero, suc, ◌+◌, ◌-◌, ◌*◌, ◌^◌, ◌≤◌, ◌<◌, zero-le}
use native.Mathlib.Nat.{zero-mul, suc-mul, lt_of_not-le}
use native.Mathlib.Decide.{dec_le}
use native.Mathlib.Omega.{arith}
use borrow.Author.Tests.{eq-eqb}
use lib.Dec.{T}
use lib.ListN.{length, get_or, take, drop, length-append, length-drop, take-append-drop, get_or-eq_default}
use lib.Seq.{get_or-drop}
use Rattle.pixel.specs.declared.Pixel.{Pixel}
use Rattle.pixel.specs.declared.types.Channels.{Channels}
use Rattle.pixel.specs.declared.types.Channels.TheVariants.{Rgb, Rgba}
use Rattle.pixel.specs.Bytes.{AllBytes, pixel_from, pixels_from}
use Rattle.pixel.specs.Types.{channels_number}
use Rattle.header.specs.declared.Header.{Header}
use Rattle.header.specs.Header.{pixel_count, dimensions_fit, encoded_room}
use Rattle.header.proofs.Laws.{header_length, pixels_small}
use Rattle.rules.specs.Chunk.{Chunk, chunk, chunk_at}
use Rattle.rules.specs.Encode.{start_pen, chunk_bytes, chunks_of, stream_of}
use Rattle.rules.proofs.EncodeLaws.{Writable, chunk_read_back, Wholes, start_whole}
use Rattle.rules.proofs.PenLaws.{Writables, chunks_size, chunks_writable}

-- the first bytes of each pixel, as many as there are channels
unfoldable pub written : ℕ → List Pixel → List ℕ
written n [] = []
written n (p ∷ ps) = take n p.rgba ++ written n ps

-- a number of bytes is a byte at every place, past their end too
pub every_byte : (l : List ℕ) → AllBytes l → (i : ℕ) → get_or l i 0 < 256
every_byte l are i = go (dec_le (length l) i)
  where
    go : Dec (length l ≤ i) → get_or l i 0 < 256
    go (yes h) = rw (get_or-eq_default l 0 h) (omega arith)
    go (no h) = are i (lt_of_not-le h)

-- the pixels of a picture of bytes are whole
pub pixels_whole : (n channels : ℕ) (bytes : List ℕ) → ((i : ℕ) → get_or bytes i 0 < 256) → Wholes channels (pixels_from n channels bytes)
unfolding pixels_from pixel_from
pixels_whole zero channels bytes are = tt
pixels_whole (suc n) channels bytes are = (
  record {
    four = refl;
    red_byte = are 0;
    green_byte = are 1;
    blue_byte = are 2;
    opaque = λ three. rw (eq-eqb channels 3 three);
  },
  pixels_whole n channels (drop channels bytes) (λ i. rw (get_or-drop channels bytes i 0) (are (channels + i))),
)

-- and there are n of them
pub pixels_count : (n channels : ℕ) (bytes : List ℕ) → length (pixels_from n channels bytes) ≡ n
unfolding pixels_from
pixels_count zero channels bytes = refl
pixels_count (suc n) channels bytes = ap suc (pixels_count n channels (drop channels bytes))

-- a pixel's bytes are those that it was made of
first_bytes :
    (c : Channels) (bytes : List ℕ) → channels_number c ≤ length bytes
    → take (channels_number c) (pixel_from (channels_number c) bytes).rgba ≡ take (channels_number c) bytes
unfolding pixel_from
first_bytes Rgb [] long = absurd (omega arith)
first_bytes Rgb (r ∷ []) long = absurd (omega arith)
first_bytes Rgb (r ∷ g ∷ []) long = absurd (omega arith)
first_bytes Rgb (r ∷ g ∷ b ∷ rest) long = refl
first_bytes Rgba [] long = absurd (omega arith)
first_bytes Rgba (r ∷ []) long = absurd (omega arith)
first_bytes Rgba (r ∷ g ∷ []) long = absurd (omega arith)
first_bytes Rgba (r ∷ g ∷ b ∷ []) long = absurd (omega arith)
first_bytes Rgba (r ∷ g ∷ b ∷ a ∷ rest) long = refl

-- the pixels' bytes are the picture
pub pixels_written :
    (c : Channels) (n : ℕ) (bytes : List ℕ) → length bytes ≡ n * channels_number c
    → written (channels_number c) (pixels_from n (channels_number c) bytes) ≡ bytes
unfolding pixels_from written
pixels_written c zero [] size = refl
pixels_written c zero (x ∷ xs) size = absurd (omega (arith, size, zero-mul (channels_number c)))
pixels_written c (suc n) bytes size =
    let whole : length bytes ≡ n * channels_number c + channels_number c = size ∙ suc-mul n (channels_number c) in
    rw (first_bytes c bytes (omega arith), pixels_written c n (drop (channels_number c) bytes) (simp length-drop (omega arith)))
    (take-append-drop (channels_number c) bytes)

-- channels are three at least
pub three_at_least : (c : Channels) → 3 ≤ channels_number c
three_at_least Rgb = omega arith
three_at_least Rgba = omega arith

-- every chunk of a picture of bytes can be written, with RGBA only where there are not three channels
pub picture_writable :
    (header : Header) (picture : List ℕ) → AllBytes picture → (b : Bool) → ((channels_number header.channels ≡ 3 → ⊥) → b ≡ true)
    → Writables b (chunks_of header picture)
unfolding chunks_of start_pen
picture_writable header picture bytes b reads =
    let n = channels_number header.channels in
    chunks_writable n (three_at_least header.channels) b reads (pixels_from (pixel_count header) n picture) start_pen (start_whole n)
    (pixels_whole (pixel_count header) n picture (every_byte picture bytes)) zero-le

writable_at : (b : Bool) (before : List Chunk) (k : Chunk) (later : List Chunk) → Writables b (before ++ (k ∷ later)) → Writable b k
writable_at b [] k later each = each.0
writable_at b (x ∷ xs) k later each = writable_at b xs k later each.1

-- so each is read back, whatever follows, where ff is read in any source as by a reader to which only four channels
-- have RGBA
pub picture_chunk_read_back :
    (header : Header) (picture : List ℕ) → AllBytes picture → (b : Bool) → ((channels_number header.channels ≡ 3 → ⊥) → b ≡ true)
    → (before : List Chunk) (k : Chunk) (later : List Chunk) → chunks_of header picture ≡ before ++ (k ∷ later)
    → (rest : List ℕ) → chunk_at b (chunk_bytes k ++ rest) ≡ chunk k
picture_chunk_read_back header picture bytes b reads before k later is rest =
    chunk_read_back b k rest (writable_at b before k later (rw is at (picture_writable header picture bytes b reads)))

-- a picture's room does not saturate
room_small : (m : ℕ) (c : Channels) → m ≤ 400000000 → 22 + m * (channels_number c + 1) ≤ 2 ^ 64 - 1
room_small m Rgb few = omega arith
room_small m Rgba few = omega arith

-- the stream of a picture of bytes fits the room that is asked for
pub stream_fits :
    (header : Header) (picture : List ℕ) → T (dimensions_fit header.width header.height) → AllBytes picture
    → length (stream_of header picture) ≤ encoded_room header.width header.height (channels_number header.channels)
unfolding stream_of chunks_of start_pen
stream_fits header picture fit bytes =
    let n = channels_number header.channels in
    let whole = pixels_whole (pixel_count header) n picture (every_byte picture bytes) in
    let chunks = chunks_size n (three_at_least header.channels) (pixels_from (pixel_count header) n picture) start_pen (start_whole n) whole in
    simp length-append
    (omega
    (arith, header_length header, room_small (pixel_count header) header.channels (pixels_small header fit), rw pixels_count at chunks))
