-- Laws of a message whose header is known: its reading, and the chunks that are read of it.
-- Assumes nothing.
use Rattle.std.specs.Prelude.{Ok}
use mathlib.Core.Path.{◌≡◌, refl, ap}
use mathlib.Core.Bool.{Bool, true, false, cond}
use mathlib.Core.List.{List, [], ◌∷◌, ◌++◌}
use Prim.Native.Nat.{ℕ, zero, suc, ◌≤◌}
use native.Mathlib.Omega.{arith}
use borrow.Author.Tests.{le-ltb}
use lib.Dec.{ltb}
use lib.ListN.{drop}
use Rattle.pixel.specs.declared.error.Error.{Error}
use Rattle.pixel.specs.declared.types.Channels.{Channels}
use Rattle.pixel.specs.Types.{channels_number}
use Rattle.header.specs.declared.Header.{Header}
use Rattle.header.specs.Header.{pixel_count, header_of}
use Rattle.header.proofs.Laws.{channels_read_back}
use Rattle.rules.specs.Chunk.{Found, cut, chunk, chunk_at}
use Rattle.rules.specs.Reading.{Way, Place, done, refused, end, read_on, closing, start_place, size_wanted, place_after, bytes_of, move_by, move, reading, remaining, reading_into, after_wanted, after_header, whole_reading}
use Rattle.rules.specs.Decode.{decoder, decoder_reads_rgba, decoding}
use Rattle.rules.specs.Trace.{Visit, own_channels, visits_on, chunk_due, visits, header_trace, trace}

-- a refusal is no acceptance
pub refused_is_not_done : {e : Error} {size used : ℕ} → refused e ≡ done size used → ⊥
refused_is_not_done p = let z : ◌≡◌ {A = ℕ} 0 1 = cc in omega arith

-- the reading of a message whose header is known
pub whole_is :
    (way : Way) (m : List ℕ) (header : Header) (c : Channels) (room : ℕ) → header_of m ≡ Ok header
    → whole_reading way m (channels_number c) room ≡ reading_into way header (channels_number c) m room
unfolding whole_reading after_header after_wanted
whole_is way m header c room reads = rw (reads, channels_read_back c)

-- the chunks of a message whose header is known
pub trace_is : (m : List ℕ) (header : Header) → header_of m ≡ Ok header → trace m ≡ visits header m (pixel_count header) start_place
unfolding trace header_trace
trace_is m header reads = rw reads

-- the reading of a whole message has as much fuel as there are pixels
pub remaining_is :
    (way : Way) (m : List ℕ) (header : Header) (wanted : ℕ)
    → remaining way header wanted m start_place ≡ reading way header wanted m (pixel_count header) start_place
unfolding start_place
remaining_is way m header wanted = ap (λ (n : ℕ). reading way header wanted m n start_place) (omega arith)

-- the bytes that the decoder writes by these chunks, at the header's own channels
unfoldable pub bytes_in : List Visit → List ℕ
bytes_in [] = []
bytes_in (v ∷ rest) = bytes_of decoder v.header (own_channels v.header) v.place v.found ++ bytes_in rest

-- a reading writes the bytes of the chunks that it reads
reading_traced :
    (header : Header) (m : List ℕ) (n : ℕ) (place : Place)
    → (reading decoder header (own_channels header) m n place).bytes ≡ bytes_in (visits header m n place)
unfolding reading move move_by visits visits_on chunk_due bytes_in
reading_traced header m zero place = refl
reading_traced header m (suc n) place = test (reading_traced header m n) (ltb place.pixel (pixel_count header))
  where
    found : Found
    found = chunk_at (decoder_reads_rgba (own_channels header)) (drop place.at m)

    by_found :
        ((next : Place) → (reading decoder header (own_channels header) m n next).bytes ≡ bytes_in (visits header m n next))
        → (f : Found)
        → (read_on (reading decoder header (own_channels header) m n) (move_by decoder header (own_channels header) place f)).bytes
        ≡ bytes_in (visits_on header (visits header m n) place f)
    by_found ih cut = refl
    by_found ih (chunk k) =
        ap (λ (l : List ℕ). bytes_of decoder header (own_channels header) place k ++ l) (ih (place_after decoder header (own_channels header) place k))

    test :
        ((next : Place) → (reading decoder header (own_channels header) m n next).bytes ≡ bytes_in (visits header m n next))
        → (b : Bool)
        → (read_on (reading decoder header (own_channels header) m n)
        (cond b (move_by decoder header (own_channels header) place found) (end (closing (size_wanted header (own_channels header)) m place.at)))).bytes
        ≡ bytes_in (visits_on header (visits header m n) place (cond b found cut))
    test ih true = by_found ih found
    test ih false = refl

-- the trace is what a decode reads: where there is room the decode writes the bytes of its chunks, and nothing else
pub decode_traced :
    (m : List ℕ) (header : Header) (room : ℕ) → header_of m ≡ Ok header → size_wanted header (own_channels header) ≤ room
    → (decoding m (own_channels header) room).bytes ≡ bytes_in (trace m)
unfolding reading_into
decode_traced m header room reads fits =
    rw (whole_is decoder m header header.channels room reads, le-ltb room (size_wanted header (own_channels header)) fits, remaining_is decoder m header (own_channels header), trace_is m header reads)
    (reading_traced header m (pixel_count header) start_place)
