-- Laws of a reading, over every way: each move brings a pixel, so the end comes within the pixels plus one moves, and
-- no more is written than the picture.
-- Assumes nothing.
use mathlib.Core.Path.{◌≡◌, refl, ap, ◌∙◌}
use mathlib.Core.Bool.{Bool, true, false, cond}
use mathlib.Core.List.{List, ◌++◌, append_assoc}
use Prim.Native.Nat.{ℕ, zero, suc, ◌+◌, ◌-◌, ◌*◌, ◌≤◌, ◌<◌, zero-le}
use native.Mathlib.Nat.{add-mul, mul-le-mul_left}
use native.Mathlib.Omega.{arith}
use borrow.Author.Tests.{ltb-true, le-ltb}
use lib.Dec.{ltb}
use lib.ListN.{length, take, drop, length-append, length-take}
use Rattle.header.specs.declared.Header.{Header}
use Rattle.header.specs.Header.{pixel_count}
use Rattle.pixel.specs.Types.{channels_number}
use Rattle.rules.specs.Chunk.{Chunk, Found, chunk_at, times_of}
use Rattle.rules.proofs.ChunkLaws.{Sound, SoundFound, nothing, something, sound_found}
use Rattle.rules.proofs.PastingLaws.{repeated_length}
use Rattle.rules.specs.Bytes.{repeated}
use Rattle.rules.specs.Reading.{Way, Place, Answer, Move, Reading, more, end, after, remaining, read_on, closing, size_wanted, pixels_brought, pixel_after, place_after, bytes_of, move_by, move, reading}

-- bytes written n times over are at most n times their bound
repeated_size : (n : ℕ) (bytes : List ℕ) {bound : ℕ} → length bytes ≤ bound → length (repeated n bytes) ≤ n * bound
repeated_size n bytes fits = rw (repeated_length n bytes) (mul-le-mul_left n fits)

-- bytes written before bytes written before
pub after_after : (a b : List ℕ) (r : Reading) → after (a ++ b) r ≡ after a (after b r)
after_after a b r = λ i. record { answer = r.answer; bytes = append_assoc a b r.bytes i }

module _ (way : Way) (header : Header) (wanted : ℕ) where
  -- a chunk that brings a pixel moves the pixel position on
  pub advances :
      (place : Place) (k : Chunk) → 1 ≤ times_of k → place.pixel < pixel_count header
      → place.pixel < (place_after way header wanted place k).pixel
  unfolding place_after pixels_brought
  advances place k once missing = omega arith

  -- the pixel position never passes the picture
  pub stays_within :
      (place : Place) (k : Chunk) → place.pixel ≤ pixel_count header
      → (place_after way header wanted place k).pixel ≤ pixel_count header
  unfolding place_after pixels_brought
  stays_within place k within = omega arith

  -- a chunk writes at most its pixels
  chunk_size :
      (place : Place) (k : Chunk)
      → length (bytes_of way header wanted place k) ≤ pixels_brought header place k * wanted
  unfolding bytes_of
  chunk_size place k =
      repeated_size (pixels_brought header place k) (take wanted (pixel_after way wanted place k).rgba)
      (simp length-take (omega arith))

  -- the pixels missing before a chunk are those that it brings and those missing after it
  missing_split :
      (place : Place) (k : Chunk) → place.pixel ≤ pixel_count header
      → pixel_count header - place.pixel
      ≡ pixels_brought header place k + (pixel_count header - (place_after way header wanted place k).pixel)
  unfolding place_after pixels_brought
  missing_split place k within = omega arith

module _ (way : Way) (header : Header) (wanted : ℕ) (message : List ℕ) where
  -- the two kinds of move: by a chunk of the message from here on where a pixel is missing, and the end
  pub data Moved (place : Place) : Move → Type 0 where
    by_chunk :
        (k : Chunk) → Sound (drop place.at message) k → place.pixel < pixel_count header
        → Moved place (more (place_after way header wanted place k) (bytes_of way header wanted place k))
    at_end : (answer : Answer) → Moved place (end answer)

  -- what is found at a place where a pixel is missing makes a move of one kind or the other
  moved_by :
      (place : Place) → place.pixel < pixel_count header → (f : Found) → SoundFound (drop place.at message) f
      → Moved place (move_by way header wanted place f)
  unfolding move_by
  moved_by place missing f nothing = at_end _
  moved_by place missing f (something k sound) = by_chunk k sound missing

  -- each move brings a pixel or is the end
  pub moved : (place : Place) → Moved place (move way header wanted message place)
  unfolding move
  moved place = go (ltb place.pixel (pixel_count header)) refl
    where
      found : Found
      found = chunk_at (way.reads_rgba (channels_number header.channels)) (drop place.at message)

      go :
          (b : Bool) → ltb place.pixel (pixel_count header) ≡ b
          → Moved place (cond b (move_by way header wanted place found) (end (closing (size_wanted header wanted) message place.at)))
      go true e = moved_by place (ltb-true _ _ e) found (sound_found _ _)
      go false e = at_end _

  -- with no pixel missing a move is the marker test
  pub moved_last :
      (place : Place) → pixel_count header ≤ place.pixel
      → move way header wanted message place ≡ end (closing (size_wanted header wanted) message place.at)
  unfolding move
  moved_last place none = rw (le-ltb place.pixel (pixel_count header) none)

  -- a reading is the same with any fuel that is enough
  reading_enough :
      (n m : ℕ) (place : Place) → pixel_count header ≤ place.pixel + n → pixel_count header ≤ place.pixel + m
      → reading way header wanted message n place ≡ reading way header wanted message m place
  unfolding reading
  reading_enough zero zero place few enough = refl
  reading_enough zero (suc m) place few enough = rw (moved_last place (omega arith))
  reading_enough (suc n) zero place few enough = rw (moved_last place (omega arith))
  reading_enough (suc n) (suc m) place few enough = go (reading_enough n m) (move way header wanted message place) (moved place)
    where
      go :
          ((next : Place) → pixel_count header ≤ next.pixel + n → pixel_count header ≤ next.pixel + m
          → reading way header wanted message n next ≡ reading way header wanted message m next)
          → (v : Move) → Moved place v
          → read_on (reading way header wanted message n) v ≡ read_on (reading way header wanted message m) v
      go ih v (at_end answer) = refl
      go ih v (by_chunk k sound missing) =
          ap (after (bytes_of way header wanted place k))
          (ih (place_after way header wanted place k) (omega (arith, advances way header wanted place k sound.once missing)) (omega (arith, advances way header wanted place k sound.once missing)))

  -- the reading from a place is a move and then the reading from where it leads
  pub remaining_unfolds :
      (place : Place)
      → remaining way header wanted message place
      ≡ read_on (remaining way header wanted message) (move way header wanted message place)
  unfolding reading
  remaining_unfolds place =
      reading_enough (pixel_count header - place.pixel) (suc (pixel_count header - place.pixel)) place (omega arith) (omega arith)
      ∙ step (move way header wanted message place) (moved place)
    where
      step :
          (v : Move) → Moved place v
          → read_on (reading way header wanted message (pixel_count header - place.pixel)) v ≡ read_on (remaining way header wanted message) v
      step v (at_end answer) = refl
      step v (by_chunk k sound missing) =
          ap (after (bytes_of way header wanted place k))
          (reading_enough (pixel_count header - place.pixel) (pixel_count header - (place_after way header wanted place k).pixel) (place_after way header wanted place k) (omega (arith, advances way header wanted place k sound.once missing)) (omega arith))

  -- a reading never writes more bytes than the pixels missing times wanted
  pub reading_size :
      (n : ℕ) (place : Place)
      → length (reading way header wanted message n place).bytes ≤ (pixel_count header - place.pixel) * wanted
  unfolding reading
  reading_size zero place = zero-le
  reading_size (suc n) place = go (reading_size n) (move way header wanted message place) (moved place)
    where
      go :
          ((next : Place) → length (reading way header wanted message n next).bytes ≤ (pixel_count header - next.pixel) * wanted)
          → (m : Move) → Moved place m
          → length (read_on (reading way header wanted message n) m).bytes ≤ (pixel_count header - place.pixel) * wanted
      go ih m (at_end answer) = zero-le
      go ih m (by_chunk k sound missing) =
          simp length-append
          (rw (missing_split way header wanted place k (omega arith), add-mul)
          (omega (arith, chunk_size way header wanted place k, ih (place_after way header wanted place k))))
