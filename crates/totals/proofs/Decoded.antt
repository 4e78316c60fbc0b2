-- What a decode to four channels writes: four bytes for each pixel, and bytes where the message has bytes.
-- Assumes nothing.
use Rattle.std.specs.Prelude.{Result, Ok, Err}
use mathlib.Core.Bool.{Bool, true, false, cond}
use mathlib.Core.List.{List, [], ◌∷◌, ◌++◌}
use mathlib.Core.Path.{◌≡◌, refl}
use Prim.Native.Nat.{ℕ, zero, suc, ◌+◌, ◌-◌, ◌*◌, ◌%◌, ◌≤◌, ◌<◌}
use native.Mathlib.Decide.{ℕ_discrete, dec_lt}
use native.Mathlib.Omega.{arith}
use borrow.Author.Tests.{ltb-true, ltb-false}
use lib.Dec.{lit<, lit≤, leb, ltb}
use lib.ListN.{length, get_or, take, drop, set, replicate, length-append, get_or-eq_default, get_or-replicate, length-replicate}
use lib.Seq.{length-take-le, get_or-drop, get_or-set_same, get_or-set_other, set_out}
use Rattle.pixel.specs.declared.Pixel.{Pixel}
use Rattle.pixel.specs.declared.error.Error.TheVariants.{OutputBufferTooSmall}
use Rattle.pixel.specs.Bytes.{AllBytes}
use Rattle.pixel.specs.Colour.{pixel_of, clear_pixel, slot_of}
use Rattle.pixel.specs.Types.{channels_number}
use Rattle.header.specs.declared.Header.{Header}
use Rattle.header.specs.Header.{pixel_count, header_of}
use Rattle.rules.specs.Bytes.{repeated}
use Rattle.rules.specs.Chunk.{Chunk, Found, cut, chunk, needing, chunk_from, chunk_at, colour_of, times_of}
use Rattle.rules.specs.Reading.{Place, Answer, done, refused, Move, more, end, Reading, silent, read_on, closing, start_place, size_wanted, pixels_brought, pixel_after, place_after, bytes_of, move_by, move, reading, remaining, reading_into, after_wanted, after_header, whole_reading}
use Rattle.rules.specs.Decode.{decoder, decoder_keeps, decoder_reads_rgba, decoding}
use Rattle.totals.proofs.Sums.{either}
use Rattle.pixel.specs.declared.error.Error.{Error}

repeated_length : (n : ℕ) (l : List ℕ) → length l ≡ 4 → length (repeated n l) ≡ n * 4
unfolding repeated
repeated_length zero l four = refl
repeated_length (suc n) l four = simp length-append (omega (arith, repeated_length n l four))

-- a property of numbers that wrapped sums, 0 and 255 have
module _ (Fine : ℕ → Type 0) (wraps : (x : ℕ) → Fine (x % 256)) (nought : Fine 0) (full : Fine 255) where
  -- a list of such numbers: past its end it reads as 0
  abbrev AllFine : List ℕ → Type 0
  AllFine l = (i : ℕ) → Fine (get_or l i 0)

  fine_none : AllFine []
  fine_none i = nought

  fine_cons : (x : ℕ) (l : List ℕ) → Fine x → AllFine l → AllFine (x ∷ l)
  fine_cons x l first rest zero = first
  fine_cons x l first rest (suc i) = rest i

  fine_append : (a b : List ℕ) → AllFine a → AllFine b → AllFine (a ++ b)
  fine_append [] b left right = right
  fine_append (x ∷ a) b left right = fine_cons x (a ++ b) (left 0) (fine_append a b (λ i. left (suc i)) right)

  fine_take : (n : ℕ) (l : List ℕ) → AllFine l → AllFine (take n l)
  fine_take zero l all = fine_none
  fine_take (suc n) [] all = fine_none
  fine_take (suc n) (x ∷ l) all = fine_cons x (take n l) (all 0) (fine_take n l (λ i. all (suc i)))

  fine_repeated : (n : ℕ) (l : List ℕ) → AllFine l → AllFine (repeated n l)
  unfolding repeated
  fine_repeated zero l all = fine_none
  fine_repeated (suc n) l all = fine_append l (repeated n l) all (fine_repeated n l all)

  -- a pixel of four such numbers
  record FinePixel (p : Pixel) : Type 0 where
    four : length p.rgba ≡ 4
    fine : AllFine p.rgba

  fine_pixel : (r g b a : ℕ) → Fine r → Fine g → Fine b → Fine a → FinePixel (pixel_of r g b a)
  fine_pixel r g b a one two three last =
      record {
        four = refl;
        fine =
            fine_cons r (g ∷ b ∷ a ∷ []) one
            (fine_cons g (b ∷ a ∷ []) two (fine_cons b (a ∷ []) three (fine_cons a [] last fine_none)));
      }

  abbrev FineSlots : List Pixel → Type 0
  FineSlots slots = (i : ℕ) → FinePixel (get_or slots i clear_pixel)

  -- a chunk that brings such a pixel, at least once
  record FineChunk (k : Chunk) : Type 0 where
    once : 1 ≤ times_of k
    brings : (slots : List Pixel) (p : Pixel) → FineSlots slots → FinePixel p → FinePixel (colour_of slots p k)

  data FineFound : Found → Type 0 where
    none_found : FineFound cut
    found : {k : Chunk} → FineChunk k → FineFound (chunk k)

  fine_needing : (n : ℕ) (rest : List ℕ) (k : Chunk) → FineChunk k → FineFound (needing n rest k)
  fine_needing n rest k c = either FineFound (leb n (length rest)) (chunk k) cut (found c) none_found

  -- what a first byte and the bytes after it say
  fine_from : (reads_rgba : Bool) (byte : ℕ) (rest : List ℕ) → AllFine rest → FineFound (chunk_from reads_rgba byte rest)
  unfolding chunk_from times_of colour_of
  fine_from reads_rgba byte rest all =
      either FineFound (ltb byte 0x40) _ _ (found (record { once = lit≤ tt; brings = λ slots p held now. held byte }))
      (either FineFound (ltb byte 0x80) _ _ (found (record { once = lit≤ tt; brings = λ slots p held now. shifts p now _ _ _ }))
      (either FineFound (ltb byte 0xc0) _ _
      (fine_needing 1 rest _ (record { once = lit≤ tt; brings = λ slots p held now. shifts p now _ _ _ }))
      (either FineFound (ltb byte 0xfe) _ _ (found (record { once = omega arith; brings = λ slots p held now. now }))
      (either FineFound (ltb byte 0xff) _ _
      (fine_needing 3 rest _
      (record { once = lit≤ tt; brings = λ slots p held now. fine_pixel _ _ _ _ (all 0) (all 1) (all 2) (now.fine 3) }))
      (either FineFound reads_rgba _ _
      (fine_needing 4 rest _
      (record { once = lit≤ tt; brings = λ slots p held now. fine_pixel _ _ _ _ (all 0) (all 1) (all 2) (all 3) }))
      (fine_needing 7 rest _ (record { once = lit≤ tt; brings = λ slots p held now. now })))))))
    where
      shifts : (p : Pixel) → FinePixel p → (r g b : ℕ) → FinePixel (pixel_of (r % 256) (g % 256) (b % 256) (get_or p.rgba 3 0))
      shifts p now r g b = fine_pixel _ _ _ _ (wraps r) (wraps g) (wraps b) (now.fine 3)

  fine_at : (reads_rgba : Bool) (l : List ℕ) → AllFine l → FineFound (chunk_at reads_rgba l)
  unfolding chunk_at
  fine_at reads_rgba [] all = none_found
  fine_at reads_rgba (byte ∷ rest) all = fine_from reads_rgba byte rest (λ i. all (suc i))

  -- slots after a pixel is stored
  fine_set : (slots : List Pixel) (at : ℕ) (p : Pixel) → FineSlots slots → FinePixel p → FineSlots (set slots at p)
  fine_set slots at p held now k = go (ℕ_discrete k at) (dec_lt at (length slots))
    where
      go : Dec (k ≡ at) → Dec (at < length slots) → FinePixel (get_or (set slots at p) k clear_pixel)
      go (yes e) (yes there) = rw (e, get_or-set_same slots at p clear_pixel there) now
      go (yes e) (no beyond) = rw (set_out slots at p (omega (arith, beyond))) (held k)
      go (no apart) there = rw (get_or-set_other slots at k p clear_pixel apart) (held k)

  record FinePlace (place : Place) : Type 0 where
    current : FinePixel place.current
    slots : FineSlots place.slots

  fine_start : FinePlace start_place
  unfolding start_place
  fine_start =
      record { current = fine_pixel 0 0 0 255 nought nought nought full; slots = λ k. go k (dec_lt k 64) }
    where
      clear : FinePixel clear_pixel
      clear = fine_pixel 0 0 0 0 nought nought nought nought

      go : (k : ℕ) → Dec (k < 64) → FinePixel (get_or (replicate 64 clear_pixel) k clear_pixel)
      go k (yes below) = rw (get_or-replicate 64 k clear_pixel clear_pixel below) clear
      go k (no above) =
          rw (get_or-eq_default (replicate 64 clear_pixel) clear_pixel {n = k} (omega (arith, above, length-replicate 64 clear_pixel))) clear

  module _ (header : Header) where
    -- a move from a place: on by some pixels, with four bytes for each; cut off; or with no pixel left
    data FineMove (place : Place) : Move → Type 0 where
      moved :
          {next : Place} {bytes : List ℕ} (brought : ℕ) → FinePlace next → AllFine bytes → 1 ≤ brought
          → next.pixel ≡ place.pixel + brought → next.pixel ≤ pixel_count header → length bytes ≡ brought * 4
          → FineMove place (more next bytes)
      cut_off : {e : _} → FineMove place (end (refused e))
      ended : {answer : Answer} → pixel_count header ≤ place.pixel → FineMove place (end answer)

    fine_by :
        (place : Place) (f : Found) → place.pixel < pixel_count header → FinePlace place → FineFound f
        → FineMove place (move_by decoder header 4 place f)
    unfolding move_by place_after bytes_of pixel_after pixels_brought decoder_keeps
    fine_by place f below here none_found = cut_off
    fine_by place f below here (found {k} c) =
        let p = colour_of place.slots place.current k in
        let new : FinePixel p = c.brings place.slots place.current here.slots here.current in
        let n = pixels_brought header place k in
        moved n
        (record {
          current = new;
          slots =
              either FineSlots (decoder.stores k) (set place.slots (slot_of p) p) place.slots
              (fine_set place.slots (slot_of p) p here.slots new) here.slots;
        })
        (fine_repeated n (take 4 p.rgba) (fine_take 4 p.rgba new.fine)) (omega (arith, c.once)) refl (omega arith)
        (repeated_length n (take 4 p.rgba) (length-take-le 4 p.rgba (omega (arith, new.four))))

    module _ (m : List ℕ) (all : AllFine m) where
      fine_move : (place : Place) → FinePlace place → FineMove place (move decoder header 4 m place)
      unfolding move
      fine_move place here = go (ltb place.pixel (pixel_count header)) refl
        where
          go :
              (b : Bool) → ltb place.pixel (pixel_count header) ≡ b
              → FineMove place
              (cond b (move_by decoder header 4 place (chunk_at (decoder_reads_rgba (channels_number header.channels)) (drop place.at m)))
              (end (closing (size_wanted header 4) m place.at)))
          go true is =
              fine_by place _ (ltb-true _ _ is) here
              (fine_at _ (drop place.at m) (λ i. rw (get_or-drop place.at m i 0) (all (place.at + i))))
          go false is = ended (ltb-false _ _ is)

      -- a reading from a place: its bytes, and how many they are where it is accepted
      record FineReading (place : Place) (r : Reading) : Type 0 where
        fine : AllFine r.bytes
        whole : (size used : ℕ) → r.answer ≡ done size used → length r.bytes ≡ (pixel_count header - place.pixel) * 4

      fine_reading :
          (left : ℕ) (place : Place) → FinePlace place → pixel_count header ≤ left + place.pixel
          → FineReading place (reading decoder header 4 m left place)
      unfolding reading
      fine_reading zero place here enough =
          record { fine = fine_none; whole = λ size used accepted. omega arith }
      fine_reading (suc left) place here enough =
          go (fine_reading left) (move decoder header 4 m place) (fine_move place here)
        where
          go :
              ((next : Place) → FinePlace next → pixel_count header ≤ left + next.pixel
              → FineReading next (reading decoder header 4 m left next))
              → (v : Move) → FineMove place v → FineReading place (read_on (reading decoder header 4 m left) v)
          go later v (moved {next} {bytes} brought there fine some at within size) =
              let rest = later next there (omega arith) in
              record {
                fine = fine_append bytes _ fine rest.fine;
                whole =
                    λ size' used accepted. simp length-append (omega (arith, size, rest.whole size' used accepted));
              }
          go later v (cut_off {e}) =
              record {
                fine = fine_none;
                whole = λ size used accepted. absurd (let z : ◌≡◌ {A = ℕ} 0 1 = cc in omega arith);
              }
          go later v (ended past) = record { fine = fine_none; whole = λ size used accepted. omega arith }

  -- a decode: its bytes, and where it is accepted, the header, and that a whole picture was written and had room
  record FineDecode (m : List ℕ) (room : ℕ) (h : Result Header Error) (r : Reading) : Type 0 where
    fine : AllFine r.bytes
    whole :
        (size used : ℕ) → r.answer ≡ done size used
        → (header : Header) × (h ≡ Ok header)
        × (length r.bytes ≡ pixel_count header * 4) × (pixel_count header * 4 ≤ room)

  fine_decode : (m : List ℕ) (room : ℕ) → AllFine m → FineDecode m room (header_of m) (decoding m 4 room)
  unfolding start_place reading_into after_wanted after_header whole_reading
  fine_decode m room all = opened (header_of m)
    where
      into :
          (header : Header) (b : Bool) → ltb room (size_wanted header 4) ≡ b
          → FineDecode m room (Ok header)
          (cond b (silent (refused (OutputBufferTooSmall room (size_wanted header 4)))) (remaining decoder header 4 m start_place))
      into header true is =
          record {
            fine = fine_none;
            whole = λ size used accepted. absurd (let z : ◌≡◌ {A = ℕ} 0 1 = cc in omega arith);
          }
      into header false is =
          let r = fine_reading header m all (pixel_count header - start_place.pixel) start_place fine_start (omega arith) in
          record {
            fine = r.fine;
            whole = λ size used accepted. (header, refl, omega (arith, r.whole size used accepted), ltb-false _ _ is);
          }

      opened : (h : Result Header Error) → FineDecode m room h (after_header decoder m room 4 h)
      opened (Err e) =
          record {
            fine = fine_none;
            whole = λ size used accepted. absurd (let z : ◌≡◌ {A = ℕ} 0 1 = cc in omega arith);
          }
      opened (Ok header) = into header (ltb room (size_wanted header 4)) refl

-- a message of bytes decodes to bytes
pub decoded_bytes : (m : List ℕ) (room : ℕ) → AllBytes m → AllBytes (decoding m 4 room).bytes
decoded_bytes m room all i below =
    (fine_decode (λ x. x < 256) (λ x. omega arith) (lit< tt) (lit< tt) m room (λ j. go j (dec_lt j (length m)))).fine i
  where
    go : (j : ℕ) → Dec (j < length m) → get_or m j 0 < 256
    go j (yes there) = all j there
    go j (no beyond) = rw (get_or-eq_default m 0 {n = j} (omega (arith, beyond))) (lit< tt)

-- a decode that is accepted has a header, and writes a whole picture, for which there is room
pub decoded_whole :
    (m : List ℕ) (room size used : ℕ) → (decoding m 4 room).answer ≡ done size used
    → (header : Header) × (header_of m ≡ Ok header)
    × (length (decoding m 4 room).bytes ≡ pixel_count header * 4) × (pixel_count header * 4 ≤ room)
decoded_whole m room = (fine_decode (λ x. Unit {0}) (λ x. tt) tt tt m room (λ i. tt)).whole
