-- One chunk of a walk, for every number of wanted channels; the careful loop over them: what holds at its head, what a
-- chunk makes of it, and how it ends.
-- Assumes nothing.
use Rattle.std.specs.Prelude.{Option, Some, None}
use mathlib.Core.Path.{◌≡◌, refl, sym, subst, ◌∙◌, ap, ap₂}
use mathlib.Core.Bool.{true, cond}
use mathlib.Core.List.{List, []}
use Prim.Native.Nat.{ℕ, zero, suc, ◌+◌, ◌-◌, ◌*◌, ◌≤◌, ◌<◌, min}
use native.Mathlib.Nat.{add-mul, mul-le-mul_right}
use native.Mathlib.Omega.{arith}
use borrow.Author.Tests.{lt-ltb, le-ltb}
use lib.ListN.{length, get_or, take, drop, set, length-drop}
use lib.Seq.{length-take-le}
use Rattle.pixel.specs.declared.Pixel.{Pixel}
use Rattle.pixel.specs.declared.types.Channels.{Channels}
use Rattle.pixel.specs.Colour.{clear_pixel, slot_of}
use Rattle.pixel.specs.Packed.{unpacked}
use Rattle.pixel.specs.Types.{channels_number}
use Rattle.header.specs.declared.Header.{Header}
use Rattle.header.specs.Header.{pixel_count}
use Rattle.rules.specs.Chunk.{Chunk, chunk, chunk_at, colour_of, times_of, size_of, INDEX, RUN}
use Rattle.rules.specs.Bytes.{pasted, repeated}
use Rattle.rules.specs.Reading.{Place, more, move, move_by, pixels_brought, pixel_after, place_after, bytes_of}
use Rattle.rules.specs.Decode.{decoder, decoder_stores, decoder_keeps, decoder_reads_rgba}
use Rattle.rules.proofs.ChunkLaws.{Sound, sound_of, sound_found}
use Rattle.rules.proofs.PastingLaws.{whole_tail, length_pasted, repeated_length}
use Rattle.chunk.specs.declared.Colour.{Colour}
use Rattle.chunk.specs.declared.Colour.TheVariants as colour
use Rattle.chunk.specs.declared.Found.{Found}
use Rattle.chunk.specs.declared.Found.TheVariants as found
use Rattle.chunk.specs.Found.{found_of, chunk_of}
use Rattle.walk.specs.Walking.{walking, standing, stopped}
use Rattle.walk.specs.Asked.{Of, bytes_in}

-- the place that the loop's locals are
abbrev pub place_at : ℕ → ℕ → Pixel → List Pixel → Place
place_at at pixel current slots = record { at = at; pixel = pixel; current = current; slots = slots }

-- a packed pixel has four bytes
pub four_long : (q : ℕ) → length (unpacked q).rgba ≡ 4
unfolding unpacked
four_long q = refl

pub three_bytes_lem : (q : ℕ) → bytes_in 3 (unpacked q) ≡ take 3 (unpacked q).rgba
three_bytes_lem q = refl

pub four_bytes_lem : (q : ℕ) → bytes_in 4 (unpacked q) ≡ take 4 (unpacked q).rgba
four_bytes_lem q = refl

-- and of them as many are written as there are channels wanted
pub bytes_long : {channels : ℕ} → channels ≤ 4 → (q : ℕ) → length (bytes_in channels (unpacked q)) ≡ channels
bytes_long {channels} few q = length-take-le channels (unpacked q).rgba (rw (four_long q) few)

-- a chunk of colour brings one pixel whatever the slots hold, and stores it
colour_alone : (slots : List Pixel) (p : Pixel) (c : Colour) → colour_of slots p (chunk_of c) ≡ colour_of [] p (chunk_of c)
unfolding colour_of
colour_alone slots p (colour.Diff r g b) = refl
colour_alone slots p (colour.Luma g r b) = refl
colour_alone slots p (colour.Rgb r g b) = refl
colour_alone slots p (colour.Rgba r g b a) = refl
colour_alone slots p colour.Stuck = refl

colour_stores : (c : Colour) → decoder_stores (chunk_of c) ≡ true
unfolding decoder_stores
colour_stores (colour.Diff r g b) = refl
colour_stores (colour.Luma g r b) = refl
colour_stores (colour.Rgb r g b) = refl
colour_stores (colour.Rgba r g b a) = refl
colour_stores colour.Stuck = refl

colour_once : (c : Colour) → times_of (chunk_of c) ≡ 1
unfolding times_of
colour_once (colour.Diff r g b) = refl
colour_once (colour.Luma g r b) = refl
colour_once (colour.Rgb r g b) = refl
colour_once (colour.Rgba r g b a) = refl
colour_once colour.Stuck = refl

-- with no pixel missing it stands where it is
pub standing_still :
    (header : Header) (wanted : ℕ) (message : List ℕ) (from n : ℕ) (place : Place) (out : List ℕ) → pixel_count header ≤ place.pixel
    → walking header wanted message from n place out ≡ standing n place out
unfolding walking
standing_still header wanted message from zero place out none = refl
standing_still header wanted message from (suc n) place out none = rw (le-ltb place.pixel (pixel_count header) none)

-- a chunk is found at a place of a walk, and the locals are what it makes of them
pub record Step (wanted : ℕ) (message : List ℕ) (source : Channels) (missing : ℕ)
    (out : List ℕ) (slots : List Pixel) (current : Pixel) (at done : ℕ)
    (k : Chunk) (n : ℕ) (p : Pixel) (slots' : List Pixel) (out' : List ℕ) : Type 0 where
  pub few : wanted ≤ 4
  pub room : missing * wanted ≤ length out
  pub left : done < missing
  pub found : chunk_at (decoder_reads_rgba (channels_number source)) (drop at message) ≡ chunk k
  pub often : n ≡ min (times_of k) (missing - done)
  pub four : length p.rgba ≡ 4
  pub keeps : decoder_keeps wanted (colour_of slots current k) ≡ p
  pub stores : cond (decoder_stores k) (set slots (slot_of p) p) slots ≡ slots'
  pub written : out' ≡ pasted (done * wanted) (repeated n (take wanted p.rgba)) out

module _ {wanted : ℕ} {message : List ℕ} {source : Channels} {missing : ℕ}
    {out : List ℕ} {slots : List Pixel} {current : Pixel} {at done : ℕ}
    {k : Chunk} {n : ℕ} {p : Pixel} {slots' : List Pixel} {out' : List ℕ}
    (s : Step wanted message source missing out slots current at done k n p slots' out') where
  sound : Sound (drop at message) k
  sound = sound_of (rw s.found at (sound_found (decoder_reads_rgba (channels_number source)) (drop at message)))

  -- it brings some pixels, and none too many
  pub some : 1 ≤ n
  some = omega (arith, sound.once, s.left, s.often)

  pub upto : done + n ≤ missing
  upto = omega (arith, s.left, s.often)

  -- it lies within the message
  pub inside : at ≤ length message → at + size_of k ≤ length message
  inside h = omega (arith, h, simp length-drop at sound.fits)

  -- the output is as long as before
  pub same : length out' ≡ length out
  same =
      let size : length (repeated n (take wanted p.rgba)) ≡ n * wanted =
      repeated_length n (take wanted p.rgba) ∙ ap (λ (m : ℕ). n * m) (length-take-le wanted p.rgba (rw s.four s.few)) in
      ap length s.written
      ∙ length_pasted out (done * wanted) (repeated n (take wanted p.rgba))
      (omega (arith, size, s.room, mul-le-mul_right wanted upto, add-mul done n wanted))

  module _ (from : ℕ) (header : Header) (of : Of source missing from header) where
    abbrev before : Place
    before = place_at at (from + done) current slots

    pixel_left : from + done < pixel_count header
    pixel_left = omega (arith, s.left, of.counted)

    brought : pixels_brought header before k ≡ n
    unfolding pixels_brought
    brought = omega (arith, of.counted, s.often)

    moves : move decoder header wanted message before ≡ more (place_after decoder header wanted before k) (bytes_of decoder header wanted before k)
    unfolding move move_by
    moves = rw (lt-ltb (from + done) (pixel_count header) pixel_left, of.sourced, s.found)

    next : place_after decoder header wanted before k ≡ place_at (at + size_of k) (from + (done + n)) p slots'
    unfolding place_after pixel_after
    next =
        let pixels : from + done + pixels_brought header before k ≡ from + (done + n) = omega (arith, brought) in
        λ i.
        record {
          at = at + size_of k;
          pixel = pixels i;
          current = s.keeps i;
          slots = (ap (λ (q : Pixel). cond (decoder_stores k) (set slots (slot_of q) q) slots) s.keeps ∙ s.stores) i;
        }

    bytes : bytes_of decoder header wanted before k ≡ repeated n (take wanted p.rgba)
    unfolding bytes_of pixel_after
    bytes = ap₂ (λ (m : ℕ) (q : Pixel). repeated m (take wanted q.rgba)) brought s.keeps

    -- what is left to walk from the place after it is what was left before it, but for one chunk
    pub goes_on :
        (m : ℕ)
        → walking header wanted message from (suc m) before out
        ≡ walking header wanted message from m (place_at (at + size_of k) (from + (done + n)) p slots') out'
    unfolding walking
    goes_on m =
        let place : from + done - from ≡ done = omega arith in
        rw (lt-ltb (from + done) (pixel_count header) pixel_left, moves)
        (ap₂ (walking header wanted message from m) next
        (ap₂ (λ (d : ℕ) (b : List ℕ). pasted (d * wanted) b out) place bytes ∙ sym s.written))

-- at the careful loop's head: what is left to walk from here is what was to be walked from the first place; what the
-- locals keep to
pub record Head (wanted : ℕ) (message : List ℕ) (source : Channels) (missing : ℕ)
    (first : ℕ → Place) (steps : ℕ) (out₀ : List ℕ)
    (out : List ℕ) (slots : List Pixel) (current : Pixel) (at done limit bound : ℕ) : Type 0 where
  pub few : wanted ≤ 4
  pub small : missing ≤ 400000000
  pub limited : limit ≤ done + 400000001
  pub ahead : done ≤ limit
  pub bounded : bound ≡ min limit missing
  pub within : done ≤ missing
  pub inside : at ≤ length message
  pub room : missing * wanted ≤ length out
  pub same_length : length out ≡ length out₀
  pub whole :
      (from : ℕ) (header : Header) → Of source missing from header
      → walking header wanted message from steps (first from) out₀
      ≡ walking header wanted message from (limit - done) (place_at at (from + done) current slots) out

module _ {wanted : ℕ} {message : List ℕ} {source : Channels} {missing : ℕ}
    {first : ℕ → Place} {steps : ℕ} {out₀ out : List ℕ} {slots : List Pixel} {current : Pixel} {at done limit bound : ℕ}
    (h : Head wanted message source missing first steps out₀ out slots current at done limit bound) where
  abbrev here : ℕ → Place
  here from = place_at at (from + done) current slots

  -- at the head again, with other locals
  abbrev Again : List ℕ → List Pixel → Pixel → ℕ → ℕ → ℕ → ℕ → Type 0
  Again = Head wanted message source missing first steps out₀

  abbrev Holds : Option Found → Type 0
  Holds r = chunk_at (decoder_reads_rgba (channels_number source)) (drop at message) ≡ found_of r

  -- what the reader found at this place
  pub finds :
      (r r' : Option Found)
      → found_of r ≡ chunk_at (decoder_reads_rgba (channels_number source)) (take (length message - at) (drop at message)) → r ≡ r'
      → Holds r'
  finds r r' e told = rw (← whole_tail message at) (sym e ∙ ap found_of told)

  sound_here : (k : Chunk) → chunk_at (decoder_reads_rgba (channels_number source)) (drop at message) ≡ chunk k → Sound (drop at message) k
  sound_here k f = sound_of (rw f at (sound_found (decoder_reads_rgba (channels_number source)) (drop at message)))

  pub index_within : (slot : ℕ) → Holds (Some (found.Index slot)) → slot < 64
  index_within slot f = (sound_here (INDEX slot) f).slot

  pub run_some : (times n : ℕ) → Holds (Some (found.Run times)) → done < bound → n ≡ min times (missing - done) → 1 ≤ n
  unfolding times_of
  run_some times n f turn often = omega (arith, (sound_here (RUN times) f).once, often, h.bounded)

  pub colour_within : (c : Colour) → Holds (Some (found.Colour c)) → at + size_of (chunk_of c) ≤ length message
  colour_within c f = omega (arith, h.inside, simp length-drop at (sound_here (chunk_of c) f).fits)

  -- the loop ends: none is left, or no pixel is missing
  pub ends_bound :
      bound ≤ done → (from : ℕ) (header : Header) → Of source missing from header
      → walking header wanted message from steps (first from) out₀ ≡ standing (limit - done) (here from) out
  unfolding walking
  ends_bound over from header of = h.whole from header of ∙ go (limit - done) refl
    where
      go : (n : ℕ) → limit - done ≡ n → walking header wanted message from n (here from) out ≡ standing n (here from) out
      go zero e = refl
      go (suc n) e = standing_still header wanted message from (suc n) (here from) out (omega (arith, h.bounded, of.counted))

  module _ (turn : done < bound) where
    left_here : done < missing
    left_here = omega (arith, h.bounded)

    -- room for n pixels
    pub room_for : (n : ℕ) → n ≤ missing - done → done * wanted + n * wanted ≤ length out
    room_for n few = omega (arith, h.room, mul-le-mul_right wanted (upto_missing n few), add-mul done n wanted)
      where
        upto_missing : (n : ℕ) → n ≤ missing - done → done + n ≤ missing
        upto_missing n few = omega (arith, left_here)

    -- a chunk that is cut short
    pub ends_cut :
        Holds None → (from : ℕ) (header : Header) → Of source missing from header
        → walking header wanted message from steps (first from) out₀ ≡ stopped (limit - done) (here from) out
    unfolding walking move move_by
    ends_cut f from header of = h.whole from header of ∙ go (limit - done) refl
      where
        go : (n : ℕ) → limit - done ≡ n → walking header wanted message from n (here from) out ≡ stopped n (here from) out
        go zero e = absurd (omega (arith, e, h.bounded))
        go (suc n) e = rw (lt-ltb (from + done) (pixel_count header) (omega (arith, left_here, of.counted)), of.sourced, f)

    -- a chunk: the loop goes on from the place after it
    module _ (k : Chunk) (n q : ℕ) (slots' : List Pixel) (out' : List ℕ)
        (s : Step wanted message source missing out slots current at done k n (unpacked q) slots' out') where
      advance :
          (limit' : ℕ) → limit' + 1 ≡ limit + n → (bound' : ℕ) → bound' ≡ min limit' missing
          → Again out' slots' (unpacked q) (at + size_of k) (done + n) limit' bound'
      advance limit' on bound' bounds =
          let ahead_of : done < limit = omega (arith, h.bounded) in
          let count : limit - done ≡ suc (limit' - (done + n)) = omega (arith, ahead_of, some s) in
          record {
            few = h.few;
            small = h.small;
            limited = omega (arith, h.limited, some s);
            ahead = omega (arith, ahead_of);
            bounded = bounds;
            within = upto s;
            inside = inside s h.inside;
            room = rw (same s) h.room;
            same_length = same s ∙ h.same_length;
            whole = λ from header of. h.whole from header of ∙ rw count (goes_on s from header of (limit' - (done + n)));
          }

    -- what the loop wrote, as a step
    module _ (n q : ℕ) (out' : List ℕ) (written : out' ≡ pasted (done * wanted) (repeated n (take wanted (unpacked q).rgba)) out) where
      pub after_index :
          (slot : ℕ) → Holds (Some (found.Index slot)) → n ≡ 1 → unpacked q ≡ decoder_keeps wanted (get_or slots slot clear_pixel)
          → Again out' slots (unpacked q) (at + 1) (done + 1) limit bound
      unfolding colour_of times_of size_of decoder_stores
      after_index slot f once is =
          subst (λ (m : ℕ). Again out' slots (unpacked q) (at + 1) (done + m) limit bound) once
          (advance (INDEX slot) n q slots out'
          (record {
            few = h.few;
            room = h.room;
            left = left_here;
            found = f;
            often = omega (arith, left_here);
            four = four_long q;
            keeps = sym is;
            stores = refl;
            written = written;
          })
          limit (omega arith) bound h.bounded)

      pub after_run :
          (times : ℕ) → Holds (Some (found.Run times)) → n ≡ min times (missing - done) → unpacked q ≡ decoder_keeps wanted current
          → (limit' : ℕ) → limit' ≡ limit + (n - 1) → (bound' : ℕ) → bound' ≡ min limit' missing
          → Again out' slots (unpacked q) (at + 1) (done + n) limit' bound'
      unfolding colour_of times_of size_of decoder_stores
      after_run times f often is limit' on bound' bounds =
          advance (RUN times) n q slots out'
          (record {
            few = h.few;
            room = h.room;
            left = left_here;
            found = f;
            often = often;
            four = four_long q;
            keeps = sym is;
            stores = refl;
            written = written;
          })
          limit' (omega (arith, on, run_some times n f turn often)) bound' bounds

      pub after_colour :
          (c : Colour) → Holds (Some (found.Colour c)) → n ≡ 1 → unpacked q ≡ decoder_keeps wanted (colour_of [] current (chunk_of c))
          → Again out' (set slots (slot_of (unpacked q)) (unpacked q)) (unpacked q)
          (at + size_of (chunk_of c)) (done + 1) limit bound
      after_colour c f once is =
          subst
          (λ (m : ℕ). Again out' (set slots (slot_of (unpacked q)) (unpacked q)) (unpacked q)
          (at + size_of (chunk_of c)) (done + m) limit bound)
          once
          (advance (chunk_of c) n q (set slots (slot_of (unpacked q)) (unpacked q)) out'
          (record {
            few = h.few;
            room = h.room;
            left = left_here;
            found = f;
            often = rw (colour_once c) (omega (arith, left_here));
            four = four_long q;
            keeps = ap (decoder_keeps wanted) (colour_alone slots current c) ∙ sym is;
            stores = rw (colour_stores c);
            written = written;
          })
          limit (omega arith) bound h.bounded)
