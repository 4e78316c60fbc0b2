-- Laws of the encoder's chunks: each is read back from its bytes, whatever follows; a chosen one brings its pixel;
-- and how many bytes there are.
-- Assumes nothing.
use mathlib.Core.Path.{◌≡◌, refl, sym, ◌∙◌, ap}
use mathlib.Core.Bool.{Bool, true, false, cond, ◌&&◌, ◌||◌}
use mathlib.Core.List.{List, [], ◌∷◌, ◌++◌, append_assoc}
use Prim.Native.Nat.{ℕ, suc, ◌+◌, ◌-◌, ◌*◌, ◌/◌, ◌%◌, ◌≤◌, ◌<◌}
use native.Mathlib.Omega.{arith}
use borrow.Author.Tests.{ltb-false, leb-true, eqb-true, eqb-false}
use lib.Dec.{ltb, eqb}
use lib.IntN.{pos, negsuc}
use lib.ListN.{length, get_or}
use Rattle.pixel.specs.declared.Pixel.{Pixel}
use Rattle.pixel.specs.Colour.{pixel_of, red, green, blue, alpha, start_pixel, same_pixel, wrapped_sum, wrapped_difference, signed_of, within}
use Rattle.rules.specs.Chunk.{Chunk, chunk, chunk_at, shifted, colour_of, times_of, size_of, INDEX, DIFF, LUMA, RUN, RGB, RGBA, Stuck}
use Rattle.rules.specs.Decode.{decoder_stores}
use Rattle.rules.specs.Encode.{fits_diff, fits_luma, diff_chunk, luma_chunk, colour_chunk, chunk_bytes, chunks_bytes}
use Rattle.rules.proofs.ChunkLaws.{index_row, diff_row, luma_row, run_row, rgb_row, rgba_row}

-- a chunk that can be written: its fields fit their bits, and RGBA only where ff is read
abbrev pub Writable : Bool → Chunk → Type 0
Writable reads_rgba (INDEX slot) = slot < 64
Writable reads_rgba (DIFF r g b) = (r < 4) × (g < 4) × (b < 4)
Writable reads_rgba (LUMA g r b) = (g < 64) × (r < 16) × (b < 16)
Writable reads_rgba (RUN times) = (1 ≤ times) × (times ≤ 62)
Writable reads_rgba (RGB r g b) = Unit {0}
Writable reads_rgba (RGBA r g b a) = reads_rgba ≡ true
Writable reads_rgba Stuck = ⊥

-- the three differences of a DIFF byte
diff_fields :
    (r g b : ℕ) → r < 4 → g < 4 → b < 4
    → ((0x40 + r * 16 + g * 4 + b) / 16 % 4 ≡ r) × ((0x40 + r * 16 + g * 4 + b) / 4 % 4 ≡ g) × ((0x40 + r * 16 + g * 4 + b) % 4 ≡ b)
diff_fields r g b hr hg hb = (omega arith, omega arith, omega arith)

-- the fields of the two LUMA bytes
luma_fields :
    (g r b : ℕ) → g < 64 → r < 16 → b < 16
    → ((0x80 + g) % 64 ≡ g) × ((r * 16 + b) / 16 ≡ r) × ((r * 16 + b) % 16 ≡ b)
luma_fields g r b hg hr hb = (omega arith, omega arith, omega arith)

-- the length of a RUN byte
run_field : (n : ℕ) → 1 ≤ n → n ≤ 62 → (0xc0 + (n - 1)) % 64 + 1 ≡ n
run_field n low high = omega arith

-- a chunk is read back from its bytes, whatever follows
pub chunk_read_back :
    (reads_rgba : Bool) (k : Chunk) (rest : List ℕ) → Writable reads_rgba k
    → chunk_at reads_rgba (chunk_bytes k ++ rest) ≡ chunk k
unfolding chunk_bytes
chunk_read_back reads_rgba (INDEX slot) rest fits = index_row reads_rgba (slot ∷ rest) (omega arith) fits
chunk_read_back reads_rgba (DIFF r g b) rest fits =
    let fields = diff_fields r g b fits.0 fits.1 fits.2 in
    diff_row reads_rgba ((0x40 + r * 16 + g * 4 + b) ∷ rest) (omega arith) (omega arith) (omega arith)
    ∙ rw (fields.0, fields.1, fields.2)
chunk_read_back reads_rgba (LUMA g r b) rest fits =
    let fields = luma_fields g r b fits.0 fits.1 fits.2 in
    luma_row reads_rgba ((0x80 + g) ∷ (r * 16 + b) ∷ rest) (omega arith) (omega arith) (omega arith)
    ∙ rw (fields.0, fields.1, fields.2)
chunk_read_back reads_rgba (RUN times) rest fits =
    run_row reads_rgba ((0xc0 + (times - 1)) ∷ rest) (omega arith) (omega arith) (omega arith)
    ∙ rw (run_field times fits.0 fits.1)
chunk_read_back reads_rgba (RGB r g b) rest fits = rgb_row reads_rgba (0xfe ∷ r ∷ g ∷ b ∷ rest) (omega arith) refl
chunk_read_back reads_rgba (RGBA r g b a) rest fits =
    rw fits (rgba_row (0xff ∷ r ∷ g ∷ b ∷ a ∷ rest) (omega arith) (omega arith))
chunk_read_back reads_rgba Stuck rest fits = absurd fits

-- it takes as many bytes as it is written with
pub chunk_length : (k : Chunk) → length (chunk_bytes k) ≡ size_of k
unfolding chunk_bytes size_of
chunk_length (INDEX slot) = refl
chunk_length (DIFF r g b) = refl
chunk_length (LUMA g r b) = refl
chunk_length (RUN times) = refl
chunk_length (RGB r g b) = refl
chunk_length (RGBA r g b a) = refl
chunk_length Stuck = refl

-- chunks after chunks
pub chunks_append : (ks ls : List Chunk) → chunks_bytes (ks ++ ls) ≡ chunks_bytes ks ++ chunks_bytes ls
unfolding chunks_bytes
chunks_append [] ls = refl
chunks_append (k ∷ ks) ls = rw (chunks_append ks ls, append_assoc)

-- both of two tests pass
pub and_split : (a b : Bool) → a && b ≡ true → (a ≡ true) × (b ≡ true)
and_split true b e = (refl, e)
and_split false b e = (e, cc)

-- neither of two tests passes
pub or_split : (a b : Bool) → a || b ≡ false → (a ≡ false) × (b ≡ false)
or_split true b e = (e, cc)
or_split false b e = (refl, e)

-- four numbers are those at the four places
four_are : (l : List ℕ) → length l ≡ 4 → l ≡ get_or l 0 0 ∷ get_or l 1 0 ∷ get_or l 2 0 ∷ get_or l 3 0 ∷ []
four_are [] e = absurd (omega (arith, e))
four_are (a ∷ []) e = absurd (omega (arith, e))
four_are (a ∷ b ∷ []) e = absurd (omega (arith, e))
four_are (a ∷ b ∷ c ∷ []) e = absurd (omega (arith, e))
four_are (a ∷ b ∷ c ∷ d ∷ []) e = refl
four_are (a ∷ b ∷ c ∷ d ∷ x ∷ xs) e = absurd (omega (arith, e))

-- a pixel of four bytes is its red, green, blue and alpha
pub pixel_is : (p : Pixel) → length p.rgba ≡ 4 → p ≡ pixel_of (red p) (green p) (blue p) (alpha p)
pixel_is p four = ap {B = Pixel} (λ l. record { rgba = l }) (four_are p.rgba four)

-- pixels with the same parts
parts_same :
    {r g b a r' g' b' a' : ℕ} → r ≡ r' → g ≡ g' → b ≡ b' → a ≡ a' → pixel_of r g b a ≡ pixel_of r' g' b' a'
parts_same er eg eb ea = cc

-- two pixels that the test finds the same are
pub same_is : (p q : Pixel) → length p.rgba ≡ 4 → length q.rgba ≡ 4 → same_pixel p q ≡ true → p ≡ q
same_is p q four four' e =
    let first = and_split (eqb (red p) (red q)) _ e in
    let second = and_split (eqb (green p) (green q)) _ first.1 in
    let third = and_split (eqb (blue p) (blue q)) _ second.1 in
    pixel_is p four
    ∙ parts_same (eqb-true _ _ first.0) (eqb-true _ _ second.0) (eqb-true _ _ third.0) (eqb-true _ _ third.1)
    ∙ sym (pixel_is q four')

-- a pixel of a picture with n channels: four numbers, its colours bytes, and with three channels opaque
pub record Whole (n : ℕ) (p : Pixel) : Type 0 where
  pub four : length p.rgba ≡ 4
  pub red_byte : red p < 256
  pub green_byte : green p < 256
  pub blue_byte : blue p < 256
  pub opaque : n ≡ 3 → alpha p ≡ 255

-- each of some pixels is whole
abbrev pub Wholes : ℕ → List Pixel → Type 0
Wholes n [] = Unit {0}
Wholes n (p ∷ ps) = Whole n p × Wholes n ps

-- the start pixel is whole
pub start_whole : (n : ℕ) → Whole n start_pixel
start_whole n =
    record { four = refl; red_byte = omega arith; green_byte = omega arith; blue_byte = omega arith; opaque = λ three. refl }

-- a difference added again
sum_back : (a x : ℕ) → a < 256 → x < 256 → wrapped_sum a (wrapped_difference x a) ≡ x
sum_back a x ha hx = omega arith

-- what was added taken off again
shift_back : (x by : ℕ) → x < 256 → by ≤ 256 → wrapped_difference (wrapped_sum x by) by ≡ x
shift_back x by hx hb = omega arith

-- a difference is a byte
difference_small : (x a : ℕ) → wrapped_difference x a < 256
difference_small x a = omega arith

-- a difference in a range fits the range's bits once its lower end is taken off
pub within_fits :
    (below above x : ℕ) → x < 256 → above < 128 → below ≤ 128 → within below above (signed_of x) ≡ true
    → wrapped_sum x below < below + above + 1
within_fits below above x small ha hb e = go (ltb x 128) refl e
  where
    go :
        (b : Bool) → ltb x 128 ≡ b → within below above (cond b (pos x) (negsuc (255 - x))) ≡ true
        → wrapped_sum x below < below + above + 1
    go true l e = let h = leb-true x above e in omega arith
    go false l e =
        let h = leb-true (suc (255 - x)) below e in
        let k = ltb-false x 128 l in
        omega arith

-- a chunk that brings a pixel after another: it can be written, stores, brings the pixel once, and is no longer than
-- a pixel and one byte
pub record Chosen (n : ℕ) (previous p : Pixel) (k : Chunk) : Type 0 where
  pub writable : (reads_rgba : Bool) → ((n ≡ 3 → ⊥) → reads_rgba ≡ true) → Writable reads_rgba k
  pub brings : (slots : List Pixel) → colour_of slots previous k ≡ p
  pub stores : decoder_stores k ≡ true
  pub once : times_of k ≡ 1
  pub size : size_of k ≤ n + 1

module _ (n : ℕ) (previous p : Pixel) (some : 3 ≤ n) (before : Whole n previous) (this : Whole n p) where
  -- the differences of two pixels added to the first are the second, if alpha is unchanged
  shifted_is :
      (r g b : ℕ) → r ≡ wrapped_difference (red p) (red previous) → g ≡ wrapped_difference (green p) (green previous)
      → b ≡ wrapped_difference (blue p) (blue previous) → alpha p ≡ alpha previous → shifted previous r g b ≡ p
  shifted_is r g b er eg eb same =
      parts_same (rw er (sum_back (red previous) (red p) before.red_byte this.red_byte))
      (rw eg (sum_back (green previous) (green p) before.green_byte this.green_byte))
      (rw eb (sum_back (blue previous) (blue p) before.blue_byte this.blue_byte))
      (sym same)
      ∙ sym (pixel_is p this.four)

  module _ (r g b : ℕ) (er : r ≡ wrapped_difference (red p) (red previous))
      (eg : g ≡ wrapped_difference (green p) (green previous)) (eb : b ≡ wrapped_difference (blue p) (blue previous))
      (same : alpha p ≡ alpha previous) where
    diff_chosen : fits_diff r g b ≡ true → Chosen n previous p (diff_chunk r g b)
    unfolding fits_diff diff_chunk colour_of decoder_stores times_of size_of
    diff_chosen e =
        let first = and_split (within 2 1 (signed_of r)) _ e in
        let second = and_split (within 2 1 (signed_of g)) _ first.1 in
        let hr : r < 256 = omega (arith, er) in
        let hg : g < 256 = omega (arith, eg) in
        let hb : b < 256 = omega (arith, eb) in
        record {
          writable =
              λ reads_rgba reads. (
                within_fits 2 1 r hr (omega arith) (omega arith) first.0,
                within_fits 2 1 g hg (omega arith) (omega arith) second.0,
                within_fits 2 1 b hb (omega arith) (omega arith) second.1,
              );
          brings =
              λ slots.
              shifted_is _ _ _ (shift_back r 2 hr (omega arith) ∙ er) (shift_back g 2 hg (omega arith) ∙ eg)
              (shift_back b 2 hb (omega arith) ∙ eb) same;
          stores = refl;
          once = refl;
          size = omega arith;
        }

    luma_chosen : fits_luma r g b ≡ true → Chosen n previous p (luma_chunk r g b)
    unfolding fits_luma luma_chunk colour_of decoder_stores times_of size_of
    luma_chosen e =
        let first = and_split (within 32 31 (signed_of g)) _ e in
        let second = and_split (within 8 7 (signed_of (wrapped_difference r g))) _ first.1 in
        let hr : r < 256 = omega (arith, er) in
        let hg : g < 256 = omega (arith, eg) in
        let hb : b < 256 = omega (arith, eb) in
        let back-g = shift_back g 32 hg (omega arith) in
        let back-r = shift_back (wrapped_difference r g) 8 (difference_small r g) (omega arith) in
        let back-b = shift_back (wrapped_difference b g) 8 (difference_small b g) (omega arith) in
        record {
          writable =
              λ reads_rgba reads. (
                within_fits 32 31 g hg (omega arith) (omega arith) first.0,
                within_fits 8 7 (wrapped_difference r g) (difference_small r g) (omega arith) (omega arith) second.0,
                within_fits 8 7 (wrapped_difference b g) (difference_small b g) (omega arith) (omega arith) second.1,
              );
          brings =
              λ slots.
              shifted_is _ _ _ (rw (back-g, back-r) (sum_back g r hg hr ∙ er)) (back-g ∙ eg)
              (rw (back-g, back-b) (sum_back g b hg hb ∙ eb)) same;
          stores = refl;
          once = refl;
          size = omega arith;
        }

    rgb_chosen : Chosen n previous p (RGB (red p) (green p) (blue p))
    unfolding colour_of decoder_stores times_of size_of
    rgb_chosen =
        record {
          writable = λ reads_rgba reads. tt;
          brings = λ slots. parts_same refl refl refl (sym same) ∙ sym (pixel_is p this.four);
          stores = refl;
          once = refl;
          size = omega arith;
        }

  -- with three channels alpha never changes
  rgba_four : (alpha p ≡ alpha previous → ⊥) → n ≡ 3 → ⊥
  rgba_four changed three = changed (this.opaque three ∙ sym (before.opaque three))

  rgba_chosen : (n ≡ 3 → ⊥) → Chosen n previous p (RGBA (red p) (green p) (blue p) (alpha p))
  unfolding colour_of decoder_stores times_of size_of
  rgba_chosen four =
      record {
        writable = λ reads_rgba reads. reads four;
        brings = λ slots. sym (pixel_is p this.four);
        stores = refl;
        once = refl;
        size = omega arith;
      }

  -- the colour's chunk brings the colour
  pub colour_chosen : Chosen n previous p (colour_chunk previous p)
  unfolding colour_chunk
  colour_chosen = go (eqb (alpha p) (alpha previous)) refl (fits_diff r g b) refl (fits_luma r g b) refl
    where
      r : ℕ
      r = wrapped_difference (red p) (red previous)

      g : ℕ
      g = wrapped_difference (green p) (green previous)

      b : ℕ
      b = wrapped_difference (blue p) (blue previous)

      go :
          (same : Bool) → eqb (alpha p) (alpha previous) ≡ same → (diff : Bool) → fits_diff r g b ≡ diff
          → (luma : Bool) → fits_luma r g b ≡ luma
          → Chosen n previous p
          (cond same (cond diff (diff_chunk r g b) (cond luma (luma_chunk r g b) (RGB (red p) (green p) (blue p))))
          (RGBA (red p) (green p) (blue p) (alpha p)))
      go true e true d luma l = diff_chosen r g b refl refl refl (eqb-true _ _ e) d
      go true e false d true l = luma_chosen r g b refl refl refl (eqb-true _ _ e) l
      go true e false d false l = rgb_chosen r g b refl refl refl (eqb-true _ _ e)
      go false e diff d luma l = rgba_chosen (rgba_four (eqb-false _ _ e))
