-- The quick loops, for every number of wanted channels: what holds at their head, and what a chunk makes of it.
-- Assumes nothing.
use mathlib.Core.Path.{◌≡◌, refl, sym, ◌∙◌, ap, ap₂}
use mathlib.Core.Bool.{Bool, true, false, cond}
use mathlib.Core.List.{List, []}
use Prim.Native.Nat.{ℕ, suc, ◌+◌, ◌-◌, ◌*◌, ◌/◌, ◌%◌, ◌≤◌, ◌<◌, min}
use native.Mathlib.Nat.{add-mul, mul-le-mul_right}
use native.Mathlib.Omega.{arith}
use lib.Dec.{eqb}
use lib.ListN.{length, get_or, drop, set, length-drop}
use lib.Seq.{get_or-drop}
use Rattle.pixel.specs.declared.Pixel.{Pixel}
use Rattle.pixel.specs.declared.types.Channels.{Channels}
use Rattle.pixel.specs.declared.types.Channels.TheVariants.{Rgba}
use Rattle.pixel.specs.Colour.{alpha, clear_pixel, pixel_of, slot_of, with_alpha}
use Rattle.pixel.specs.Types.{channels_number}
use Rattle.rules.specs.Bytes.{pasted, repeated}
use Rattle.rules.specs.Chunk.{Chunk, chunk, chunk_at, colour_of, shifted, times_of, size_of, INDEX, DIFF, LUMA, RUN, RGB, RGBA}
use Rattle.rules.specs.Decode.{decoder_stores, decoder_keeps, decoder_reads_rgba}
use Rattle.rules.proofs.ChunkLaws.{index_row, diff_row, luma_row, run_row, rgb_row, rgba_row}
use Rattle.walk.specs.declared.lanes.Lanes.{Lanes}
use Rattle.walk.specs.declared.spot.Spot.{Spot}
use Rattle.walk.specs.Lanes.{pixel_in}
use Rattle.walk.specs.Asked.{Onward, spot_at, bytes_in}
use Rattle.walk.proofs.Pasting.{filled_one}
use Rattle.walk.proofs.Loop.{Step, upto, inside, same, goes_on}

-- what is kept of a pixel is kept of it again
kept_again : (wanted : ℕ) (p : Pixel) → decoder_keeps wanted (decoder_keeps wanted p) ≡ decoder_keeps wanted p
unfolding decoder_keeps
kept_again wanted p = go (eqb wanted 3)
  where
    go : (three : Bool) → cond three (with_alpha (cond three (with_alpha p 255) p) 255) (cond three (with_alpha p 255) p) ≡ cond three (with_alpha p 255) p
    go true = refl
    go false = refl

-- and of one whose colours alone were changed
shift_kept : (wanted : ℕ) (p : Pixel) (r g b : ℕ) → decoder_keeps wanted p ≡ p → decoder_keeps wanted (shifted p r g b) ≡ shifted p r g b
unfolding decoder_keeps
shift_kept wanted p r g b = go (eqb wanted 3)
  where
    go : (three : Bool) → cond three (with_alpha p 255) p ≡ p → cond three (with_alpha (shifted p r g b) 255) (shifted p r g b) ≡ shifted p r g b
    go true kept = ap (with_alpha (shifted p r g b)) (ap alpha kept)
    go false kept = refl

-- lanes have four channels
four_in : (l : Lanes) → length (pixel_in l).rgba ≡ 4
unfolding pixel_in
four_in l = refl

module _ (wanted : ℕ) (message : List ℕ) (source : Channels) (missing : ℕ) where
  -- at a quick loop's head: what is left to walk from here is what was left at the first spot; `quota` chunks are sure
  -- to be whole, and to have a pixel each
  pub record Head
      (first : Spot) (slots₀ : List Pixel) (out₀ : List ℕ) (base : ℕ)
      (slots : List Pixel) (out : List ℕ) (at done : ℕ) (l : Lanes) (quota : ℕ) : Type 0 where
    pub sure : at + 5 * quota ≤ length message
    pub enough : done + quota ≤ missing
    pub same_length : length out ≡ length out₀
    pub onward : Onward wanted message source missing first slots₀ out₀ (spot_at at done (base + quota) l) slots out

-- a loop is left with these locals
abbrev pub LeftWith : ℕ → List ℕ → Channels → ℕ → Spot → List Pixel → List ℕ → ℕ → List Pixel → Lanes → List ℕ → ℕ → ℕ → ℕ → Type 0
LeftWith wanted message source missing first slots₀ out₀ base slots l out at done quota =
    Onward wanted message source missing first slots₀ out₀ (spot_at at done (base + quota) l) slots out
    × (length out ≡ length out₀)

-- as it stood at its head
pub left_there :
    {wanted : ℕ} {message : List ℕ} {source : Channels} {missing : ℕ}
    {first : Spot} {slots₀ : List Pixel} {out₀ : List ℕ} {base : ℕ}
    {slots : List Pixel} {out : List ℕ} {at done : ℕ} {l : Lanes} {quota : ℕ}
    → Head wanted message source missing first slots₀ out₀ base slots out at done l quota
    → LeftWith wanted message source missing first slots₀ out₀ base slots l out at done quota
left_there h = (h.onward, h.same_length)

-- or with locals that are equal to others
pub left_so :
    {wanted : ℕ} {message : List ℕ} {source : Channels} {missing : ℕ}
    {first : Spot} {slots₀ : List Pixel} {out₀ : List ℕ} (base : ℕ)
    {slots : List Pixel} {l : Lanes} {out out' : List ℕ} {at at' done done' : ℕ} (quota : ℕ) {quota' : ℕ}
    → LeftWith wanted message source missing first slots₀ out₀ base slots l out at done quota
    → out' ≡ out → at' ≡ at → done' ≡ done → quota' ≡ quota
    → LeftWith wanted message source missing first slots₀ out₀ base slots l out' at' done' quota'
left_so base quota left o a d q = rw (o, a, d, q) left

module _ {wanted : ℕ} {message : List ℕ} {source : Channels} {missing : ℕ}
    {first : Spot} {slots₀ : List Pixel} {out₀ : List ℕ} {base : ℕ}
    {slots : List Pixel} {out : List ℕ} {at done : ℕ} {l : Lanes} {quota : ℕ}
    (h : Head wanted message source missing first slots₀ out₀ base slots out at done l quota) (turn : 0 < quota) where
  -- a chunk of at most five bytes
  module _ {k : Chunk} {n : ℕ} {l' : Lanes} {slots' : List Pixel} {out' : List ℕ}
      (s : Step wanted message source missing out slots (pixel_in l) at done k n (pixel_in l') slots' out')
      (short : size_of k ≤ 5) (quota' : ℕ) (less : quota' ≡ quota - 1) where
    moved : Onward wanted message source missing first slots₀ out₀ (spot_at (at + size_of k) (done + n) (base + quota') l') slots' out'
    moved =
        let count : base + quota ≡ suc (base + quota') = omega arith in
        record {
          stands = record {
            lies = record {
              small = h.onward.stands.lies.small;
              few_steps = omega (arith, h.onward.stands.lies.few_steps);
              inside = inside s h.onward.stands.lies.inside;
              within = upto s;
              room = rw (same s) h.onward.stands.lies.room;
            };
            kept = ap (decoder_keeps wanted) (sym s.keeps) ∙ kept_again wanted (colour_of slots (pixel_in l) k) ∙ s.keeps;
          };
          whole = λ from header of. h.onward.whole from header of ∙ rw count (goes_on s from header of (base + quota'));
        }

    again :
        done + n + quota' ≤ missing
        → Head wanted message source missing first slots₀ out₀ base slots' out' (at + size_of k) (done + n) l' quota'
    again enough =
        record {
          sure = omega (arith, h.sure);
          enough = enough;
          same_length = same s ∙ h.same_length;
          onward = moved;
        }

  -- the chunk's bytes
  abbrev part : List ℕ
  part = drop at message

  five : 5 ≤ length part
  five = simp length-drop (omega (arith, h.sure))

  -- the first and the i-th after it
  lead : get_or part 0 0 ≡ get_or message at 0
  lead = get_or-drop at message 0 0 ∙ ap (λ (i : ℕ). get_or message i 0) (omega arith)

  follows : (i : ℕ) → get_or part i 0 ≡ get_or message (at + i) 0
  follows i = get_or-drop at message i 0

  abbrev reads : Bool
  reads = decoder_reads_rgba (channels_number source)

  -- room for n pixels
  pub room_for : (n : ℕ) → done + n ≤ missing → done * wanted + n * wanted ≤ length out
  room_for n upto = omega (arith, h.onward.stands.lies.room, mul-le-mul_right wanted upto, add-mul done n wanted)

  module _ (few : wanted ≤ 4) (l' : Lanes) (out' : List ℕ) (quota' : ℕ) (less : quota' ≡ quota - 1) where
    pub after_index :
        get_or message at 0 < 64 → (pixel_in l' ≡ decoder_keeps wanted (get_or slots (get_or message at 0) clear_pixel))
        → out' ≡ pasted (done * wanted) (bytes_in wanted (pixel_in l')) out
        → Head wanted message source missing first slots₀ out₀ base slots out' (at + 1) (done + 1) l' quota'
    unfolding colour_of times_of size_of decoder_stores
    after_index low holds written =
        again {k = INDEX (get_or message at 0)}
        (record {
          few = few;
          room = h.onward.stands.lies.room;
          left = omega (arith, h.enough);
          found = index_row reads part (omega (arith, five)) (omega (arith, lead)) ∙ ap (λ (b : ℕ). chunk (INDEX b)) lead;
          often = omega (arith, h.enough);
          four = four_in l';
          keeps = sym holds;
          stores = refl;
          written = filled_one out (done * wanted) (bytes_in wanted (pixel_in l')) written;
        })
        (omega arith) quota' less (omega (arith, h.enough))

    -- a chunk that brings one pixel and stores it
    module _ (slots' : List Pixel) (stored : slots' ≡ set slots (slot_of (pixel_in l')) (pixel_in l'))
        (written : out' ≡ pasted (done * wanted) (bytes_in wanted (pixel_in l')) out) where
      after_colour :
          (k : Chunk) → chunk_at reads part ≡ chunk k → times_of k ≡ 1 → decoder_stores k ≡ true → size_of k ≤ 5
          → (pixel_in l' ≡ decoder_keeps wanted (colour_of slots (pixel_in l) k))
          → Head wanted message source missing first slots₀ out₀ base slots' out' (at + size_of k) (done + 1) l' quota'
      after_colour k found single stores short holds =
          again {k = k}
          (record {
            few = few;
            room = h.onward.stands.lies.room;
            left = omega (arith, h.enough);
            found = found;
            often = rw single (omega (arith, h.enough));
            four = four_in l';
            keeps = sym holds;
            stores = rw stores (sym stored);
            written = filled_one out (done * wanted) (bytes_in wanted (pixel_in l')) written;
          })
          short quota' less (omega (arith, h.enough))

      pub after_diff :
          64 ≤ get_or message at 0 → get_or message at 0 < 128
          → (pixel_in l' ≡ colour_of [] (pixel_in l) (DIFF (get_or message at 0 / 16 % 4) (get_or message at 0 / 4 % 4) (get_or message at 0 % 4)))
          → Head wanted message source missing first slots₀ out₀ base slots' out' (at + 1) (done + 1) l' quota'
      unfolding colour_of times_of size_of decoder_stores
      after_diff high low holds =
          after_colour (DIFF (get_or message at 0 / 16 % 4) (get_or message at 0 / 4 % 4) (get_or message at 0 % 4))
          (diff_row reads part (omega (arith, five)) (omega (arith, lead)) (omega (arith, lead))
          ∙ ap (λ (b : ℕ). chunk (DIFF (b / 16 % 4) (b / 4 % 4) (b % 4))) lead)
          refl refl (omega arith) (holds ∙ sym (shift_kept wanted (pixel_in l) _ _ _ h.onward.stands.kept))

      pub after_luma :
          128 ≤ get_or message at 0 → get_or message at 0 < 192
          → (pixel_in l' ≡ colour_of [] (pixel_in l) (LUMA (get_or message at 0 % 64) (get_or message (at + 1) 0 / 16) (get_or message (at + 1) 0 % 16)))
          → Head wanted message source missing first slots₀ out₀ base slots' out' (at + 2) (done + 1) l' quota'
      unfolding colour_of times_of size_of decoder_stores
      after_luma high low holds =
          after_colour (LUMA (get_or message at 0 % 64) (get_or message (at + 1) 0 / 16) (get_or message (at + 1) 0 % 16))
          (luma_row reads part (omega (arith, five)) (omega (arith, lead)) (omega (arith, lead))
          ∙ ap₂ (λ (a b : ℕ). chunk (LUMA (a % 64) (b / 16) (b % 16))) lead (follows 1))
          refl refl (omega arith) (holds ∙ sym (shift_kept wanted (pixel_in l) _ _ _ h.onward.stands.kept))

      pub after_rgb :
          get_or message at 0 ≡ 254
          → (pixel_in l' ≡ decoder_keeps wanted (colour_of [] (pixel_in l) (RGB (get_or message (at + 1) 0) (get_or message (at + 2) 0) (get_or message (at + 3) 0))))
          → Head wanted message source missing first slots₀ out₀ base slots' out' (at + 4) (done + 1) l' quota'
      unfolding colour_of times_of size_of decoder_stores
      after_rgb is holds =
          after_colour (RGB (get_or message (at + 1) 0) (get_or message (at + 2) 0) (get_or message (at + 3) 0))
          (rgb_row reads part (omega (arith, five)) (lead ∙ is)
          ∙ (λ i. chunk (RGB (follows 1 i) (follows 2 i) (follows 3 i))))
          refl refl (omega arith) holds

      pub after_rgba :
          source ≡ Rgba → get_or message at 0 ≡ 255
          → (pixel_in l' ≡ decoder_keeps wanted (pixel_of (get_or message (at + 1) 0) (get_or message (at + 2) 0) (get_or message (at + 3) 0) (get_or message (at + 4) 0)))
          → Head wanted message source missing first slots₀ out₀ base slots' out' (at + 5) (done + 1) l' quota'
      unfolding colour_of times_of size_of decoder_stores decoder_reads_rgba
      after_rgba four is holds =
          after_colour (RGBA (get_or message (at + 1) 0) (get_or message (at + 2) 0) (get_or message (at + 3) 0) (get_or message (at + 4) 0))
          (ap (λ (s : Channels). chunk_at (decoder_reads_rgba (channels_number s)) part) four
          ∙ rgba_row part five (omega (arith, lead, is))
          ∙ (λ i. chunk (RGBA (follows 1 i) (follows 2 i) (follows 3 i) (follows 4 i))))
          refl refl (omega arith) holds

  -- a run
  module _ (few : wanted ≤ 4) (out' : List ℕ) (quota' : ℕ) (less : quota' ≡ quota - 1)
      (high : 192 ≤ get_or message at 0) (low : get_or message at 0 < 254)
      (n : ℕ) (often : n ≡ min (get_or message at 0 - 191) (missing - done))
      (written : out' ≡ pasted (done * wanted) (repeated n (bytes_in wanted (pixel_in l))) out) where
    abbrev times : ℕ
    times = get_or message at 0 % 64 + 1

    run : Step wanted message source missing out slots (pixel_in l) at done (RUN times) n (pixel_in l) slots out'
    unfolding colour_of times_of size_of decoder_stores
    run =
        record {
          few = few;
          room = h.onward.stands.lies.room;
          left = omega (arith, h.enough);
          found = run_row reads part (omega (arith, five)) (omega (arith, lead)) (omega (arith, lead)) ∙ ap (λ (b : ℕ). chunk (RUN (b % 64 + 1))) lead;
          often = omega (arith, often);
          four = four_in l;
          keeps = h.onward.stands.kept;
          stores = refl;
          written = written;
        }

    pub after_run_out : Onward wanted message source missing first slots₀ out₀ (spot_at (at + 1) (done + n) (base + quota') l) slots out'
    unfolding size_of
    after_run_out = moved run (omega arith) quota' less

    pub after_run :
        quota' ≤ missing - (done + n) → Head wanted message source missing first slots₀ out₀ base slots out' (at + 1) (done + n) l quota'
    unfolding size_of
    after_run enough = again run (omega arith) quota' less (omega (arith, upto run))
