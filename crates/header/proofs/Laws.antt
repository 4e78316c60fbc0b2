-- The laws of the header: its bytes read back, how many they are, what an accepted header is like, and that it is
-- written back. Assumes nothing.
use Rattle.std.specs.Prelude.{Result, Ok, Err}
use mathlib.Core.Path.{◌≡◌, refl, sym, ◌∙◌, ap, ap₂, subst}
use mathlib.Core.Bool.{Bool, true, false, cond, ◌&&◌}
use mathlib.Core.List.{List, [], ◌∷◌, ◌++◌}
use Prim.Native.Nat.{ℕ, zero, suc, ◌+◌, ◌*◌, ◌/◌, ◌%◌, ◌^◌, ◌≤◌, ◌<◌}
use native.Mathlib.Nat.{zero-mul, mul-zero, mul_comm, le-mul_of_pos_right, le_of_lt, lt_of_le_of_lt, mul-le-mul_left, mul-lt-mul_of_pos_right}
use native.Mathlib.Numerals.{add-one, add-two, add-three}
use native.Mathlib.Omega.{arith}
use lib.Dec.{T, ltb, leb, eqb, leb→le, eqb→eq, lit<}
use lib.ListN.{length, get_or, take, drop}
use lib.Seq.{drop-cons}
use borrow.Author.Tests.{le-ltb, ltb-false, eqb-true}
use Rattle.pixel.specs.Bytes.{AllBytes}
use Rattle.pixel.specs.Types.{channels_number, color_space_number, channels_from, color_space_from}
use Rattle.std.proofs.lemmas.Nat.{from_be_bytes-to_be_bytes_4, be_bytes_4}
use Rattle.pixel.specs.declared.error.Error.{Error}
use Rattle.pixel.specs.declared.types.Channels.{Channels}
use Rattle.pixel.specs.declared.types.Channels.TheVariants.{Rgb, Rgba}
use Rattle.pixel.specs.declared.types.ColorSpace.{ColorSpace}
use Rattle.pixel.specs.declared.types.ColorSpace.TheVariants.{Srgb, Linear}
use Rattle.header.specs.declared.Header.{Header}
use Rattle.header.specs.Header.{pixel_count, dimensions_fit, big_endian, big_endian_bytes, header_bytes, header_from, magic_number, number_at, after_color_space, after_channels, header_of}

-- two numbers of 32 bits have a product of 64
pub product_fits : {a b : ℕ} → a < 2 ^ 32 → b < 2 ^ 32 → a * b < 2 ^ 64
product_fits {a} ha hb = lt_of_le_of_lt (mul-le-mul_left a (le_of_lt hb)) (mul-lt-mul_of_pos_right ha (lit< tt))

-- a 32-bit number is read back from its four bytes
big_endian_read_back :
    (n : ℕ) → n < 2 ^ 32 → big_endian (n / 16777216 % 256) (n / 65536 % 256) (n / 256 % 256) (n % 256) ≡ n
big_endian_read_back n small = from_be_bytes-to_be_bytes_4 n small

pub channels_read_back : (c : Channels) → channels_from (channels_number c) ≡ Ok c
channels_read_back Rgb = refl
channels_read_back Rgba = refl

pub color_space_read_back : (s : ColorSpace) → color_space_from (color_space_number s) ≡ Ok s
color_space_read_back Srgb = refl
color_space_read_back Linear = refl

-- a test that holds is true
pub is_true : (b : Bool) → T b → b ≡ true
is_true true t = refl
is_true false t = absurd t

-- both of two tests hold
pub both : (a b : Bool) → T (a && b) → T a × T b
both true b t = (tt, t)
both false b t = absurd t

-- dimensions that fit have 400,000,000 pixels at most
pub pixels_small : (h : Header) → T (dimensions_fit h.width h.height) → pixel_count h ≤ 400000000
pixels_small h t = leb→le (pixel_count h) 400000000 (both (leb 1 (pixel_count h)) _ t).1

-- the header's bytes read back, whatever follows
pub header_read_back :
    (h : Header) (rest : List ℕ) → h.width < 2 ^ 32 → h.height < 2 ^ 32 → T (dimensions_fit h.width h.height)
    → header_of (header_bytes h ++ rest) ≡ Ok h
unfolding header_bytes header_of after_channels after_color_space header_from
header_read_back h rest narrow low fit =
    simp (le-ltb (length (header_bytes h ++ rest)) 14 (omega arith), channels_read_back, color_space_read_back, big_endian_read_back h.width narrow, big_endian_read_back h.height low, is_true (dimensions_fit h.width h.height) fit)

-- the header is fourteen bytes long
pub header_length : (h : Header) → length (header_bytes h) ≡ 14
unfolding header_bytes
header_length h = refl

-- two numbers whose product is not zero are at most the product
sides : (a b : ℕ) → 1 ≤ a * b → (a ≤ a * b) × (b ≤ a * b)
sides zero b some = absurd (omega (arith, zero-mul b))
sides (suc a) zero some = absurd (omega (arith, mul-zero (suc a)))
sides (suc a) (suc b) some =
    (le-mul_of_pos_right (suc a) (omega arith), rw (mul_comm (suc a) (suc b)) (le-mul_of_pos_right (suc b) (omega arith)))

-- dimensions that fit have 32 bits
pub sides_fit : (h : Header) → T (dimensions_fit h.width h.height) → (h.width < 2 ^ 32) × (h.height < 2 ^ 32)
sides_fit h t =
    let some = sides h.width h.height (leb→le 1 (pixel_count h) (both (leb 1 (pixel_count h)) _ t).0) in
    (omega (arith, some.0, pixels_small h t), omega (arith, some.1, pixels_small h t))

-- what an accepted header is like: 1 to 400,000,000 pixels, fourteen bytes or more, and its figures are what they say
pub record Accepted (bytes : List ℕ) (h : Header) : Type 0 where
  pub fit : T (dimensions_fit h.width h.height)
  pub whole : 14 ≤ length bytes
  pub magic_is : magic_number ≡ number_at bytes 0
  pub width_is : h.width ≡ number_at bytes 4
  pub height_is : h.height ≡ number_at bytes 8
  pub channels_is : channels_number h.channels ≡ get_or bytes 12 0
  pub space_is : color_space_number h.colorspace ≡ get_or bytes 13 0

refused_is_not_ok : (e : Error) (h : Header) → Err e ≡ Ok h → ⊥
refused_is_not_ok e h p = let z : ◌≡◌ {A = ℕ} 0 1 = cc in omega arith

-- a test that passed, where failing is a refusal
passed : (b : Bool) (r : Result Header Error) (e : Error) (h : Header) → cond b r (Err e) ≡ Ok h → T b × (r ≡ Ok h)
passed true r e h p = (tt, p)
passed false r e h p = absurd (refused_is_not_ok e h p)

-- a test that failed, where passing is a refusal
failed : (b : Bool) (r : Result Header Error) (e : Error) (h : Header) → cond b (Err e) r ≡ Ok h → (b ≡ false) × (r ≡ Ok h)
failed true r e h p = absurd (refused_is_not_ok e h p)
failed false r e h p = (refl, p)

-- a number that is a channel count is that count's
pub channels_number_lem : (n : ℕ) (c : Channels) → channels_from n ≡ Ok c → channels_number c ≡ n
channels_number_lem n c p = go (eqb n 3) refl (eqb n 4) refl
  where
    go : (three : Bool) → eqb n 3 ≡ three → (four : Bool) → eqb n 4 ≡ four → channels_number c ≡ n
    go true e four f = let is : Rgb ≡ c = cc (rw e at p) in rw (← is) (sym (eqb-true _ _ e))
    go false e true f = let is : Rgba ≡ c = cc (rw (e, f) at p) in rw (← is) (sym (eqb-true _ _ f))
    go false e false f = cc (rw (e, f) at p)

-- a number that is a colour space is that colour space's
pub space_number : (n : ℕ) (s : ColorSpace) → color_space_from n ≡ Ok s → color_space_number s ≡ n
space_number n s p = go (eqb n 0) refl (eqb n 1) refl
  where
    go : (none : Bool) → eqb n 0 ≡ none → (one : Bool) → eqb n 1 ≡ one → color_space_number s ≡ n
    go true e one f = let is : Srgb ≡ s = cc (rw e at p) in rw (← is) (sym (eqb-true _ _ e))
    go false e true f = let is : Linear ≡ s = cc (rw (e, f) at p) in rw (← is) (sym (eqb-true _ _ f))
    go false e false f = cc (rw (e, f) at p)

-- a header of figures that fit has those figures
pub from_figures :
    (width height : ℕ) (c : Channels) (s : ColorSpace) (h : Header) → header_from width height c s ≡ Ok h
    → T (dimensions_fit width height) × (record { width = width; height = height; channels = c; colorspace = s } ≡ h)
unfolding header_from
from_figures width height c s h p = let q = passed (dimensions_fit width height) _ _ h p in (q.0, cc q.1)

module _ (bytes : List ℕ) (h : Header) (whole : 14 ≤ length bytes) where
  -- what is accepted after the colour space is so
  after_color_space_accepted :
      (c : Channels) (read : Result ColorSpace Error) → channels_number c ≡ get_or bytes 12 0
      → color_space_from (get_or bytes 13 0) ≡ read → after_color_space bytes c read ≡ Ok h → Accepted bytes h
  unfolding after_color_space
  after_color_space_accepted c (Err e) count space p = absurd (refused_is_not_ok e h p)
  after_color_space_accepted c (Ok s) count space p =
      let magic = passed (eqb (number_at bytes 0) magic_number) _ _ h p in
      let figures = from_figures _ _ c s h magic.1 in
      subst (Accepted bytes) figures.1
      (record {
        fit = figures.0;
        whole = whole;
        magic_is = sym (eqb→eq (number_at bytes 0) magic_number magic.0);
        width_is = refl;
        height_is = refl;
        channels_is = count;
        space_is = space_number _ s space;
      })

  -- what is accepted after the channels is so
  after_channels_accepted :
      (read : Result Channels Error) → channels_from (get_or bytes 12 0) ≡ read → after_channels bytes read ≡ Ok h → Accepted bytes h
  unfolding after_channels
  after_channels_accepted (Err e) count p = absurd (refused_is_not_ok e h p)
  after_channels_accepted (Ok c) count p =
      after_color_space_accepted c (color_space_from (get_or bytes 13 0)) (channels_number_lem _ c count) refl p

-- a header that is read is an accepted one
pub header_accepted : (bytes : List ℕ) (h : Header) → header_of bytes ≡ Ok h → Accepted bytes h
unfolding header_of
header_accepted bytes h p =
    let long = failed (ltb (length bytes) 14) _ _ h p in
    after_channels_accepted bytes h (ltb-false _ _ long.0) (channels_from (get_or bytes 12 0)) refl long.1

-- four bytes are written back from their number
big_endian_written_back :
    (n a b c d : ℕ) → n ≡ big_endian a b c d → a < 256 → b < 256 → c < 256 → d < 256
    → big_endian_bytes n ≡ a ∷ b ∷ c ∷ d ∷ []
big_endian_written_back n a b c d is ha hb hc hd = be_bytes_4 (a ∷ b ∷ c ∷ d ∷ []) n refl each is
  where
    each : (i : ℕ) → get_or (a ∷ b ∷ c ∷ d ∷ []) i 0 < 256
    each zero = ha
    each (suc zero) = hb
    each (suc (suc zero)) = hc
    each (suc (suc (suc zero))) = hd
    each (suc (suc (suc (suc i)))) = omega arith

-- the bytes from a place on, one by one
abbrev bytes_from : List ℕ → ℕ → ℕ → List ℕ
bytes_from bytes at zero = []
bytes_from bytes at (suc n) = get_or bytes at 0 ∷ bytes_from bytes (suc at) n

-- those bytes are what is taken there
taken : (bytes : List ℕ) (at n : ℕ) → at + n ≤ length bytes → bytes_from bytes at n ≡ take n (drop at bytes)
taken bytes at zero fits = refl
taken bytes at (suc n) fits =
    rw (drop-cons bytes at 0 (omega arith))
    (ap {B = List ℕ} (λ l. get_or bytes at 0 ∷ l) (taken bytes (suc at) n (omega arith)))

module _ (bytes : List ℕ) (are : AllBytes bytes) where
  -- the number at a place is written back as the four bytes there
  number_written_back :
      (n at : ℕ) → n ≡ number_at bytes at → at + 4 ≤ length bytes → big_endian_bytes n ≡ bytes_from bytes at 4
  number_written_back n at is fits =
      big_endian_written_back n _ _ _ _ (rw (add-one, add-two, add-three) at is) (are at (omega arith))
      (are (suc at) (omega arith))
      (are (suc (suc at)) (omega arith))
      (are (suc (suc (suc at))) (omega arith))

  -- an accepted header is written back as its fourteen bytes
  pub header_written_back : (h : Header) → header_of bytes ≡ Ok h → header_bytes h ≡ take 14 bytes
  unfolding header_bytes
  header_written_back h p =
      let ok = header_accepted bytes h p in
      ap₂ ◌++◌ (number_written_back magic_number 0 ok.magic_is (omega arith))
      (ap₂ ◌++◌ (number_written_back h.width 4 ok.width_is (omega arith))
      (ap₂ ◌++◌ (number_written_back h.height 8 ok.height_is (omega arith))
      (ap₂ (λ c s. c ∷ s ∷ []) ok.channels_is ok.space_is)))
      ∙ taken bytes 0 14 ok.whole

-- what a test that was passed says
pub fitted :
    (h : Header) {passed : Bool} → passed ≡ dimensions_fit h.width h.height → passed ≡ true → dimensions_fit h.width h.height ≡ true
fitted h is left = sym is ∙ left

-- a header that passed has few pixels
pub fitted_small :
    (h : Header) {passed : Bool} {n : ℕ}
    → passed ≡ dimensions_fit h.width h.height → passed ≡ true → n ≡ pixel_count h → n ≤ 400000000
fitted_small h is left count = rw count (pixels_small h (subst T (sym (fitted h is left)) tt))
