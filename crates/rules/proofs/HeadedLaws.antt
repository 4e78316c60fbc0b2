-- Laws of a picture's header: what it is like where it is accepted, and that an encode under it tests nothing more
-- than the room.
-- Assumes nothing.
use Rattle.std.specs.Prelude.{Result, Ok, Err}
use mathlib.Core.Path.{◌≡◌, refl}
use mathlib.Core.Bool.{Bool, true, false, cond}
use mathlib.Core.List.{List}
use Prim.Native.Nat.{ℕ, ◌*◌, ◌/◌, ◌%◌}
use native.Mathlib.Nat.{mul_comm, div-add-mod'}
use native.Mathlib.Omega.{arith}
use borrow.Author.Tests.{eqb-true, eq-eqb}
use lib.Dec.{T, eqb}
use lib.ListN.{length}
use Rattle.pixel.specs.declared.error.Error.{Error}
use Rattle.pixel.specs.declared.error.Error.TheVariants.{InvalidImageDimensions, InvalidImageLength}
use Rattle.pixel.specs.Types.{channels_number, channels_from}
use Rattle.header.specs.declared.Header.{Header}
use Rattle.header.specs.Header.{pixel_count, dimensions_fit, header_from, default_header, with_channels}
use Rattle.header.proofs.Laws.{is_true, channels_number_lem}
use Rattle.rules.specs.Encode.{PictureOf, after_length, after_dimensions, picture_header, encoding_into, encoding_under}
use Rattle.pixel.specs.declared.types.Channels.{Channels}

-- a header that a picture of these dimensions gets
pub record Headed (picture : List ℕ) (width height : ℕ) (header : Header) : Type 0 where
  pub width_is : header.width ≡ width
  pub height_is : header.height ≡ height
  pub channels_are : channels_from (length picture / (width * height)) ≡ Ok header.channels
  pub picture_is : PictureOf header picture

refused_is_none : {e : Error} {h : Header} → Err e ≡ Ok h → ⊥
refused_is_none p = let z : ◌≡◌ {A = ℕ} 0 1 = cc in omega arith

module _ (picture : List ℕ) (width height : ℕ) where
  -- the header of the dimensions alone
  abbrev plain : Header
  plain = record { width = width; height = height; channels = default_header.channels; colorspace = default_header.colorspace }

  -- the channels that the length gives
  abbrev quotient : ℕ
  quotient = length picture / (width * height)

  length_headed :
      T (dimensions_fit width height) → length picture % (width * height) ≡ 0
      → (count : Result Channels Error) → channels_from quotient ≡ count → (header : Header) → after_length plain count ≡ Ok header → Headed picture width height header
  unfolding after_length
  length_headed fit even (Err e) is header p = absurd (refused_is_none p)
  length_headed fit even (Ok c) is header p =
      let made : with_channels plain c ≡ header = cc in
      rw (← made)
      (record {
        width_is = refl;
        height_is = refl;
        channels_are = is;
        picture_is = record {
          fit = fit;
          needed =
              rw (channels_number_lem quotient c is)
              (omega (arith, div-add-mod' (length picture) (width * height), mul_comm (width * height) quotient));
        };
      })

  -- what an accepted header is like
  pub picture_headed : (header : Header) → picture_header picture width height ≡ Ok header → Headed picture width height header
  unfolding picture_header header_from after_dimensions
  picture_headed header p = go (dimensions_fit width height) refl p
    where
      even :
          T (dimensions_fit width height) → (b : Bool) → eqb (length picture % (width * height)) 0 ≡ b
          → cond b (after_length plain (channels_from quotient)) (Err (InvalidImageLength (length picture) width height)) ≡ Ok header
          → Headed picture width height header
      even fit true t p = length_headed fit (eqb-true _ _ t) (channels_from quotient) refl header p
      even fit false t p = absurd (refused_is_none p)

      go :
          (b : Bool) → dimensions_fit width height ≡ b
          → after_dimensions picture (cond b (Ok plain) (Err (InvalidImageDimensions width height))) ≡ Ok header
          → Headed picture width height header
      go true t p = even (rw t tt) (eqb (length picture % (width * height)) 0) refl p
      go false t p = absurd (refused_is_none p)

-- a picture of its header needs only the room
pub under_into :
    (picture : List ℕ) (room : ℕ) (header : Header) → PictureOf header picture → encoding_under picture room header ≡ encoding_into picture room header
unfolding encoding_under
under_into picture room header of =
    rw (is_true (dimensions_fit header.width header.height) of.fit, eq-eqb (length picture) (pixel_count header * channels_number header.channels) of.needed)
