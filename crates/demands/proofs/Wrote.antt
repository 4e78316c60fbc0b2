-- What an encode that is accepted wrote: the stream of its picture under its header; and that it accepts every picture
-- of a header.
-- Assumes nothing.
use Rattle.std.specs.Prelude.{Result, Ok, Err}
use mathlib.Core.Path.{◌≡◌, refl, ◌∙◌, ap}
use mathlib.Core.Bool.{Bool, true, false, cond}
use mathlib.Core.List.{List}
use Prim.Native.Nat.{ℕ, ◌/◌, ◌%◌, ◌<◌}
use native.Mathlib.Nat.{mul-div_cancel_left, mod-eq-sub-mul-div}
use native.Mathlib.Omega.{arith}
use borrow.Author.Tests.{ltb-false, leb-true, le-ltb, eq-eqb}
use lib.Dec.{ltb, leb}
use lib.ListN.{length}
use Rattle.pixel.specs.declared.error.Error.{Error}
use Rattle.pixel.specs.declared.error.Error.TheVariants.{OutputBufferTooSmall}
use Rattle.pixel.specs.declared.types.ColorSpace.{ColorSpace}
use Rattle.pixel.specs.Types.{channels_number, color_space_from}
use Rattle.header.specs.declared.Header.{Header}
use Rattle.header.specs.Header.{pixel_count, dimensions_fit, header_from, default_header, encoded_room, with_color_space}
use Rattle.header.proofs.Laws.{is_true, both, channels_read_back, color_space_read_back}
use Rattle.rules.specs.Encode.{PictureOf, stream_of, Encoding, encoded, not_encoded, nothing_encoded, after_length, after_dimensions, picture_header, encoding_into, after_space, after_picture_header, encoding}
use Rattle.rules.proofs.HeadedLaws.{Headed, picture_headed}
use Rattle.demands.specs.Streams.{Wrote, MustEncode}

refused_is_no_encode : {e : Error} {n : ℕ} → not_encoded e ≡ encoded n → ⊥
refused_is_no_encode p = let z : ◌≡◌ {A = ℕ} 0 1 = cc in omega arith

same_size : {k n : ℕ} → encoded k ≡ encoded n → n ≡ k
same_size p = cc

module _ (picture : List ℕ) (width height colorspace room size : ℕ) where
  -- where an encode is accepted it wrote the stream
  abbrev pub Writes : Encoding → Type 0
  Writes w = w.answer ≡ encoded size → Wrote picture w.bytes width height colorspace room size

  module _ (plain : Header) (headed : Headed picture width height plain) where
    -- into its room
    into_writes : (s : ColorSpace) → color_space_from colorspace ≡ Ok s → Writes (encoding_into picture room (with_color_space plain s))
    unfolding encoding_into
    into_writes s read = go (ltb room required) refl
      where
        header : Header
        header = with_color_space plain s

        required : ℕ
        required = encoded_room plain.width plain.height (channels_number plain.channels)

        go :
            (b : Bool) → ltb room required ≡ b
            → Writes
            (cond b (nothing_encoded (OutputBufferTooSmall room required))
            (record { answer = encoded (length (stream_of header picture)); bytes = stream_of header picture }))
        go true t e = absurd (refused_is_no_encode e)
        go false t e =
            record {
              header = header;
              width_is = headed.width_is;
              height_is = headed.height_is;
              channels_are = headed.channels_are;
              colorspace_is = read;
              picture_is = record { fit = headed.picture_is.fit; needed = headed.picture_is.needed };
              roomy = ltb-false room required t;
              stream_is = refl;
              all = same_size e;
            }

    -- with its colour space
    space_writes : (read : Result ColorSpace Error) → color_space_from colorspace ≡ read → Writes (after_space picture room plain read)
    unfolding after_space
    space_writes (Err x) is e = absurd (refused_is_no_encode e)
    space_writes (Ok s) is e = into_writes s is e

  -- with its header
  header_writes : (read : Result Header Error) → picture_header picture width height ≡ read → Writes (after_picture_header picture room colorspace read)
  unfolding after_picture_header
  header_writes (Err x) is e = absurd (refused_is_no_encode e)
  header_writes (Ok plain) is e =
      space_writes plain (picture_headed picture width height plain is) (color_space_from colorspace) refl e

  -- whatever an encode that is accepted wrote is the stream
  pub encode_wrote : Writes (encoding picture width height colorspace room)
  unfolding encoding
  encode_wrote = header_writes (picture_header picture width height) refl

module _ (header : Header) (picture : List ℕ) (of : PictureOf header picture) where
  abbrev n : ℕ
  n = pixel_count header

  quotient : length picture / n ≡ channels_number header.channels
  quotient =
      let some : 0 < n = leb-true 1 n (is_true (leb 1 n) (both (leb 1 n) _ of.fit).0) in
      ap (λ (l : ℕ). l / n) of.needed ∙ mul-div_cancel_left (channels_number header.channels) some

  even : length picture % n ≡ 0
  even = mod-eq-sub-mul-div (length picture) n ∙ rw (quotient) (omega (arith, of.needed))

  -- its header is that of its dimensions and its length
  header_is : picture_header picture header.width header.height ≡ Ok (with_color_space header default_header.colorspace)
  unfolding picture_header header_from after_dimensions after_length
  header_is =
      rw (is_true (dimensions_fit header.width header.height) of.fit, eq-eqb (length picture % n) 0 even, quotient, channels_read_back header.channels)

  -- so it is encoded
  pub encode_must_accept : MustEncode header picture
  unfolding encoding after_picture_header after_space encoding_into
  encode_must_accept room roomy =
      rw (header_is, color_space_read_back header.colorspace, le-ltb room (encoded_room header.width header.height (channels_number header.channels)) roomy)
