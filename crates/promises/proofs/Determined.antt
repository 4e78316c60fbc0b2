-- Each public function, by name: any two results that its own contract allows are equal, each figure and each byte of
-- lent memory. Its line stands under its path, `crate-module-Type-name`, which tools/determined holds to the sources;
-- `Kinds` are its types and `Reads` its contract as the checker reads them off the source.
-- Assumes nothing.
use mathlib.Core.Path.{◌≡◌, refl, sym, ◌∙◌, ap}
use Rattle.text.proofs.Text as Text
use Rattle.text.specs.Text.{text_of}
use Rattle.pixel.proofs as pixel
use Rattle.pixel.proofs.Pixel as Pixel
use Rattle.pixel.proofs.packed as packed
use Rattle.pixel.proofs.error as error
use Rattle.pixel.proofs.error.Error as Error
use Rattle.pixel.proofs.types.Channels as Channels
use Rattle.pixel.proofs.types.ChannelsDefault as ChannelsDefault
use Rattle.pixel.proofs.types.ChannelsTryFromU64 as ChannelsTryFromU64
use Rattle.pixel.proofs.types.U8FromChannels as U8FromChannels
use Rattle.pixel.proofs.types.U8FromColorSpace as U8FromColorSpace
use Rattle.pixel.proofs.types.ColorSpace as ColorSpace
use Rattle.pixel.proofs.types.ColorSpaceDefault as ColorSpaceDefault
use Rattle.pixel.proofs.types.ColorSpaceTryFromU64 as ColorSpaceTryFromU64
use Rattle.number.proofs as number
use Rattle.header.proofs as header
use Rattle.header.proofs.Header as Header
use Rattle.header.proofs.HeaderDefault as HeaderDefault
use Rattle.chunk.proofs as chunk
use Rattle.walk.proofs as walk
use Rattle.resume.proofs.Decoder as Decoder
use Rattle.decode.proofs as decode
use Rattle.encode.proofs as encode
use Rattle.encode.proofs.Encoder as Encoder
use Rattle.strict.proofs as strict
use Rattle.totals.proofs as totals
use Rattle.totals.specs.Counting.{Outcome}
use Rattle.report.proofs as report
use Rattle.qoi.proofs as qoi
use Rattle.resume.specs.State.{state_determined}
use Rattle.promises.specs.Determined.{Determined, DeterminedBy}
use Rattle.promises.proofs.OneToOne.{unpacked_determined, found_determined, walk_determined, end_determined, started_determined, ran_determined, answer_determined, encoded_determined, verdict_determined, returned_same, figures_same}

-- ---- crate `text`: of a text, what it says
pub text-Text-empty : DeterminedBy Text.empty.Kinds.ps Text.empty.Kinds.r (λ κs z z'. text_of z ≡ text_of z') Text.empty.Reads.Post
text-Text-empty κs a z z' e e' ok ok' p q = (p ∙ sym q, refl)

pub text-Text-words : DeterminedBy Text.words.Kinds.ps Text.words.Kinds.r (λ κs z z'. text_of z ≡ text_of z') Text.words.Reads.Post
text-Text-words κs a z z' e e' ok ok' p q = (p ∙ sym q, refl)

pub text-Text-figure : DeterminedBy Text.figure.Kinds.ps Text.figure.Kinds.r (λ κs z z'. text_of z ≡ text_of z') Text.figure.Reads.Post
text-Text-figure κs a z z' e e' ok ok' p q = (p ∙ sym q, refl)

pub text-Text-put : Determined Text.put.Kinds.ps Text.put.Kinds.r Text.put.Reads.Post
text-Text-put κs a z z' e e' ok ok' p q =
    let out = p.1 ∙ sym q.1 in
    (p.0 ∙ sym q.0, λ i. (tt, (out i, tt)))

-- ---- crate `pixel`
pub pixel-Pixel-new : Determined Pixel.new.Kinds.ps Pixel.new.Kinds.r Pixel.new.Reads.Post
pixel-Pixel-new κs a z z' e e' ok ok' p q = (p ∙ sym q, refl)

pub pixel-Pixel-start : Determined Pixel.start.Kinds.ps Pixel.start.Kinds.r Pixel.start.Reads.Post
pixel-Pixel-start κs a z z' e e' ok ok' p q = (p ∙ sym q, refl)

pub pixel-Pixel-clear : Determined Pixel.clear.Kinds.ps Pixel.clear.Kinds.r Pixel.clear.Reads.Post
pixel-Pixel-clear κs a z z' e e' ok ok' p q = (p ∙ sym q, refl)

pub pixel-Pixel-r : Determined Pixel.r.Kinds.ps Pixel.r.Kinds.r Pixel.r.Reads.Post
pixel-Pixel-r κs a z z' e e' ok ok' p q = (p ∙ sym q, refl)

pub pixel-Pixel-g : Determined Pixel.g.Kinds.ps Pixel.g.Kinds.r Pixel.g.Reads.Post
pixel-Pixel-g κs a z z' e e' ok ok' p q = (p ∙ sym q, refl)

pub pixel-Pixel-b : Determined Pixel.b.Kinds.ps Pixel.b.Kinds.r Pixel.b.Reads.Post
pixel-Pixel-b κs a z z' e e' ok ok' p q = (p ∙ sym q, refl)

pub pixel-Pixel-a : Determined Pixel.a.Kinds.ps Pixel.a.Kinds.r Pixel.a.Reads.Post
pixel-Pixel-a κs a z z' e e' ok ok' p q = (p ∙ sym q, refl)

pub pixel-Pixel-with_a : Determined Pixel.with_a.Kinds.ps Pixel.with_a.Kinds.r Pixel.with_a.Reads.Post
pixel-Pixel-with_a κs a z z' e e' ok ok' p q = (p ∙ sym q, refl)

pub pixel-Pixel-hash_index : Determined Pixel.hash_index.Kinds.ps Pixel.hash_index.Kinds.r Pixel.hash_index.Reads.Post
pixel-Pixel-hash_index κs a z z' e e' ok ok' p q = (p ∙ sym q, refl)

pub pixel-wrapped_sum : Determined pixel.wrapped_sum.Kinds.ps pixel.wrapped_sum.Kinds.r pixel.wrapped_sum.Reads.Post
pixel-wrapped_sum κs a z z' e e' ok ok' p q = (p ∙ sym q, refl)

pub pixel-wrapped_difference : Determined pixel.wrapped_difference.Kinds.ps pixel.wrapped_difference.Kinds.r pixel.wrapped_difference.Reads.Post
pixel-wrapped_difference κs a z z' e e' ok ok' p q = (p ∙ sym q, refl)

pub pixel-signed : Determined pixel.signed.Kinds.ps pixel.signed.Kinds.r pixel.signed.Reads.Post
pixel-signed κs a z z' e e' ok ok' p q = (p ∙ sym q, refl)

pub pixel-packed-pack : Determined packed.pack.Kinds.ps packed.pack.Kinds.r packed.pack.Reads.Post
pixel-packed-pack κs a z z' e e' ok ok' p q = (unpacked_determined z z' ok ok' (p ∙ sym q), refl)

pub pixel-packed-of_pixel : Determined packed.of_pixel.Kinds.ps packed.of_pixel.Kinds.r packed.of_pixel.Reads.Post
pixel-packed-of_pixel κs a z z' e e' ok ok' p q = (unpacked_determined z z' ok ok' (p ∙ sym q), refl)

pub pixel-packed-unpack : Determined packed.unpack.Kinds.ps packed.unpack.Kinds.r packed.unpack.Reads.Post
pixel-packed-unpack κs a z z' e e' ok ok' p q = (p ∙ sym q, refl)

pub pixel-packed-red : Determined packed.red.Kinds.ps packed.red.Kinds.r packed.red.Reads.Post
pixel-packed-red κs a z z' e e' ok ok' p q = (p ∙ sym q, refl)

pub pixel-packed-green : Determined packed.green.Kinds.ps packed.green.Kinds.r packed.green.Reads.Post
pixel-packed-green κs a z z' e e' ok ok' p q = (p ∙ sym q, refl)

pub pixel-packed-blue : Determined packed.blue.Kinds.ps packed.blue.Kinds.r packed.blue.Reads.Post
pixel-packed-blue κs a z z' e e' ok ok' p q = (p ∙ sym q, refl)

pub pixel-packed-alpha : Determined packed.alpha.Kinds.ps packed.alpha.Kinds.r packed.alpha.Reads.Post
pixel-packed-alpha κs a z z' e e' ok ok' p q = (p ∙ sym q, refl)

pub pixel-packed-opaque : Determined packed.opaque.Kinds.ps packed.opaque.Kinds.r packed.opaque.Reads.Post
pixel-packed-opaque κs a z z' e e' ok ok' p q = (unpacked_determined z z' ok ok' (p ∙ sym q), refl)

pub pixel-packed-slot : Determined packed.slot.Kinds.ps packed.slot.Kinds.r packed.slot.Reads.Post
pixel-packed-slot κs a z z' e e' ok ok' p q = (p ∙ sym q, refl)

pub pixel-error-Error-number : Determined Error.number.Kinds.ps Error.number.Kinds.r Error.number.Reads.Post
pixel-error-Error-number κs a z z' e e' ok ok' p q = (p ∙ sym q, refl)

pub pixel-error-Error-figures : Determined Error.figures.Kinds.ps Error.figures.Kinds.r Error.figures.Reads.Post
pixel-error-Error-figures κs a z z' e e' ok ok' p q = (p ∙ sym q, refl)

pub pixel-error-Error-text : Determined Error.text.Kinds.ps Error.text.Kinds.r Error.text.Reads.Post
pixel-error-Error-text κs a z z' e e' ok ok' p q =
    let out = p.1 ∙ sym q.1 in
    (p.0 ∙ sym q.0, λ i. (tt, (out i, tt)))

pub pixel-error-text_of : Determined error.text_of.Kinds.ps error.text_of.Kinds.r error.text_of.Reads.Post
pixel-error-text_of κs a z z' e e' ok ok' p q =
    let out = p.1 ∙ sym q.1 in
    (p.0 ∙ sym q.0, λ i. (tt, (tt, (out i, tt))))

pub pixel-error-put_text : Determined error.put_text.Kinds.ps error.put_text.Kinds.r error.put_text.Reads.Post
pixel-error-put_text κs a z z' e e' ok ok' p q =
    let out = p.1 ∙ sym q.1 in
    (p.0 ∙ sym q.0, λ i. (tt, (out i, tt)))

pub pixel-types-ChannelsDefault-default : Determined ChannelsDefault.default.Kinds.ps ChannelsDefault.default.Kinds.r ChannelsDefault.default.Reads.Post
pixel-types-ChannelsDefault-default κs a z z' e e' ok ok' p q = (p ∙ sym q, refl)

pub pixel-types-Channels-is_rgb : Determined Channels.is_rgb.Kinds.ps Channels.is_rgb.Kinds.r Channels.is_rgb.Reads.Post
pixel-types-Channels-is_rgb κs a z z' e e' ok ok' p q = (p ∙ sym q, refl)

pub pixel-types-Channels-is_rgba : Determined Channels.is_rgba.Kinds.ps Channels.is_rgba.Kinds.r Channels.is_rgba.Reads.Post
pixel-types-Channels-is_rgba κs a z z' e e' ok ok' p q = (p ∙ sym q, refl)

pub pixel-types-Channels-as_u8 : Determined Channels.as_u8.Kinds.ps Channels.as_u8.Kinds.r Channels.as_u8.Reads.Post
pixel-types-Channels-as_u8 κs a z z' e e' ok ok' p q = (p ∙ sym q, refl)

pub pixel-types-ChannelsTryFromU64-try_from : Determined ChannelsTryFromU64.try_from.Kinds.ps ChannelsTryFromU64.try_from.Kinds.r ChannelsTryFromU64.try_from.Reads.Post
pixel-types-ChannelsTryFromU64-try_from κs a z z' e e' ok ok' p q = (p ∙ sym q, refl)

pub pixel-types-U8FromChannels-from : Determined U8FromChannels.from.Kinds.ps U8FromChannels.from.Kinds.r U8FromChannels.from.Reads.Post
pixel-types-U8FromChannels-from κs a z z' e e' ok ok' p q = (p ∙ sym q, refl)

pub pixel-types-ColorSpaceDefault-default : Determined ColorSpaceDefault.default.Kinds.ps ColorSpaceDefault.default.Kinds.r ColorSpaceDefault.default.Reads.Post
pixel-types-ColorSpaceDefault-default κs a z z' e e' ok ok' p q = (p ∙ sym q, refl)

pub pixel-types-ColorSpace-is_srgb : Determined ColorSpace.is_srgb.Kinds.ps ColorSpace.is_srgb.Kinds.r ColorSpace.is_srgb.Reads.Post
pixel-types-ColorSpace-is_srgb κs a z z' e e' ok ok' p q = (p ∙ sym q, refl)

pub pixel-types-ColorSpace-is_linear : Determined ColorSpace.is_linear.Kinds.ps ColorSpace.is_linear.Kinds.r ColorSpace.is_linear.Reads.Post
pixel-types-ColorSpace-is_linear κs a z z' e e' ok ok' p q = (p ∙ sym q, refl)

pub pixel-types-ColorSpace-as_u8 : Determined ColorSpace.as_u8.Kinds.ps ColorSpace.as_u8.Kinds.r ColorSpace.as_u8.Reads.Post
pixel-types-ColorSpace-as_u8 κs a z z' e e' ok ok' p q = (p ∙ sym q, refl)

pub pixel-types-ColorSpaceTryFromU64-try_from : Determined ColorSpaceTryFromU64.try_from.Kinds.ps ColorSpaceTryFromU64.try_from.Kinds.r ColorSpaceTryFromU64.try_from.Reads.Post
pixel-types-ColorSpaceTryFromU64-try_from κs a z z' e e' ok ok' p q = (p ∙ sym q, refl)

pub pixel-types-U8FromColorSpace-from : Determined U8FromColorSpace.from.Kinds.ps U8FromColorSpace.from.Kinds.r U8FromColorSpace.from.Reads.Post
pixel-types-U8FromColorSpace-from κs a z z' e e' ok ok' p q = (p ∙ sym q, refl)

-- ---- crate `number`
pub number-read : Determined number.read.Kinds.ps number.read.Kinds.r number.read.Reads.Post
number-read κs a z z' e e' ok ok' p q = (p ∙ sym q, refl)

pub number-len : Determined number.len.Kinds.ps number.len.Kinds.r number.len.Reads.Post
number-len κs a z z' e e' ok ok' p q = (p ∙ sym q, refl)

pub number-write : Determined number.write.Kinds.ps number.write.Kinds.r number.write.Reads.Post
number-write κs a z z' e e' ok ok' p q =
    let out = p.1 ∙ sym q.1 in
    (p.0 ∙ sym q.0, λ i. (tt, (out i, tt)))

-- ---- crate `header`
pub header-HeaderDefault-default : Determined HeaderDefault.default.Kinds.ps HeaderDefault.default.Kinds.r HeaderDefault.default.Reads.Post
header-HeaderDefault-default κs a z z' e e' ok ok' p q = (p ∙ sym q, refl)

pub header-Header-try_new : Determined Header.try_new.Kinds.ps Header.try_new.Kinds.r Header.try_new.Reads.Post
header-Header-try_new κs a z z' e e' ok ok' p q = (p ∙ sym q, refl)

pub header-Header-with_channels : Determined Header.with_channels.Kinds.ps Header.with_channels.Kinds.r Header.with_channels.Reads.Post
header-Header-with_channels κs a z z' e e' ok ok' p q = (p ∙ sym q, refl)

pub header-Header-with_colorspace : Determined Header.with_colorspace.Kinds.ps Header.with_colorspace.Kinds.r Header.with_colorspace.Reads.Post
header-Header-with_colorspace κs a z z' e e' ok ok' p q = (p ∙ sym q, refl)

pub header-Header-encode : Determined Header.encode.Kinds.ps Header.encode.Kinds.r Header.encode.Reads.Post
header-Header-encode κs a z z' e e' ok ok' p q = (p ∙ sym q, refl)

pub header-Header-decode : Determined Header.decode.Kinds.ps Header.decode.Kinds.r Header.decode.Reads.Post
header-Header-decode κs a z z' e e' ok ok' p q = (p ∙ sym q, refl)

pub header-Header-dimensions_fit : Determined Header.dimensions_fit.Kinds.ps Header.dimensions_fit.Kinds.r Header.dimensions_fit.Reads.Post
header-Header-dimensions_fit κs a z z' e e' ok ok' p q = (p ∙ sym q, refl)

pub header-Header-n_pixels : Determined Header.n_pixels.Kinds.ps Header.n_pixels.Kinds.r Header.n_pixels.Reads.Post
header-Header-n_pixels κs a z z' e e' ok ok' p q = (p ∙ sym q, refl)

pub header-Header-n_bytes : Determined Header.n_bytes.Kinds.ps Header.n_bytes.Kinds.r Header.n_bytes.Reads.Post
header-Header-n_bytes κs a z z' e e' ok ok' p q = (p ∙ sym q, refl)

pub header-Header-encode_max_len : Determined Header.encode_max_len.Kinds.ps Header.encode_max_len.Kinds.r Header.encode_max_len.Reads.Post
header-Header-encode_max_len κs a z z' e e' ok ok' p q = (p ∙ sym q, refl)

pub header-decode_header : Determined header.decode_header.Kinds.ps header.decode_header.Kinds.r header.decode_header.Reads.Post
header-decode_header κs a z z' e e' ok ok' p q = (p ∙ sym q, refl)

pub header-encode_max_len : Determined header.encode_max_len.Kinds.ps header.encode_max_len.Kinds.r header.encode_max_len.Reads.Post
header-encode_max_len κs a z z' e e' ok ok' p q = (p ∙ sym q, refl)

pub header-saturating_mul : Determined header.saturating_mul.Kinds.ps header.saturating_mul.Kinds.r header.saturating_mul.Reads.Post
header-saturating_mul κs a z z' e e' ok ok' p q = (p ∙ sym q, refl)

-- ---- crate `chunk`
pub chunk-read : Determined chunk.read.Kinds.ps chunk.read.Kinds.r chunk.read.Reads.Post
chunk-read κs a z z' e e' ok ok' p q = (found_determined z z' (p ∙ sym q), refl)

pub chunk-read_end : Determined chunk.read_end.Kinds.ps chunk.read_end.Kinds.r chunk.read_end.Reads.Post
chunk-read_end κs a z z' e e' ok ok' p q = (p ∙ sym q, refl)

pub chunk-alpha : Determined chunk.alpha.Kinds.ps chunk.alpha.Kinds.r chunk.alpha.Reads.Post
chunk-alpha κs a z z' e e' ok ok' p q = (p ∙ sym q, refl)

pub chunk-recolour : Determined chunk.recolour.Kinds.ps chunk.recolour.Kinds.r chunk.recolour.Reads.Post
chunk-recolour κs a z z' e e' ok ok' p q = (unpacked_determined z z' ok ok' (p ∙ sym q), refl)

pub chunk-size : Determined chunk.size.Kinds.ps chunk.size.Kinds.r chunk.size.Reads.Post
chunk-size κs a z z' e e' ok ok' p q = (p ∙ sym q, refl)

-- ---- crate `walk`
pub walk-walk : Determined walk.walk.Kinds.ps walk.walk.Kinds.r walk.walk.Reads.Post
walk-walk κs a z z' e e' ok ok' p q =
    let same = walk_determined z z' e.1.1.1.1.1.0 e'.1.1.1.1.1.0 (p ∙ sym q) in
    (same.0, λ i. (tt, (tt, (tt, (tt, (tt, (same.1 i, (tt, tt))))))))

pub walk-whole : Determined walk.whole.Kinds.ps walk.whole.Kinds.r walk.whole.Reads.Post
walk-whole κs a z z' e e' ok ok' p q =
    let same = end_determined z z' e.1.1.1.0 e'.1.1.1.0 (p ∙ sym q) in
    (same.0, λ i. (tt, (tt, (tt, (same.1 i, tt)))))

pub walk-least : Determined walk.least.Kinds.ps walk.least.Kinds.r walk.least.Reads.Post
walk-least κs a z z' e e' ok ok' p q = (p ∙ sym q, refl)

-- ---- crate `resume`
pub resume-Decoder-idle : Determined Decoder.idle.Kinds.ps Decoder.idle.Kinds.r Decoder.idle.Reads.Post
resume-Decoder-idle κs a z z' e e' ok ok' p q = (state_determined z z' (p ∙ sym q), refl)

pub resume-Decoder-start : Determined Decoder.start.Kinds.ps Decoder.start.Kinds.r Decoder.start.Reads.Post
resume-Decoder-start κs a z z' e e' ok ok' p q =
    (started_determined z z' (p.0 ∙ sym q.0) (p.1 ∙ sym q.1), refl)

pub resume-Decoder-take_up : Determined Decoder.take_up.Kinds.ps Decoder.take_up.Kinds.r Decoder.take_up.Reads.Post
resume-Decoder-take_up κs a z z' e e' ok ok' p q =
    (started_determined z z' (p.0 ∙ sym q.0) (p.1 ∙ sym q.1), refl)

pub resume-Decoder-step : Determined Decoder.step.Kinds.ps Decoder.step.Kinds.r Decoder.step.Reads.Post
resume-Decoder-step κs a z z' e e' ok ok' p q =
    let same = ran_determined z z' e.1.1.0 e'.1.1.0 (p ∙ sym q) in
    (same.0, λ i. (tt, (tt, (same.1 i, tt))))

pub resume-Decoder-run : Determined Decoder.run.Kinds.ps Decoder.run.Kinds.r Decoder.run.Reads.Post
resume-Decoder-run κs a z z' e e' ok ok' p q =
    let same = ran_determined z z' e.1.1.0 e'.1.1.0 (p ∙ sym q) in
    (same.0, λ i. (tt, (tt, (same.1 i, (tt, tt)))))

pub resume-Decoder-write_record : Determined Decoder.write_record.Kinds.ps Decoder.write_record.Kinds.r Decoder.write_record.Reads.Post
resume-Decoder-write_record κs a z z' e e' ok ok' p q =
    let out = p.1 ∙ sym q.1 in
    (p.0 ∙ sym q.0, λ i. (tt, (out i, tt)))

pub resume-Decoder-record_len : Determined Decoder.record_len.Kinds.ps Decoder.record_len.Kinds.r Decoder.record_len.Reads.Post
resume-Decoder-record_len κs a z z' e e' ok ok' p q = (p ∙ sym q, refl)

pub resume-Decoder-header : Determined Decoder.header.Kinds.ps Decoder.header.Kinds.r Decoder.header.Reads.Post
resume-Decoder-header κs a z z' e e' ok ok' p q = (p ∙ sym q, refl)

pub resume-Decoder-channels : Determined Decoder.channels.Kinds.ps Decoder.channels.Kinds.r Decoder.channels.Reads.Post
resume-Decoder-channels κs a z z' e e' ok ok' p q = (p ∙ sym q, refl)

pub resume-Decoder-number : Determined Decoder.number.Kinds.ps Decoder.number.Kinds.r Decoder.number.Reads.Post
resume-Decoder-number κs a z z' e e' ok ok' p q = (p ∙ sym q, refl)

pub resume-Decoder-required_buf_len : Determined Decoder.required_buf_len.Kinds.ps Decoder.required_buf_len.Kinds.r Decoder.required_buf_len.Reads.Post
resume-Decoder-required_buf_len κs a z z' e e' ok ok' p q = (p ∙ sym q, refl)

-- ---- crate `decode`
pub decode-decode : Determined decode.decode.Kinds.ps decode.decode.Kinds.r decode.decode.Reads.Post
decode-decode κs a z z' e e' ok ok' p q =
    let out = p.1 ∙ sym q.1 in
    (answer_determined z z' (p.0 ∙ sym q.0), λ i. (tt, (tt, (out i, tt))))

pub decode-decode_to_buf : Determined decode.decode_to_buf.Kinds.ps decode.decode_to_buf.Kinds.r decode.decode_to_buf.Reads.Post
decode-decode_to_buf κs a z z' e e' ok ok' p q =
    let out = p.1 ∙ sym q.1 in
    (p.0 ∙ sym q.0, λ i. (out i, (tt, tt)))

-- a part is where it lies and what stands there; the name by which the checker tracks it is no part of a program
pub decode-rest :
    DeterminedBy decode.rest.Kinds.ps decode.rest.Kinds.r (λ κs z z'. (z.ref_ptr ≡ z'.ref_ptr) × (z.now ≡ z'.now))
    decode.rest.Reads.Post
decode-rest κs a z z' e e' ok ok' p q =
    ((p.0 ∙ sym q.0, p.1 ∙ sym q.1), refl)

-- ---- crate `encode`
pub encode-Encoder-new : Determined Encoder.new.Kinds.ps Encoder.new.Kinds.r Encoder.new.Reads.Post
encode-Encoder-new κs a z z' e e' ok ok' p q = (p ∙ sym q, refl)

pub encode-Encoder-with_colorspace : Determined Encoder.with_colorspace.Kinds.ps Encoder.with_colorspace.Kinds.r Encoder.with_colorspace.Reads.Post
encode-Encoder-with_colorspace κs a z z' e e' ok ok' p q = (p ∙ sym q, refl)

pub encode-Encoder-channels : Determined Encoder.channels.Kinds.ps Encoder.channels.Kinds.r Encoder.channels.Reads.Post
encode-Encoder-channels κs a z z' e e' ok ok' p q = (p ∙ sym q, refl)

pub encode-Encoder-header : Determined Encoder.header.Kinds.ps Encoder.header.Kinds.r Encoder.header.Reads.Post
encode-Encoder-header κs a z z' e e' ok ok' p q = (p ∙ sym q, refl)

pub encode-Encoder-required_buf_len : Determined Encoder.required_buf_len.Kinds.ps Encoder.required_buf_len.Kinds.r Encoder.required_buf_len.Reads.Post
encode-Encoder-required_buf_len κs a z z' e e' ok ok' p q = (p ∙ sym q, refl)

pub encode-Encoder-encode_to_buf : Determined Encoder.encode_to_buf.Kinds.ps Encoder.encode_to_buf.Kinds.r Encoder.encode_to_buf.Reads.Post
encode-Encoder-encode_to_buf κs a z z' e e' ok ok' p q =
    let out = p.1 ∙ sym q.1 in
    (encoded_determined z z' (p.0 ∙ sym q.0), λ i. (tt, (tt, (out i, tt))))

pub encode-encode : Determined encode.encode.Kinds.ps encode.encode.Kinds.r encode.encode.Reads.Post
encode-encode κs a z z' e e' ok ok' p q =
    let out = p.1 ∙ sym q.1 in
    (encoded_determined z z' (p.0 ∙ sym q.0), λ i. (tt, (tt, (tt, (tt, (out i, tt))))))

pub encode-encode_to_buf : Determined encode.encode_to_buf.Kinds.ps encode.encode_to_buf.Kinds.r encode.encode_to_buf.Reads.Post
encode-encode_to_buf κs a z z' e e' ok ok' p q =
    let out = p.1 ∙ sym q.1 in
    (encoded_determined z z' (p.0 ∙ sym q.0), λ i. (out i, (tt, (tt, (tt, tt)))))

-- ---- crate `strict`
pub strict-strict : Determined strict.strict.Kinds.ps strict.strict.Kinds.r strict.strict.Reads.Post
strict-strict κs a z z' e e' ok ok' p q = (verdict_determined z z' (p ∙ sym q), refl)

-- ---- crate `totals`
pub totals-count : Determined totals.count.Kinds.ps totals.count.Kinds.r totals.count.Reads.Post
totals-count κs a z z' e e' ok ok' p q =
    let same = p.0 ∙ sym q.0 in
    let frame = p.1 ∙ sym q.1 in
    let sums = ap (λ (o : Outcome). o.table.totals) same in
    let marks = ap (λ (o : Outcome). o.table.marks) same in
    (ap (λ (o : Outcome). o.answer) same, λ i. (tt, (tt, (frame i, (sums i, (marks i, tt))))))

-- ---- crate `report`
pub report-line : Determined report.line.Kinds.ps report.line.Kinds.r report.line.Reads.Post
report-line κs a z z' e e' ok ok' p q =
    let out = p.1 ∙ sym q.1 in
    (p.0 ∙ sym q.0, λ i. (tt, (out i, tt)))

pub report-print_line : Determined report.print_line.Kinds.ps report.print_line.Kinds.r report.print_line.Reads.Post
report-print_line κs a z z' e e' ok ok' p q = (p ∙ sym q, refl)

-- ---- crate `qoi`, for hosts
pub qoi-pivotshade_header : Determined qoi.pivotshade_header.Kinds.ps qoi.pivotshade_header.Kinds.r qoi.pivotshade_header.Reads.Post
qoi-pivotshade_header κs a z z' e e' ok ok' p q =
    let same = p ∙ sym q in
    (returned_same same, λ i. (tt, (figures_same same i, tt)))

pub qoi-pivotshade_decode : Determined qoi.pivotshade_decode.Kinds.ps qoi.pivotshade_decode.Kinds.r qoi.pivotshade_decode.Reads.Post
qoi-pivotshade_decode κs a z z' e e' ok ok' p q =
    let same = p.0 ∙ sym q.0 in
    let out = p.1 ∙ sym q.1 in
    (returned_same same, λ i. (tt, (tt, (out i, (figures_same same i, tt)))))

pub qoi-pivotshade_encode : Determined qoi.pivotshade_encode.Kinds.ps qoi.pivotshade_encode.Kinds.r qoi.pivotshade_encode.Reads.Post
qoi-pivotshade_encode κs a z z' e e' ok ok' p q =
    let same = p.0 ∙ sym q.0 in
    let out = p.1 ∙ sym q.1 in
    (returned_same same, λ i. (tt, (tt, (tt, (tt, (out i, (figures_same same i, tt)))))))

pub qoi-pivotshade_strict : Determined qoi.pivotshade_strict.Kinds.ps qoi.pivotshade_strict.Kinds.r qoi.pivotshade_strict.Reads.Post
qoi-pivotshade_strict κs a z z' e e' ok ok' p q =
    let same = p ∙ sym q in
    (returned_same same, λ i. (tt, (figures_same same i, tt)))

pub qoi-pivotshade_start : Determined qoi.pivotshade_start.Kinds.ps qoi.pivotshade_start.Kinds.r qoi.pivotshade_start.Reads.Post
qoi-pivotshade_start κs a z z' e e' ok ok' p q =
    let same = p.0 ∙ sym q.0 in
    let recorded = p.1 ∙ sym q.1 in
    (returned_same same, λ i. (tt, (tt, (tt, (recorded i, (figures_same same i, tt))))))

pub qoi-pivotshade_run : Determined qoi.pivotshade_run.Kinds.ps qoi.pivotshade_run.Kinds.r qoi.pivotshade_run.Reads.Post
qoi-pivotshade_run κs a z z' e e' ok ok' p q =
    let same = p.0 ∙ sym q.0 in
    let out = p.1.0 ∙ sym q.1.0 in
    let next = p.1.1 ∙ sym q.1.1 in
    (returned_same same, λ i. (tt, (tt, (tt, (out i, (tt, (next i, (figures_same same i, tt))))))))

pub qoi-pivotshade_count : Determined qoi.pivotshade_count.Kinds.ps qoi.pivotshade_count.Kinds.r qoi.pivotshade_count.Reads.Post
qoi-pivotshade_count κs a z z' e e' ok ok' p q =
    let same = p.0 ∙ sym q.0 in
    let frame = p.1 ∙ sym q.1 in
    let sums = p.2 ∙ sym q.2 in
    let marks = p.3 ∙ sym q.3 in
    (returned_same same, λ i. (tt, (tt, (frame i, (sums i, (marks i, (figures_same same i, tt)))))))

pub qoi-pivotshade_text : Determined qoi.pivotshade_text.Kinds.ps qoi.pivotshade_text.Kinds.r qoi.pivotshade_text.Reads.Post
qoi-pivotshade_text κs a z z' e e' ok ok' p q =
    let same = p.0 ∙ sym q.0 in
    let out = p.1 ∙ sym q.1 in
    (returned_same same, λ i. (tt, (tt, (out i, (figures_same same i, tt)))))
