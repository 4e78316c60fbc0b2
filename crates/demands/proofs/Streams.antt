-- The encoder's streams: the strict check accepts every one, with its chunks and its bytes, and each keeps the
-- condition of (b); so does whatever an encode that is accepted wrote.
-- Assumes nothing.
use mathlib.Core.Path.{◌≡◌, sym, ◌∙◌, ap}
use mathlib.Core.List.{List}
use Prim.Native.Nat.{ℕ}
use native.Mathlib.Omega.{arith}
use lib.Dec.{T}
use lib.ListN.{length}
use lib.Seq.{drop-length}
use Rattle.pixel.specs.Bytes.{AllBytes, pixels_from}
use Rattle.pixel.specs.Types.{channels_number}
use Rattle.header.specs.declared.Header.{Header}
use Rattle.header.specs.Header.{pixel_count}
use Rattle.rules.specs.Reading.{start_place}
use Rattle.rules.specs.Decode.{rest_of}
use Rattle.rules.specs.Trace.{own_channels}
use Rattle.rules.specs.Strict.{accepted, strict, runs_fit, chunk_count}
use Rattle.rules.specs.Document.{indexes_filled}
use Rattle.rules.specs.Encode.{PictureOf, chunks_of, stream_of, encoded, encoding}
use Rattle.rules.proofs.PictureLaws.{every_byte, pixels_whole}
use Rattle.demands.specs.Streams.{StrictAccepts, KeepsFilled, WroteStrictly}
use Rattle.demands.proofs.Strict.{strict_must_accept}
use Rattle.demands.proofs.Traced.{visits_count, visits_fit, stream_opens, stream_times, stream_traced}
use Rattle.demands.proofs.Filled.{start_filled}
use Rattle.demands.proofs.ReadBack.{reads_back}
use Rattle.demands.proofs.Wrote.{encode_wrote}

module _ (header : Header) (picture : List ℕ) (of : PictureOf header picture) (bytes : AllBytes picture) where
  -- no run of a stream is longer than the pixels left
  stream_runs_fit : T (runs_fit (stream_of header picture))
  stream_runs_fit =
      rw (stream_traced header picture of.fit bytes)
      (visits_fit header (chunks_of header picture) start_place (stream_times header picture of.fit))

  -- its chunks are those that the encoder chose
  stream_count : chunk_count (stream_of header picture) ≡ length (chunks_of header picture)
  stream_count =
      rw (stream_traced header picture of.fit bytes) (visits_count header (chunks_of header picture) start_place)

  -- the strict check accepts it
  pub stream_is_strict : StrictAccepts header picture
  unfolding rest_of
  stream_is_strict =
      let m = stream_of header picture in
      let back = reads_back header picture of.fit of.needed bytes in
      let passed =
      strict_must_accept m (own_channels header) (length picture) (length picture) (length m)
      (ap (λ r. r.answer) (back.decoder_is (length picture) (omega arith))) stream_runs_fit (drop-length m) in
      let same : passed.0 ≡ header = cc (passed.1, stream_opens header picture of.fit) in
      passed.2 ∙ rw (same, stream_count)

  -- no INDEX of it names a slot not yet filled
  pub stream_keeps_filled : KeepsFilled header picture
  unfolding indexes_filled chunks_of
  stream_keeps_filled =
      let n = channels_number header.channels in
      rw (stream_traced header picture of.fit bytes)
      (start_filled header (pixels_from (pixel_count header) n picture) (pixels_whole (pixel_count header) n picture (every_byte picture bytes)))

-- both are so of whatever an encode that is accepted wrote
pub encode_writes_strictly :
    (picture : List ℕ) (width height colorspace room size : ℕ) → AllBytes picture
    → (encoding picture width height colorspace room).answer ≡ encoded size
    → WroteStrictly picture (encoding picture width height colorspace room).bytes width height colorspace room size
encode_writes_strictly picture width height colorspace room size bytes e =
    let wrote = encode_wrote picture width height colorspace room size e in
    record {
      wrote = wrote;
      strict_accepts =
          ap strict wrote.stream_is
          ∙ stream_is_strict wrote.header picture wrote.picture_is bytes
          ∙ ap (accepted wrote.header (length (chunks_of wrote.header picture))) (sym (wrote.all ∙ ap length wrote.stream_is));
      filled = rw wrote.stream_is (stream_keeps_filled wrote.header picture wrote.picture_is bytes);
    }
