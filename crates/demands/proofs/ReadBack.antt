-- Against the document, (a): a stream of the encoder is read back as the picture, by the document's rules and by the
-- decoder's; so is whatever an encode that is accepted wrote.
-- Assumes nothing.
use mathlib.Core.Path.{◌≡◌, refl, ◌∙◌, ap}
use mathlib.Core.List.{List}
use Prim.Native.Nat.{ℕ, ◌*◌, ◌/◌, ◌≤◌, zero-le}
use native.Mathlib.Omega.{arith}
use borrow.Author.Tests.{le-ltb}
use lib.Dec.{T}
use lib.ListN.{length}
use Rattle.pixel.specs.Bytes.{AllBytes, pixels_from}
use Rattle.pixel.specs.Types.{channels_number}
use Rattle.header.specs.declared.Header.{Header}
use Rattle.header.specs.Header.{pixel_count, dimensions_fit}
use Rattle.header.proofs.Laws.{channels_number_lem, channels_read_back}
use Rattle.rules.specs.Bytes.{repeated}
use Rattle.rules.specs.Reading.{Way, size_wanted, start_place, remaining, reading_into, after_wanted, after_header, whole_reading}
use Rattle.rules.specs.Decode.{decoder}
use Rattle.rules.specs.Document.{document}
use Rattle.rules.specs.Encode.{start_pen, chunks_of, stream_of, encoded, encoding}
use Rattle.rules.proofs.PictureLaws.{every_byte, pixels_whole, pixels_count, pixels_written, three_at_least, stream_fits}
use Rattle.demands.specs.ReadBack.{picture_read, ReadBack, Encoded}
use Rattle.demands.proofs.PixelsRead.{pixels_read}
use Rattle.demands.proofs.Traced.{stream_opens, chunks_stand}
use Rattle.demands.proofs.Wrote.{encode_wrote}
use Rattle.demands.proofs.PenAndPlace.{Reads, document_reads, decoder_reads, start_meets}

module _ (header : Header) (picture : List ℕ) (fit : T (dimensions_fit header.width header.height))
    (size : length picture ≡ pixel_count header * channels_number header.channels) (bytes : AllBytes picture) where
  -- read by every way that reads an encoder's chunks
  module _ (way : Way) (reads : Reads way (channels_number header.channels)) where
    -- from the start place on
    chunks_read :
        remaining way header (channels_number header.channels) (stream_of header picture) start_place
        ≡ picture_read picture (stream_of header picture)
    unfolding start_pen start_place repeated chunks_of
    chunks_read =
        let n = channels_number header.channels in
        let ps = pixels_from (pixel_count header) n picture in
        pixels_read way header n refl (three_at_least header.channels) reads (stream_of header picture) ps start_pen start_place (start_meets n)
        (pixels_whole (pixel_count header) n picture (every_byte picture bytes)) zero-le (λ last. refl)
        (omega (arith, pixels_count (pixel_count header) n picture)) (chunks_stand header picture fit)
        ∙ rw (pixels_written header.channels (pixel_count header) picture size, size)

    -- into every room that holds the picture
    stream_read :
        (room : ℕ) → length picture ≤ room
        → whole_reading way (stream_of header picture) (channels_number header.channels) room ≡ picture_read picture (stream_of header picture)
    unfolding whole_reading after_header after_wanted reading_into
    stream_read room fits =
        rw (stream_opens header picture fit, channels_read_back header.channels, le-ltb room (size_wanted header (channels_number header.channels)) (omega arith))
        chunks_read

  -- the document's reading of the stream at the header's channels is the picture, and so is the decoder's
  pub reads_back : ReadBack picture (stream_of header picture) (channels_number header.channels)
  reads_back =
      record {
        document_is = stream_read document (document_reads (channels_number header.channels));
        decoder_is = stream_read decoder (decoder_reads header.channels);
      }

-- whatever the encoder accepts is read back as the picture
pub encode_reads_back :
    (picture : List ℕ) (width height colorspace room size : ℕ) → AllBytes picture
    → (encoding picture width height colorspace room).answer ≡ encoded size
    → Encoded picture (encoding picture width height colorspace room).bytes (length picture / (width * height)) room size
encode_reads_back picture width height colorspace room size bytes e =
    let wrote = encode_wrote picture width height colorspace room size e in
    let back = reads_back wrote.header picture wrote.picture_is.fit wrote.picture_is.needed bytes in
    record {
      all = wrote.all;
      fits = omega (arith, ap length wrote.stream_is, stream_fits wrote.header picture wrote.picture_is.fit bytes);
      back = rw wrote.stream_is (rw (channels_number_lem (length picture / (width * height)) wrote.header.channels wrote.channels_are) at back);
    }
