-- Demand 2 for the calls, proved: what encode wrote, the document's reading and decode give back as the picture, and
-- what decode answers is the document's.
-- Assumes nothing.
use mathlib.Core.Path.{◌≡◌, sym, ◌∙◌, ap}
use mathlib.Core.List.{List, [], ◌∷◌}
use Prim.Native.Nat.{ℕ, ◌+◌, ◌*◌, ◌/◌, ◌≤◌}
use native.Mathlib.Omega.{arith}
use contract.Lifetimes.{Lfts}
use denote.Triple.Clauses.{Lasts}
use borrow.Fn.Kinds.{Dens, res_t, ended_of}
use lib.ListN.{length, take, drop}
use lib.Seq.{take_at}
use Rattle.pixel.specs.Bytes.{AllBytes}
use Rattle.pixel.specs.Refusal.{number_of}
use Rattle.header.specs.declared.Header.{Header}
use Rattle.header.specs.Header.{header_of}
use Rattle.header.proofs.Laws.{channels_number_lem, space_number}
use Rattle.rules.specs.Bytes.{written_over}
use Rattle.rules.specs.Reading.{Reading, Answer, done, refused}
use Rattle.rules.specs.Encode.{PictureOf, EncodeAnswer, encoded, not_encoded, Encoding, encoding}
use Rattle.rules.specs.Figures.{header_figures, answer_figures, encode_figures}
use Rattle.demands.specs.ReadBack.{ReadBack}
use Rattle.demands.proofs.Document.{document_agrees}
use Rattle.demands.specs.Streams.{Wrote}
use Rattle.demands.proofs.ReadBack.{encode_reads_back}
use Rattle.demands.proofs.Traced.{stream_opens}
use Rattle.demands.proofs.Wrote.{encode_wrote, encode_must_accept}
use Rattle.decode.specs.Decoded.{answer_of, Decodes, decoded}
use Rattle.decode.proofs as decodes
use Rattle.encode.specs.Encoded as encode
use Rattle.encode.specs.Encoded.{Encodes}
use Rattle.encode.proofs as encodes
use Rattle.qoi.specs.Hosted.{IsEncode, IsDecode}
use Rattle.qoi.proofs as qoi
use Rattle.promises.specs.Determined.{Allows}
use Rattle.promises.specs.Hosts.{says}
use Rattle.promises.specs.Pictures.{says_done, Brings, EncodeReadsBack, HostReadsBack, EncodeAccepts, HostAccepts, DecodeIsDocument, HostIsDocument}
use Rattle.promises.proofs.Hosts.{number_small, host_takes_over}
use Rattle.promises.proofs.OneToOne.{answer_determined, encoded_determined}

-- a stream that is read back, and opens with its header, brings its picture
read_back_brings :
    {picture stream : List ℕ} {width height channels colorspace : ℕ}
    → header_figures (header_of stream) ≡ 0 ∷ width ∷ height ∷ channels ∷ colorspace ∷ [] → ReadBack picture stream channels
    → Brings picture stream width height channels colorspace
read_back_brings {picture} {stream} opens back =
    record {
      header_says = opens;
      document_reads = back.document_is;
      decode_brings = λ before r after fits allowed.
          let is = back.decoder_is (length before) fits in (
            answer_determined r (decoded (length picture) (length stream)) (allowed.0 ∙ ap (λ (x : Reading). x.answer) is),
            allowed.1 ∙ ap (λ (x : Reading). written_over x.bytes before) is,
          );
      host_brings = λ before figures left fits allowed.
          let is = back.decoder_is (length before) fits in
          (allowed.0 ∙ ap (λ (x : Reading). answer_figures x.answer) is, allowed.1 ∙ ap (λ (x : Reading). written_over x.bytes before) is);
      taken_over_brings = λ {number} {r} {o} {b} host fits steps next roomy ends.
          let is = back.decoder_is (length b) fits in
          let end = (host_takes_over host).ends_as_decode steps next roomy ends in (
            end.figures_are ∙ ap (λ (x : Reading). answer_figures x.answer) is,
            end.output_is ∙ ap (λ (x : Reading). written_over x.bytes b) is,
            end.next_stays,
          );
    }

-- the bytes written are the first of the output
pub front : (bytes before after : List ℕ) (size : ℕ) → after ≡ written_over bytes before → size ≡ length bytes → take size after ≡ bytes
front bytes before after size is all = rw (is) (take_at bytes (drop (0 + length bytes) before) size (sym all))

-- the figures of an accepted answer are no refusal's
pub encode_said : (answer : EncodeAnswer) (size : ℕ) → encode_figures answer ≡ says 0 size → answer ≡ encoded size
encode_said (encoded n) size said = cc
encode_said (not_encoded e) size said = let z : number_of e ≡ 0 = cc in absurd (omega (arith, (number_small e).0))

pub decode_said : (answer : Answer) (size used : ℕ) → answer_figures answer ≡ says_done size used → answer ≡ done size used
decode_said (done n k) size used said = cc
decode_said (refused e) size used said = let z : number_of e ≡ 0 = cc in absurd (omega (arith, (number_small e).0))

-- the header of what an encode wrote
opened :
    {picture stream : List ℕ} {width height colorspace room size : ℕ} → Wrote picture stream width height colorspace room size
    → header_figures (header_of stream) ≡ 0 ∷ width ∷ height ∷ length picture / (width * height) ∷ colorspace ∷ []
opened {picture} {stream} {width} {height} {colorspace} wrote =
    rw (wrote.stream_is, stream_opens wrote.header picture wrote.picture_is.fit, wrote.width_is, wrote.height_is, channels_number_lem (length picture / (width * height)) wrote.header.channels wrote.channels_are, space_number colorspace wrote.header.colorspace wrote.colorspace_is)

module _ (picture : List ℕ) (width height : ℕ) where
  -- an accepted encode, by its answer and its bytes
  brings :
      AllBytes picture → (colorspace : ℕ) (before after : List ℕ) (size : ℕ)
      → (encoding picture width height colorspace (length before)).answer ≡ encoded size
      → after ≡ written_over (encoding picture width height colorspace (length before)).bytes before
      → (size ≤ length before) × Brings picture (take size after) width height (length picture / (width * height)) colorspace
  brings bytes colorspace before after size accepted left =
      let wrote = encode_reads_back picture width height colorspace (length before) size bytes accepted in
      let stream = (encoding picture width height colorspace (length before)).bytes in
      let opens = opened (encode_wrote picture width height colorspace (length before) size accepted) in
      (wrote.fits, rw (front stream before after size left wrote.all) (read_back_brings opens wrote.back))

  -- (a) for encode
  pub encode_call_reads_back : EncodeReadsBack picture width height
  encode_call_reads_back bytes colorspace before r after size allowed is =
      brings bytes colorspace before after size (sym allowed.0 ∙ ap encode.answer_of is) allowed.1

  -- and for pivotshade_encode
  pub host_encode_reads_back : HostReadsBack picture width height
  host_encode_reads_back bytes colorspace before figures left size allowed is =
      brings bytes colorspace before left size (encode_said _ size (sym allowed.0 ∙ is)) allowed.1

-- an encode of a picture of a header is done
module _ (header : Header) (picture : List ℕ) (of : PictureOf header picture) where
  pub encode_call_accepts : EncodeAccepts header picture
  encode_call_accepts before r after roomy allowed =
      encoded_determined r _ (allowed.0 ∙ ap (λ (x : Encoding). x.answer) (encode_must_accept header picture of (length before) roomy))

  pub host_encode_accepts : HostAccepts header picture
  host_encode_accepts before figures left roomy allowed =
      allowed.0 ∙ ap (λ (x : Encoding). encode_figures x.answer) (encode_must_accept header picture of (length before) roomy)

-- (b) for decode
pub decode_call_is_document : (m : List ℕ) → DecodeIsDocument m
decode_call_is_document m header before r after size used reads filled allowed is =
    let same = document_agrees m header (length before) size used reads (sym allowed.0 ∙ ap answer_of is) filled in
    (allowed.0 ∙ ap (λ (x : Reading). x.answer) (sym same), allowed.1 ∙ ap (λ (x : Reading). written_over x.bytes before) (sym same))

-- and for pivotshade_decode
pub host_decode_is_document : (m : List ℕ) → HostIsDocument m
host_decode_is_document m header before figures left size used reads filled allowed is =
    let same = document_agrees m header (length before) size used reads (decode_said _ size used (sym allowed.0 ∙ is)) filled in
    (allowed.0 ∙ ap (λ (x : Reading). answer_figures x.answer) (sym same), allowed.1 ∙ ap (λ (x : Reading). written_over x.bytes before) (sym same))

-- `Encodes`, `Decodes`, `IsEncode` and `IsDecode` are the contracts, as the checker reads them off the sources
pub encode_contract :
    (κs : Lfts 2) (a : Dens κs encodes.encode.Kinds.ps) (z : (res_t encodes.encode.Kinds.r κs).Denot)
    (e : Lasts (ended_of 2 encodes.encode.Kinds.ps encodes.encode.Kinds.r) κs a)
    → Allows encodes.encode.Kinds.ps encodes.encode.Kinds.r encodes.encode.Reads.Post κs a z e
    → Encodes (encoding a.0.now a.1.0 a.1.1.0 a.1.1.1.0 (length a.1.1.1.1.0.now)) a.1.1.1.1.0.now z e.1.1.1.1.0
encode_contract κs a z e allowed = allowed

pub decode_contract :
    (κs : Lfts 2) (a : Dens κs decodes.decode.Kinds.ps) (z : (res_t decodes.decode.Kinds.r κs).Denot)
    (e : Lasts (ended_of 2 decodes.decode.Kinds.ps decodes.decode.Kinds.r) κs a)
    → Allows decodes.decode.Kinds.ps decodes.decode.Kinds.r decodes.decode.Reads.Post κs a z e
    → Decodes a.0.now a.1.0 a.1.1.0.now z e.1.1.0
decode_contract κs a z e allowed = allowed

pub host_encode_contract :
    (κs : Lfts 3) (a : Dens κs qoi.pivotshade_encode.Kinds.ps) (z : (res_t qoi.pivotshade_encode.Kinds.r κs).Denot)
    (e : Lasts (ended_of 3 qoi.pivotshade_encode.Kinds.ps qoi.pivotshade_encode.Kinds.r) κs a)
    → Allows qoi.pivotshade_encode.Kinds.ps qoi.pivotshade_encode.Kinds.r qoi.pivotshade_encode.Reads.Post κs a z e
    → IsEncode a.0.now a.1.0 a.1.1.0 a.1.1.1.0 a.1.1.1.1.0.now (z ∷ e.1.1.1.1.1.0) e.1.1.1.1.0
host_encode_contract κs a z e allowed = allowed

pub host_decode_contract :
    (κs : Lfts 3) (a : Dens κs qoi.pivotshade_decode.Kinds.ps) (z : (res_t qoi.pivotshade_decode.Kinds.r κs).Denot)
    (e : Lasts (ended_of 3 qoi.pivotshade_decode.Kinds.ps qoi.pivotshade_decode.Kinds.r) κs a)
    → Allows qoi.pivotshade_decode.Kinds.ps qoi.pivotshade_decode.Kinds.r qoi.pivotshade_decode.Reads.Post κs a z e
    → IsDecode a.0.now a.1.0 a.1.1.0.now (z ∷ e.1.1.1.0) e.1.1.0
host_decode_contract κs a z e allowed = allowed
