-- The strict check for the calls, proved: what it accepts the decodes accept, what must be accepted is, and what encode
-- wrote is.
-- Assumes nothing.
use Rattle.std.specs.Prelude.{Ok}
use mathlib.Core.Path.{◌≡◌, refl, sym, ◌∙◌, ap}
use mathlib.Core.List.{List, [], ◌∷◌}
use Prim.Native.Nat.{ℕ}
use native.Mathlib.Omega.{arith}
use contract.Lifetimes.{Lfts}
use denote.Triple.Clauses.{Lasts}
use borrow.Fn.Kinds.{Dens, res_t, ended_of}
use lib.Dec.{T}
use lib.ListN.{length, take, drop}
use lib.Seq.{drop-length}
use Rattle.pixel.specs.Bytes.{AllBytes}
use Rattle.pixel.specs.Refusal.{number_of}
use Rattle.header.specs.declared.Header.{Header}
use Rattle.header.specs.Header.{header_of}
use Rattle.rules.specs.Bytes.{written_over}
use Rattle.rules.specs.Reading.{done}
use Rattle.rules.specs.Decode.{decoding, rest_of}
use Rattle.rules.specs.Encode.{encoded, chunks_of, encoding}
use Rattle.rules.specs.Strict.{accepted, rejected, strict, runs_fit, chunk_count}
use Rattle.rules.specs.Strict as rules
use Rattle.rules.specs.Figures.{answer_figures, strict_figures}
use Rattle.demands.specs.Strict.{Passes}
use Rattle.demands.proofs.Strict.{strict_accepts, strict_must_accept}
use Rattle.demands.proofs.Streams.{encode_writes_strictly}
use Rattle.demands.proofs.Traced.{stream_opens}
use Rattle.decode.specs.Decoded.{answer_of, decoded}
use Rattle.encode.specs.Encoded as encode
use Rattle.strict.specs.Checked.{verdict_of, passes}
use Rattle.strict.proofs as checks
use Rattle.qoi.specs.Hosted.{IsStrict}
use Rattle.qoi.proofs as qoi
use Rattle.promises.specs.Determined.{Allows}
use Rattle.promises.specs.Pictures.{says_done}
use Rattle.promises.specs.Strict.{Decodable, StrictAccepts, HostStrictAccepts, StrictMustAccept, HostStrictMustAccept, EncodeIsStrict, HostEncodeIsStrict}
use Rattle.promises.proofs.Hosts.{number_small}
use Rattle.promises.proofs.OneToOne.{answer_determined, verdict_determined}
use Rattle.promises.proofs.Pictures.{front, encode_said, decode_said}

-- the decodes accept what passes
decodable :
    (m : List ℕ) (header : Header) (chunks bytes : ℕ) → Passes m header chunks bytes
    → Decodable m header chunks bytes
decodable m header chunks bytes p =
    record {
      header_is = p.reads;
      decode_accepts = λ c before r after fits allowed.
          answer_determined r (decoded _ bytes) (allowed.0 ∙ p.decodes c (length before) fits);
      host_accepts = λ c before figures left fits allowed.
          allowed.0 ∙ ap answer_figures (p.decodes c (length before) fits);
      runs_fit = p.runs;
      whole = p.whole;
      chunks_are = p.counts;
    }

pub strict_call_accepts : (m : List ℕ) → StrictAccepts m
strict_call_accepts m s header chunks bytes allowed is =
    decodable m header chunks bytes (strict_accepts m header chunks bytes (sym allowed ∙ ap verdict_of is))

pub host_strict_accepts : (m : List ℕ) → HostStrictAccepts m
host_strict_accepts m figures chunks bytes allowed is = go (strict m) refl (sym allowed ∙ is)
  where
    go :
        (v : rules.StrictAnswer) → strict m ≡ v → strict_figures v ≡ says_done chunks bytes
        → (header : Header) × Decodable m header chunks bytes
    go (accepted header k n) e said =
        let same : accepted header k n ≡ accepted header chunks bytes = cc in
        (header, decodable m header chunks bytes (strict_accepts m header chunks bytes (e ∙ same)))
    go (rejected x) e said = let z : number_of x ≡ 0 = cc in absurd (omega (arith, (number_small x).0))

-- a decode that is accepted, where the runs fit and every byte is used
must_pass :
    (m : List ℕ) (wanted room size used : ℕ) → (decoding m wanted room).answer ≡ done size used
    → T (runs_fit m) → used ≡ length m
    → (header : Header) × (header_of m ≡ Ok header) × (strict m ≡ accepted header (chunk_count m) used)
unfolding rest_of
must_pass m wanted room size used decodes runs all =
    let nothing : drop used m ≡ [] = rw all (drop-length m) in
    strict_must_accept m wanted room size used decodes runs nothing

pub strict_call_must_accept : (m : List ℕ) → StrictMustAccept m
strict_call_must_accept m wanted size used before r after allowed is runs all s checked =
    let passed = must_pass m wanted (length before) size used (sym allowed.0 ∙ ap answer_of is) runs all in
    (passed.0, passed.1, verdict_determined s (passes passed.0 (chunk_count m) used) (checked ∙ passed.2))

pub host_strict_must_accept : (m : List ℕ) → HostStrictMustAccept m
host_strict_must_accept m wanted size used before figures left allowed is runs all checked strictly =
    let decodes = decode_said _ size used (sym allowed.0 ∙ is) in
    let passed = must_pass m wanted (length before) size used decodes runs all in
    strictly ∙ ap strict_figures passed.2

module _ (picture : List ℕ) (width height : ℕ) where
  -- an accepted encode, by its answer and its bytes: what the strict check says of them
  written_strictly :
      AllBytes picture → (colorspace : ℕ) (before after : List ℕ) (size : ℕ)
      → (encoding picture width height colorspace (length before)).answer ≡ encoded size
      → after ≡ written_over (encoding picture width height colorspace (length before)).bytes before
      → (header : Header) × (header_of (take size after) ≡ Ok header)
      × (strict (take size after) ≡ accepted header (length (chunks_of header picture)) size)
  written_strictly bytes colorspace before after size said left =
      let strictly = encode_writes_strictly picture width height colorspace (length before) size bytes said in
      let wrote = strictly.wrote in
      let stream = (encoding picture width height colorspace (length before)).bytes in
      let opens = ap header_of wrote.stream_is ∙ stream_opens wrote.header picture wrote.picture_is.fit in
      rw (front stream before after size left wrote.all) (wrote.header, opens, strictly.strict_accepts)

  pub encode_call_is_strict : EncodeIsStrict picture width height
  encode_call_is_strict bytes colorspace before r after size allowed is s checked =
      let said = sym allowed.0 ∙ ap encode.answer_of is in
      let written = written_strictly bytes colorspace before after size said allowed.1 in
      (written.0, written.1, verdict_determined s (passes written.0 _ size) (checked ∙ written.2))

  pub host_encode_is_strict : HostEncodeIsStrict picture width height
  host_encode_is_strict bytes colorspace before figures left size allowed is checked strictly =
      let said = encode_said _ size (sym allowed.0 ∙ is) in
      let written = written_strictly bytes colorspace before left size said allowed.1 in
      (written.0, written.1, strictly ∙ ap strict_figures written.2)

-- `verdict_of s ≡ strict m` and `IsStrict` are the contracts, as the checker reads them off the sources
pub strict_contract :
    (κs : Lfts 1) (a : Dens κs checks.strict.Kinds.ps) (z : (res_t checks.strict.Kinds.r κs).Denot)
    (e : Lasts (ended_of 1 checks.strict.Kinds.ps checks.strict.Kinds.r) κs a)
    → Allows checks.strict.Kinds.ps checks.strict.Kinds.r checks.strict.Reads.Post κs a z e
    → verdict_of z ≡ strict a.0.now
strict_contract κs a z e allowed = allowed

pub host_strict_contract :
    (κs : Lfts 2) (a : Dens κs qoi.pivotshade_strict.Kinds.ps) (z : (res_t qoi.pivotshade_strict.Kinds.r κs).Denot)
    (e : Lasts (ended_of 2 qoi.pivotshade_strict.Kinds.ps qoi.pivotshade_strict.Kinds.r) κs a)
    → Allows qoi.pivotshade_strict.Kinds.ps qoi.pivotshade_strict.Kinds.r qoi.pivotshade_strict.Reads.Post κs a z e
    → IsStrict a.0.now (z ∷ e.1.0)
host_strict_contract κs a z e allowed = allowed
