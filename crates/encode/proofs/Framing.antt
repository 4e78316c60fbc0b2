-- Header, chunks and marker put one after another are the stream.
-- Assumes nothing.
use mathlib.Core.Path.{◌≡◌, refl, sym, ◌∙◌, ap}
use mathlib.Core.List.{List, [], ◌++◌, append-nil}
use Prim.Native.Nat.{ℕ, ◌+◌, ◌≤◌}
use native.Mathlib.Omega.{arith}
use lib.ListN.{length}
use Rattle.pixel.specs.Types.{channels_number}
use Rattle.header.specs.declared.Header.{Header}
use Rattle.header.specs.Header.{pixel_count, header_bytes}
use Rattle.header.proofs.Laws.{header_length}
use Rattle.rules.specs.Bytes.{pasted, Puts}
use Rattle.rules.specs.Encode.{chunks_of, stream_of}
use Rattle.rules.specs.Reading.{marker}
use Rattle.encode.specs.Asked.{Fits, Framed, picture_bytes}
use Rattle.encode.proofs.Loop.{Pending, reworded, first_fits, advance, ended_at}

module _ (header : Header) (pixels out : List ℕ) (f : Framed header pixels out) {fourteen : List ℕ} (is : fourteen ≡ header_bytes header) where
  abbrev Left : ℕ → List ℕ → List ℕ → Type 0
  Left at rest now = Pending (length out) (0 + length (stream_of header pixels)) (pasted 0 (stream_of header pixels) out) at rest now

  abbrev chunk_bytes_of : List ℕ
  chunk_bytes_of = picture_bytes (pixel_count header) (channels_number header.channels) pixels

  header_pending : Left 0 (fourteen ++ (chunk_bytes_of ++ marker)) out
  unfolding stream_of chunks_of
  header_pending =
      reworded (ap (λ (l : List ℕ). l ++ (chunk_bytes_of ++ marker)) (sym is))
      (record { long = refl; room = omega (arith, f.room); ends = refl; makes = refl })

  pub fourteen_long : length fourteen ≡ 14
  fourteen_long = ap length is ∙ header_length header

  pub header_fits : 14 ≤ length out
  header_fits = omega (arith, first_fits fourteen _ header_pending, fourteen_long)

  module _ {start : ℕ} {out₁ : List ℕ} (begun : Puts 0 fourteen out start out₁) where
    chunks_pending : Left start (chunk_bytes_of ++ marker) out₁
    chunks_pending = advance fourteen _ header_pending start out₁ begun

    pub chunks_fit : Fits pixels (pixel_count header) (channels_number header.channels) out₁ start
    chunks_fit = record { many = f.many; room = first_fits chunk_bytes_of marker chunks_pending }

    module _ {end : ℕ} {out₂ : List ℕ} (put : Puts start chunk_bytes_of out₁ end out₂) where
      marker_pending : Left end (marker ++ []) out₂
      marker_pending = reworded (sym (append-nil marker)) (advance chunk_bytes_of marker chunks_pending end out₂ put)

      pub marker_fits : end + 8 ≤ length out₂
      marker_fits = first_fits marker [] marker_pending

      pub framed : {after : ℕ} {out₃ : List ℕ} → Puts end marker out₂ after out₃ → Puts 0 (stream_of header pixels) out after out₃
      framed closed = ended_at (advance marker [] marker_pending _ _ closed)
