-- The loop over the chunks: what holds at its head, what a chunk makes of it, and how it ends.
-- Assumes nothing.
use Rattle.std.specs.Prelude.{Ok, Option, Some, None}
use mathlib.Core.Path.{◌≡◌, refl, sym, ◌∙◌, ap}
use mathlib.Core.List.{List}
use Prim.Native.Nat.{ℕ, zero, suc, ◌+◌, ◌-◌, ◌≤◌, ◌<◌}
use native.Mathlib.Omega.{arith}
use borrow.Author.Tests.{ne_eqb, le-leb, lt-leb}
use lib.ListN.{length, take, drop, length-drop}
use Rattle.pixel.specs.declared.error.Error.TheVariants.{InvalidPadding, RunPastImage}
use Rattle.pixel.specs.Refusal.{ended_early}
use Rattle.pixel.specs.Types.{channels_number}
use Rattle.header.specs.declared.Header.{Header}
use Rattle.header.specs.Header.{pixel_count, header_of}
use Rattle.header.proofs.Laws.{header_accepted, pixels_small}
use Rattle.rules.specs.Chunk.{Chunk, chunk, chunk_at, times_of, size_of, INDEX, DIFF, LUMA, RUN, RGB, RGBA}
use Rattle.rules.specs.Chunk as rules
use Rattle.rules.specs.Reading.{closing}
use Rattle.rules.specs.Decode.{decoder_reads_rgba}
use Rattle.rules.specs.Strict.{rejected, Tally, check_on, strict_closed, strict_closing, strict_counted, strict_by, strict_move, strict_from, strict_header, strict}
use Rattle.rules.proofs.ChunkLaws.{Sound, sound_of, sound_found}
use Rattle.rules.proofs.PastingLaws.{whole_tail}
use Rattle.chunk.specs.declared.Colour.{Colour}
use Rattle.chunk.specs.declared.Colour.TheVariants as colour
use Rattle.chunk.specs.declared.Found.{Found}
use Rattle.chunk.specs.declared.Found.TheVariants as found
use Rattle.chunk.specs.Found.{found_of, chunk_of}
use Rattle.strict.specs.Asked.{tally_at, Head}

-- what stands at a place of the message
abbrev chunk_here : Header → List ℕ → ℕ → rules.Found
chunk_here header message at = chunk_at (decoder_reads_rgba (channels_number header.channels)) (drop at message)

module _ (header : Header) (message : List ℕ) where
  -- the reader's answer is that
  abbrev pub Holds : ℕ → Option Found → Type 0
  Holds at r = chunk_here header message at ≡ found_of r

  -- what the reader found in the part from a place on
  pub finds :
      (at : ℕ) (r r' : Option Found) → r ≡ r'
      → found_of r
      ≡ chunk_at (decoder_reads_rgba (channels_number header.channels)) (take (length message - at) (drop at message))
      → Holds at r'
  finds at r r' told e = rw (← whole_tail message at) (sym e ∙ ap found_of told)

  -- before the first chunk
  pub begins :
      header_of message ≡ Ok header → (left : ℕ) → left ≡ pixel_count header
      → Head header message (pixel_count header) left 14 0
  unfolding strict strict_header
  begins reads left counted =
      let ok = header_accepted message header reads in
      record {
        small = pixels_small header ok.fit;
        inside = ok.whole;
        ahead = omega arith;
        same = rw (reads, counted)
            (ap (λ (n : ℕ). strict_from header message n (tally_at 14 (pixel_count header) 0)) (omega arith));
      }

module _ {header : Header} {message : List ℕ} {pixels left at chunks : ℕ}
    (h : Head header message pixels left at chunks) where
  abbrev here : Tally
  here = tally_at at left chunks

  sound : (k : Chunk) → chunk_here header message at ≡ chunk k → Sound (drop at message) k
  sound k f = sound_of (rw f at (sound_found (decoder_reads_rgba (channels_number header.channels)) (drop at message)))

  -- a chunk lies within the message
  pub within :
      (r : Option Found) (k : Chunk) → found_of r ≡ chunk k → Holds header message at r → at + size_of k ≤ length message
  within r k is f = omega (arith, h.inside, simp length-drop at (sound k (f ∙ is)).fits)

  -- a run counts a pixel
  pub run_some : (times : ℕ) → Holds header message at (Some (found.Run times)) → 1 ≤ times
  unfolding times_of
  run_some times f = (sound (RUN times) f).once

  -- with no pixel left, the end
  pub ends : left ≡ 0 → strict message ≡ strict_closed header message chunks (closing 0 message at)
  unfolding strict_from strict_move strict_closing
  ends none = h.same ∙ go (pixels - chunks)
    where
      go : (n : ℕ) → strict_from header message n here ≡ strict_closed header message chunks (closing 0 message at)
      go zero = refl
      go (suc n) = rw none

  module _ (turn : 0 < left) where
    -- one move of the check
    moved :
        (r : Option Found) → Holds header message at r
        → strict message
        ≡ check_on (strict_from header message (pixels - (chunks + 1))) (strict_by header message here (found_of r))
    unfolding strict_from strict_move
    moved r f =
        let more : pixels - chunks ≡ suc (pixels - (chunks + 1)) = omega (arith, h.ahead) in
        let some = ne_eqb left 0 (λ z. omega arith) in
        h.same ∙ rw (more, some, f)

    -- a chunk that is cut short
    pub ends_cut : Holds header message at None → strict message ≡ rejected ended_early
    unfolding strict_by
    ends_cut f = moved None f

    -- an ff that is stuck: of the chunks of colour it alone takes no byte
    pub ends_stuck :
        (c : Colour) → Holds header message at (Some (found.Colour c)) → size_of (chunk_of c) ≡ 0
        → strict message ≡ rejected InvalidPadding
    unfolding strict_by size_of
    ends_stuck (colour.Diff r g b) f none = absurd (omega arith)
    ends_stuck (colour.Luma g r b) f none = absurd (omega arith)
    ends_stuck (colour.Rgb r g b) f none = absurd (omega arith)
    ends_stuck (colour.Rgba r g b a) f none = absurd (omega arith)
    ends_stuck colour.Stuck f none = moved (Some (found.Colour colour.Stuck)) f

    -- a run that is too long
    pub ends_run :
        (times : ℕ) → Holds header message at (Some (found.Run times)) → left < times
        → strict message ≡ rejected RunPastImage
    unfolding strict_by strict_counted times_of
    ends_run times f long = moved (Some (found.Run times)) f ∙ rw (lt-leb times left long)

    -- a chunk that fits: the check goes on after it
    advance :
        (r : Option Found) → Holds header message at r → (k : Chunk) → found_of r ≡ chunk k
        → strict_by header message here (chunk k) ≡ strict_counted header message here k → times_of k ≤ left
        → Head header message pixels (left - times_of k) (at + size_of k) (chunks + 1)
    unfolding strict_counted
    advance r f k is counted fits =
        record {
          small = h.small;
          inside = within r k is f;
          ahead = omega (arith, h.ahead, (sound k (f ∙ is)).once);
          same = moved r f ∙ rw (is, counted, le-leb (times_of k) left fits);
        }

    pub after_index :
        (slot : ℕ) → Holds header message at (Some (found.Index slot))
        → Head header message pixels (left - 1) (at + 1) (chunks + 1)
    unfolding strict_by times_of size_of
    after_index slot f = advance (Some (found.Index slot)) f (INDEX slot) refl refl turn

    pub after_run :
        (times : ℕ) → Holds header message at (Some (found.Run times)) → times ≤ left
        → Head header message pixels (left - times) (at + 1) (chunks + 1)
    unfolding strict_by times_of size_of
    after_run times f fits = advance (Some (found.Run times)) f (RUN times) refl refl fits

    pub after_colour :
        (c : Colour) → Holds header message at (Some (found.Colour c)) → 0 < size_of (chunk_of c)
        → Head header message pixels (left - 1) (at + size_of (chunk_of c)) (chunks + 1)
    unfolding strict_by times_of size_of
    after_colour (colour.Diff r g b) f some = advance (Some (found.Colour (colour.Diff r g b))) f (DIFF r g b) refl refl turn
    after_colour (colour.Luma g r b) f some = advance (Some (found.Colour (colour.Luma g r b))) f (LUMA g r b) refl refl turn
    after_colour (colour.Rgb r g b) f some = advance (Some (found.Colour (colour.Rgb r g b))) f (RGB r g b) refl refl turn
    after_colour (colour.Rgba r g b a) f some = advance (Some (found.Colour (colour.Rgba r g b a))) f (RGBA r g b a) refl refl turn
    after_colour colour.Stuck f some = absurd (omega arith)
