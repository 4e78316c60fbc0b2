-- Laws of a first byte ff: where it is read it is never stuck, where it is not it is never RGBA, and a reading that
-- meets a stuck one is refused.
-- Assumes nothing.
use mathlib.Core.Path.{◌≡◌, refl, sym, ◌∙◌}
use mathlib.Core.Bool.{Bool, true, false, cond, not}
use mathlib.Core.List.{List, [], ◌∷◌}
use Prim.{tt}
use Prim.Native.Nat.{ℕ, zero, suc, ◌≤◌, ◌<◌}
use native.Mathlib.Nat.{add-zero, lt_of_not-le}
use native.Mathlib.Decide.{dec_le}
use native.Mathlib.Omega.{arith}
use borrow.Author.Tests.{lt-ltb, le-ltb, ne_eqb}
use lib.Dec.{T, ltb, leb}
use lib.ListN.{length, get_or, take, drop}
use Rattle.pixel.specs.declared.error.Error.TheVariants.{InvalidPadding}
use Rattle.pixel.specs.Types.{channels_number}
use Rattle.header.specs.declared.Header.{Header}
use Rattle.header.specs.Header.{pixel_count}
use Rattle.rules.specs.Chunk.{Chunk, Found, cut, chunk, needing, chunk_from, chunk_at, size_of, INDEX, DIFF, LUMA, RUN, RGB, RGBA, Stuck}
use Rattle.rules.specs.Bytes.{same_bytes}
use Rattle.rules.specs.Reading.{Way, Place, refused, end, read_on, marker, closing, size_wanted, place_after, move_by, move, reading}
use Rattle.rules.proofs.ChunkLaws.{stuck_row, stuck_cut}

-- RGBA only where ff is read, stuck only where it is not
abbrev pub Allowed : Bool → Chunk → Type 0
Allowed reads_rgba (INDEX slot) = Unit {0}
Allowed reads_rgba (DIFF r g b) = Unit {0}
Allowed reads_rgba (LUMA g r b) = Unit {0}
Allowed reads_rgba (RUN times) = Unit {0}
Allowed reads_rgba (RGB r g b) = Unit {0}
Allowed reads_rgba (RGBA r g b a) = T reads_rgba
Allowed reads_rgba Stuck = T (not reads_rgba)

abbrev AllowedFound : Bool → Found → Type 0
AllowedFound reads_rgba cut = Unit {0}
AllowedFound reads_rgba (chunk k) = Allowed reads_rgba k

-- what holds of both sides of a test holds of what it gives
either : (P : Found → Type 0) (b : Bool) (x y : Found) → P x → P y → P (cond b x y)
either P true x y hx hy = hx
either P false x y hx hy = hy

-- at an ff
allowed_last :
    (reads_rgba : Bool) (rest : List ℕ) (k : Chunk) → Allowed true k → AllowedFound reads_rgba (cond reads_rgba (needing 4 rest k) (needing 7 rest Stuck))
allowed_last true rest k may = either (AllowedFound true) (leb 4 (length rest)) _ _ may tt
allowed_last false rest k may = either (AllowedFound false) (leb 7 (length rest)) _ _ tt tt

allowed_found : (reads_rgba : Bool) (part : List ℕ) → AllowedFound reads_rgba (chunk_at reads_rgba part)
unfolding chunk_at chunk_from
allowed_found reads_rgba [] = tt
allowed_found reads_rgba (byte ∷ rest) =
    let P = AllowedFound reads_rgba in
    either P (ltb byte 0x40) _ _ tt
    (either P (ltb byte 0x80) _ _ tt
    (either P (ltb byte 0xc0) _ _ (either P (leb 1 (length rest)) _ _ tt tt)
    (either P (ltb byte 0xfe) _ _ tt
    (either P (ltb byte 0xff) _ _ (either P (leb 3 (length rest)) _ _ tt tt) (allowed_last reads_rgba rest _ tt)))))

-- every chunk that is found is one that may be
pub allowed : (reads_rgba : Bool) (part : List ℕ) (k : Chunk) → chunk_at reads_rgba part ≡ chunk k → Allowed reads_rgba k
allowed reads_rgba part k is = rw is at (allowed_found reads_rgba part)

-- below ff it is all the same whether ff is read
below_ff : (a b : Bool) (part : List ℕ) → get_or part 0 0 < 0xff → chunk_at a part ≡ chunk_at b part
unfolding chunk_at chunk_from
below_ff a b [] low = refl
below_ff a b (byte ∷ rest) low = rw (lt-ltb byte 0xff low)

cut_is_no_chunk : {k : Chunk} → cut ≡ chunk k → ⊥
cut_is_no_chunk p = let z : ◌≡◌ {A = ℕ} 0 1 = cc in omega arith

-- a part that starts with an ff and has 8 bytes
record AtFf (part : List ℕ) : Type 0 where
  some : 8 ≤ length part
  high : 0xff ≤ get_or part 0 0

-- a chunk that is found is found where ff is read too, or is an ff that is stuck
pub data Alike (part : List ℕ) (k : Chunk) : Type 0 where
  alike : chunk_at true part ≡ chunk k → Alike part k
  stuck : k ≡ Stuck → Alike part k

-- at an ff
from_ff : (part : List ℕ) (k : Chunk) → 0xff ≤ get_or part 0 0 → chunk_at false part ≡ chunk k → AtFf part × (k ≡ Stuck)
from_ff [] k high is = absurd (omega (arith, high))
from_ff (byte ∷ rest) k high is = go (dec_le 8 (length (byte ∷ rest)))
  where
    go : Dec (8 ≤ length (byte ∷ rest)) → AtFf (byte ∷ rest) × (k ≡ Stuck)
    go (yes whole) =
        let same : chunk Stuck ≡ chunk k = sym (stuck_row (byte ∷ rest) whole high) ∙ is in
        (record { some = whole; high = high }, cc)
    go (no h) = absurd (cut_is_no_chunk (sym (stuck_cut (byte ∷ rest) (omega arith) (lt_of_not-le h) high) ∙ is))

pub reads_alike : (reads_rgba : Bool) (part : List ℕ) (k : Chunk) → chunk_at reads_rgba part ≡ chunk k → Alike part k
reads_alike true part k is = alike is
reads_alike false part k is = go (dec_le 0xff (get_or part 0 0))
  where
    go : Dec (0xff ≤ get_or part 0 0) → Alike part k
    go (yes high) = stuck (from_ff part k high is).1
    go (no h) = alike (below_ff true false part (lt_of_not-le h) ∙ is)

-- what is stuck is an ff
stuck_at_ff : (reads_rgba : Bool) (part : List ℕ) → chunk_at reads_rgba part ≡ chunk Stuck → AtFf part
stuck_at_ff true part is = absurd (allowed true part Stuck is)
stuck_at_ff false part is = go (dec_le 0xff (get_or part 0 0))
  where
    go : Dec (0xff ≤ get_or part 0 0) → AtFf part
    go (yes high) = (from_ff part Stuck high is).0
    go (no h) = absurd (allowed true part Stuck (below_ff true false part (lt_of_not-le h) ∙ is))

-- ff does not begin the marker
ff_is_no_marker : (part : List ℕ) → 0xff ≤ get_or part 0 0 → same_bytes (take 8 part) marker ≡ false
unfolding same_bytes
ff_is_no_marker [] high = absurd (omega (arith, high))
ff_is_no_marker (byte ∷ rest) high = rw (ne_eqb byte 0 (λ z. omega arith))

module _ (way : Way) (header : Header) (wanted : ℕ) (message : List ℕ) where
  -- where ff is stuck the marker test is 8
  stuck_closes :
      (at : ℕ) → chunk_at (way.reads_rgba (channels_number header.channels)) (drop at message) ≡ chunk Stuck
      → closing (size_wanted header wanted) message at ≡ refused InvalidPadding
  unfolding closing
  stuck_closes at is =
      let ff = stuck_at_ff (way.reads_rgba (channels_number header.channels)) (drop at message) is in
      rw (le-ltb (length (drop at message)) 8 ff.some, ff_is_no_marker (drop at message) ff.high)

  -- from there the reading ends with 8
  pub stuck_is_refused :
      (n : ℕ) (place : Place) → chunk_at (way.reads_rgba (channels_number header.channels)) (drop place.at message) ≡ chunk Stuck
      → (reading way header wanted message n place).answer ≡ refused InvalidPadding
  unfolding reading move move_by place_after size_of
  stuck_is_refused zero place is = stuck_closes place.at is
  stuck_is_refused (suc n) place is = go (stuck_is_refused n) (ltb place.pixel (pixel_count header))
    where
      go :
          ((next : Place) → chunk_at (way.reads_rgba (channels_number header.channels)) (drop next.at message) ≡ chunk Stuck
          → (reading way header wanted message n next).answer ≡ refused InvalidPadding)
          → (b : Bool)
          → (read_on (reading way header wanted message n)
          (cond b
          (move_by way header wanted place (chunk_at (way.reads_rgba (channels_number header.channels)) (drop place.at message)))
          (end (closing (size_wanted header wanted) message place.at)))).answer
          ≡ refused InvalidPadding
      go ih true = rw (is, move_by) (ih (place_after way header wanted place Stuck) (rw add-zero is))
      go ih false = stuck_closes place.at is
