-- The chunk table row by row, over a part that is known by its length and its bytes; and what every chunk that is
-- found keeps to.
-- Assumes nothing.
use mathlib.Core.Path.{◌≡◌, refl}
use mathlib.Core.Bool.{Bool, true, false, cond}
use mathlib.Core.List.{List, [], ◌∷◌}
use Prim.Native.Nat.{ℕ, ◌+◌, ◌/◌, ◌%◌, ◌≤◌, ◌<◌, zero-le}
use native.Mathlib.Nat.{lt_of_not-le}
use native.Mathlib.Decide.{dec_le}
use native.Mathlib.Omega.{arith}
use borrow.Author.Tests.{lt-ltb, le-ltb, le-leb, lt-leb}
use lib.ListN.{length, get_or}
use Rattle.pixel.specs.declared.Pixel.{Pixel}
use Rattle.pixel.specs.Colour.{slot_of}
use Rattle.rules.specs.Chunk.{Chunk, Found, cut, chunk, needing, chunk_from, chunk_at, times_of, size_of, INDEX, DIFF, LUMA, RUN, RGB, RGBA, Stuck}

-- a proof for each of two numbers' orders
if_below : {P : Type 0} (a b : ℕ) → (a < b → P) → (b ≤ a → P) → P
if_below {P} a b less more = go (dec_le b a)
  where
    go : Dec (b ≤ a) → P
    go (yes h) = more h
    go (no h) = less (lt_of_not-le h)

-- INDEX names one of the 64 slots
abbrev pub SlotFits : Chunk → Type 0
SlotFits (INDEX slot) = slot < 64
SlotFits (DIFF r g b) = Unit {0}
SlotFits (LUMA g r b) = Unit {0}
SlotFits (RUN times) = Unit {0}
SlotFits (RGB r g b) = Unit {0}
SlotFits (RGBA r g b a) = Unit {0}
SlotFits Stuck = Unit {0}

-- a first byte ff: RGBA or stuck
last_row :
    (reads_rgba : Bool) (byte : ℕ) (rest : List ℕ) → 0xff ≤ byte
    → chunk_at reads_rgba (byte ∷ rest)
    ≡ cond reads_rgba (needing 4 rest (RGBA (get_or rest 0 0) (get_or rest 1 0) (get_or rest 2 0) (get_or rest 3 0))) (needing 7 rest Stuck)
unfolding chunk_at chunk_from
last_row reads_rgba byte rest high =
    rw (le-ltb byte 0x40 (omega arith), le-ltb byte 0x80 (omega arith), le-ltb byte 0xc0 (omega arith), le-ltb byte 0xfe (omega arith), le-ltb byte 0xff high)

-- an empty part has no chunk
pub no_row : (reads_rgba : Bool) (part : List ℕ) → length part ≡ 0 → chunk_at reads_rgba part ≡ cut
unfolding chunk_at
no_row reads_rgba [] none = refl
no_row reads_rgba (byte ∷ rest) none = absurd (omega arith)

-- 00..3f: INDEX of that slot
pub index_row :
    (reads_rgba : Bool) (part : List ℕ) → 1 ≤ length part → get_or part 0 0 < 0x40
    → chunk_at reads_rgba part ≡ chunk (INDEX (get_or part 0 0))
unfolding chunk_at chunk_from
index_row reads_rgba [] whole low = absurd (omega arith)
index_row reads_rgba (byte ∷ rest) whole low = rw (lt-ltb byte 0x40 low)

-- 40..7f: DIFF, three 2-bit differences, r high
pub diff_row :
    (reads_rgba : Bool) (part : List ℕ) → 1 ≤ length part → 0x40 ≤ get_or part 0 0 → get_or part 0 0 < 0x80
    → chunk_at reads_rgba part ≡ chunk (DIFF (get_or part 0 0 / 16 % 4) (get_or part 0 0 / 4 % 4) (get_or part 0 0 % 4))
unfolding chunk_at chunk_from
diff_row reads_rgba [] whole high low = absurd (omega arith)
diff_row reads_rgba (byte ∷ rest) whole high low = rw (le-ltb byte 0x40 high, lt-ltb byte 0x80 low)

-- 80..bf and one more: LUMA
pub luma_row :
    (reads_rgba : Bool) (part : List ℕ) → 2 ≤ length part → 0x80 ≤ get_or part 0 0 → get_or part 0 0 < 0xc0
    → chunk_at reads_rgba part ≡ chunk (LUMA (get_or part 0 0 % 64) (get_or part 1 0 / 16) (get_or part 1 0 % 16))
unfolding chunk_at chunk_from
luma_row reads_rgba [] whole high low = absurd (omega arith)
luma_row reads_rgba (byte ∷ rest) whole high low =
    rw (le-ltb byte 0x40 (omega arith), le-ltb byte 0x80 high, lt-ltb byte 0xc0 low, le-leb 1 (length rest) (omega arith))

-- 80..bf alone is cut
pub luma_cut :
    (reads_rgba : Bool) (part : List ℕ) → length part ≡ 1 → 0x80 ≤ get_or part 0 0 → get_or part 0 0 < 0xc0
    → chunk_at reads_rgba part ≡ cut
unfolding chunk_at chunk_from
luma_cut reads_rgba [] short high low = absurd (omega arith)
luma_cut reads_rgba (byte ∷ rest) short high low =
    rw (le-ltb byte 0x40 (omega arith), le-ltb byte 0x80 high, lt-ltb byte 0xc0 low, lt-leb 1 (length rest) (omega arith))

-- c0..fd: RUN, low six bits plus 1 times
pub run_row :
    (reads_rgba : Bool) (part : List ℕ) → 1 ≤ length part → 0xc0 ≤ get_or part 0 0 → get_or part 0 0 < 0xfe
    → chunk_at reads_rgba part ≡ chunk (RUN (get_or part 0 0 % 64 + 1))
unfolding chunk_at chunk_from
run_row reads_rgba [] whole high low = absurd (omega arith)
run_row reads_rgba (byte ∷ rest) whole high low =
    rw (le-ltb byte 0x40 (omega arith), le-ltb byte 0x80 (omega arith), le-ltb byte 0xc0 high, lt-ltb byte 0xfe low)

-- fe and three more: RGB
pub rgb_row :
    (reads_rgba : Bool) (part : List ℕ) → 4 ≤ length part → get_or part 0 0 ≡ 0xfe
    → chunk_at reads_rgba part ≡ chunk (RGB (get_or part 1 0) (get_or part 2 0) (get_or part 3 0))
unfolding chunk_at chunk_from
rgb_row reads_rgba [] whole is = absurd (omega arith)
rgb_row reads_rgba (byte ∷ rest) whole is = rw (is, le-leb 3 (length rest) (omega arith))

-- fe and fewer is cut
pub rgb_cut :
    (reads_rgba : Bool) (part : List ℕ) → 1 ≤ length part → length part < 4 → get_or part 0 0 ≡ 0xfe
    → chunk_at reads_rgba part ≡ cut
unfolding chunk_at chunk_from
rgb_cut reads_rgba [] some short is = absurd (omega arith)
rgb_cut reads_rgba (byte ∷ rest) some short is = rw (is, lt-leb 3 (length rest) (omega arith))

-- ff and four more, where it is read: RGBA
pub rgba_row :
    (part : List ℕ) → 5 ≤ length part → 0xff ≤ get_or part 0 0
    → chunk_at true part ≡ chunk (RGBA (get_or part 1 0) (get_or part 2 0) (get_or part 3 0) (get_or part 4 0))
rgba_row [] whole high = absurd (omega arith)
rgba_row (byte ∷ rest) whole high = rw (last_row true byte rest high, le-leb 4 (length rest) (omega arith))

-- ff and fewer, where it is read, is cut
pub rgba_cut :
    (part : List ℕ) → 1 ≤ length part → length part < 5 → 0xff ≤ get_or part 0 0 → chunk_at true part ≡ cut
rgba_cut [] some short high = absurd (omega arith)
rgba_cut (byte ∷ rest) some short high = rw (last_row true byte rest high, lt-leb 4 (length rest) (omega arith))

-- ff where it is not read, with 8 bytes left, is stuck
pub stuck_row : (part : List ℕ) → 8 ≤ length part → 0xff ≤ get_or part 0 0 → chunk_at false part ≡ chunk Stuck
stuck_row [] whole high = absurd (omega arith)
stuck_row (byte ∷ rest) whole high = rw (last_row false byte rest high, le-leb 7 (length rest) (omega arith))

-- ff where it is not read, with fewer left, is cut
pub stuck_cut :
    (part : List ℕ) → 1 ≤ length part → length part < 8 → 0xff ≤ get_or part 0 0 → chunk_at false part ≡ cut
stuck_cut [] some short high = absurd (omega arith)
stuck_cut (byte ∷ rest) some short high = rw (last_row false byte rest high, lt-leb 7 (length rest) (omega arith))

-- a single pixel is at least one
one : 1 ≤ 1
one = omega arith

-- a chunk of a part brings a pixel, lies within the part, and names one of the 64 slots
pub record Sound (part : List ℕ) (k : Chunk) : Type 0 where
  pub once : 1 ≤ times_of k
  pub fits : size_of k ≤ length part
  pub slot : SlotFits k

-- what is found in a part
pub data SoundFound (part : List ℕ) : Found → Type 0 where
  nothing : SoundFound part cut
  something : (k : Chunk) → Sound part k → SoundFound part (chunk k)

-- a chunk that is found is sound
pub sound_of : {part : List ℕ} {k : Chunk} → SoundFound part (chunk k) → Sound part k
sound_of (something k s) = s

-- whatever is found in a part keeps to it
pub sound_found : (reads_rgba : Bool) (part : List ℕ) → SoundFound part (chunk_at reads_rgba part)
unfolding times_of size_of
sound_found reads_rgba part =
    if_below (length part) 1 (λ none. rw (no_row reads_rgba part (omega arith)) nothing)
    (λ some.
    if_below (get_or part 0 0) 0x40
    (λ low. rw (index_row reads_rgba part some low) (something (INDEX (get_or part 0 0)) (record { once = one; fits = some; slot = low })))
    (λ a.
    if_below (get_or part 0 0) 0x80
    (λ low. rw (diff_row reads_rgba part some a low) (something (DIFF _ _ _) (record { once = one; fits = some; slot = tt })))
    (λ b.
    if_below (get_or part 0 0) 0xc0
    (λ low.
    if_below (length part) 2 (λ short. rw (luma_cut reads_rgba part (omega arith) b low) nothing)
    (λ whole. rw (luma_row reads_rgba part whole b low) (something (LUMA _ _ _) (record { once = one; fits = whole; slot = tt }))))
    (λ c.
    if_below (get_or part 0 0) 0xfe
    (λ low. rw (run_row reads_rgba part some c low) (something (RUN (get_or part 0 0 % 64 + 1)) (record { once = omega arith; fits = some; slot = tt })))
    (λ d.
    if_below (get_or part 0 0) 0xff
    (λ low.
    if_below (length part) 4 (λ short. rw (rgb_cut reads_rgba part some short (omega arith)) nothing)
    (λ whole. rw (rgb_row reads_rgba part whole (omega arith)) (something (RGB _ _ _) (record { once = one; fits = whole; slot = tt }))))
    (λ high. last reads_rgba part some high))))))
  where
    last : (reads_rgba : Bool) (part : List ℕ) → 1 ≤ length part → 0xff ≤ get_or part 0 0 → SoundFound part (chunk_at reads_rgba part)
    last true part some high =
        if_below (length part) 5 (λ short. rw (rgba_cut part some short high) nothing)
        (λ whole. rw (rgba_row part whole high) (something (RGBA _ _ _ _) (record { once = one; fits = whole; slot = tt })))
    last false part some high =
        if_below (length part) 8 (λ short. rw (stuck_cut part some short high) nothing)
        (λ whole. rw (stuck_row part whole high) (something Stuck (record { once = one; fits = zero-le; slot = tt })))

-- a colour's slot is one of the 64
pub slot_small : (p : Pixel) → slot_of p < 64
unfolding slot_of
slot_small p = omega arith
