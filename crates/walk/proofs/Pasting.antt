-- Bytes put into an output n times over, each part after the last or over its end.
-- Assumes nothing.
use mathlib.Core.Path.{◌≡◌, refl, sym, ◌∙◌, ap}
use mathlib.Core.List.{List, ◌++◌, append_assoc, append-nil}
use Prim.Native.Nat.{ℕ, zero, suc, ◌+◌, ◌-◌, ◌*◌, ◌≤◌, ◌<◌}
use native.Mathlib.Nat.{mul-le-mul_right, zero-add, suc-add}
use native.Mathlib.Decide.{dec_le}
use native.Mathlib.Omega.{arith}
use lib.Dec.{lit≤}
use lib.ListN.{length}
use Prim.{tt}
use Rattle.pixel.specs.Packed.{unpacked}
use Rattle.rules.specs.Bytes.{pasted, repeated}
use Rattle.rules.proofs.PastingLaws.{before_pasted, beyond_pasted, length_pasted, pasted_next, pasted_none, repeated_length}
use Rattle.walk.specs.Asked.{bytes_in, Fills, FillsOnce}
use Rattle.walk.proofs.Loop.{bytes_long}

-- i times over, then k times
repeated_add : (i k : ℕ) (bytes : List ℕ) → repeated (i + k) bytes ≡ repeated i bytes ++ repeated k bytes
unfolding repeated
repeated_add zero k bytes = rw zero-add
repeated_add (suc i) k bytes =
    rw suc-add
    (ap (λ (l : List ℕ). bytes ++ l) (repeated_add i k bytes) ∙ sym (append_assoc bytes (repeated i bytes) (repeated k bytes)))

-- what is put over bytes that are no more leaves nothing of them
pasted_over :
    (out : List ℕ) (at : ℕ) (x y : List ℕ) → length x ≤ length y → at + length y ≤ length out
    → pasted at y (pasted at x out) ≡ pasted at y out
pasted_over out at x y covers fits =
    let within : at ≤ length out = omega arith in
    let first : at + length x ≤ length out = omega arith in
    rw (before_pasted out at x within, beyond_pasted out at x first (at + length y) (omega arith))

-- what is put over the end of a part
pasted_end :
    (out : List ℕ) (at : ℕ) (x y z : List ℕ) → length y ≤ length z → at + length x + length z ≤ length out
    → pasted (at + length x) z (pasted at (x ++ y) out) ≡ pasted at (x ++ z) out
pasted_end out at x y z covers fits =
    let first : at + length x ≤ length out = omega arith in
    ap (pasted (at + length x) z) (sym (pasted_next out at x y (omega arith))) ∙ pasted_over (pasted at x out) (at + length x) y z covers (omega (arith, length_pasted out at x first)) ∙ pasted_next out at x z fits

-- the bytes are themselves one time over
pub once : (bytes : List ℕ) → bytes ≡ repeated 1 bytes
unfolding repeated
once bytes = sym (append-nil bytes)

module _ (out : List ℕ) (at : ℕ) (bytes : List ℕ) where
  -- the output with the bytes put n times over
  abbrev pub Filled : ℕ → List ℕ → Type 0
  Filled n now = now ≡ pasted at (repeated n bytes) out

  none : Filled 0 out
  unfolding repeated
  none = sym (pasted_none out at)

  pub filled_none : (n : ℕ) → 0 ≡ n → Filled n out
  filled_none n zeroth = none ∙ ap (λ (m : ℕ). pasted at (repeated m bytes) out) zeroth

  pub filled_one : {now : List ℕ} → now ≡ pasted at bytes out → Filled 1 now
  filled_one is = is ∙ ap (λ (l : List ℕ). pasted at l out) (once bytes)

  -- the bytes stand j times; a part that is k times, put from the i-th on over those that stand there, makes them n
  refilled :
      (i j k n : ℕ) {part : List ℕ} → part ≡ repeated k bytes
      → {now then : List ℕ} → Filled j now → then ≡ pasted (at + i * length bytes) part now
      → (i ≤ j) × (j ≤ n) × (i + k ≡ n) × (at + n * length bytes ≤ length out) → Filled n then
  refilled i j k n times {now} is puts h =
      let first = repeated i bytes in
      let many : length first ≡ i * length bytes = repeated_length i bytes in
      let more : length (repeated k bytes) ≡ k * length bytes = repeated_length k bytes in
      let over : length (repeated (j - i) bytes) ≡ (j - i) * length bytes = repeated_length (j - i) bytes in
      let less : (j - i) * length bytes ≤ k * length bytes = mul-le-mul_right (length bytes) (omega arith) in
      let sum : n * length bytes ≡ i * length bytes + k * length bytes = rw (← h.2) (omega arith) in
      let parts : repeated j bytes ≡ first ++ repeated (j - i) bytes =
      ap (λ (m : ℕ). repeated m bytes) (omega arith) ∙ repeated_add i (j - i) bytes in
      let whole : first ++ repeated k bytes ≡ repeated n bytes =
      sym (repeated_add i k bytes) ∙ ap (λ (m : ℕ). repeated m bytes) h.2 in
      let stands : now ≡ pasted at (first ++ repeated (j - i) bytes) out = is ∙ ap (λ (l : List ℕ). pasted at l out) parts in
      puts ∙ ap (λ (l : List ℕ). pasted (at + i * length bytes) l now) times
      ∙ ap (λ (m : ℕ). pasted (at + m) (repeated k bytes) now) (sym many)
      ∙ ap (pasted (at + length first) (repeated k bytes)) stands
      ∙ pasted_end out at first (repeated (j - i) bytes) (repeated k bytes) (omega arith) (omega arith)
      ∙ ap (λ (l : List ℕ). pasted at l out) whole

  module _ {size : ℕ} (long : length bytes ≡ size) where
    -- the same where the place is counted in bytes
    pub refilled_from :
        (from i j k n : ℕ) {part : List ℕ} → part ≡ repeated k bytes
        → {now then : List ℕ} → Filled j now → then ≡ pasted from part now → from ≡ at + i * size
        → (i ≤ j) × (j ≤ n) × (i + k ≡ n) × (at + n * size ≤ length out) → Filled n then
    refilled_from from i j k n {part} times {now} is puts place h =
        let there : from ≡ at + i * length bytes = rw long place in
        let room : at + n * length bytes ≤ length out = rw long h.3 in
        refilled i j k n times is (puts ∙ ap (λ (m : ℕ). pasted m part now) there) (h.0, h.1, h.2, room)

    -- and where the part is the bytes once
    pub refilled_one :
        (from i j n : ℕ) {now then : List ℕ} → Filled j now → then ≡ pasted from bytes now → from ≡ at + i * size
        → (i ≤ j) × (j ≤ n) × (i + 1 ≡ n) × (at + n * size ≤ length out) → Filled n then
    refilled_one from i j n = refilled_from from i j 1 n (once bytes)

-- nothing filled
pub fills_none : (p at end : ℕ) (out : List ℕ) → at ≤ end → Fills p at end out at out
fills_none p at end out h =
    let filled = filled_none out at (bytes_in 4 (unpacked p)) 0 (omega arith) in
    record { times = 0; on = omega arith; within = h; filled = filled }

-- two fills, the second from where the first ends
pub fills_on :
    {p at far mid from end to : ℕ} {out now then : List ℕ} (further : ℕ)
    → Fills p at far out mid now → Fills p from end now to then
    → (mid ≡ from) × (to ≡ further) × (end ≤ length out) → Fills p at end out further then
fills_on {p} {at} {from = from} {out = out} further f g h =
    let i = f.times in
    let n = i + g.times in
    let bytes = bytes_in 4 (unpacked p) in
    let whole = refilled_from out at bytes {size = 4} (bytes_long (lit≤ tt) p) from i i _ n refl f.filled g.filled (omega arith) (omega arith) in
    record { times = n; on = omega arith; within = omega arith; filled = whole }

-- of n pixels all are filled where less than one is left
pub fills_all :
    {p at end to : ℕ} {out now : List ℕ} (n : ℕ) → Fills p at end out to now → (end ≡ at + n * 4) × (end < to + 4)
    → Filled out at (bytes_in 4 (unpacked p)) n now
fills_all {p} {at} {out = out} n f h =
    f.filled ∙ ap (λ (m : ℕ). pasted at (repeated m (bytes_in 4 (unpacked p))) out) (omega arith)

-- where less than twice the size was left, less than once is left after
pub once_close : (size at end to : ℕ) → FillsOnce size at end to → end < at + size + size → end < to + size
once_close size at end to h less = go (dec_le (at + size) end)
  where
    go : Dec (at + size ≤ end) → end < to + size
    go (yes fits) = omega (arith, h.0 fits)
    go (no short) = omega (arith, h.1 (omega arith))
