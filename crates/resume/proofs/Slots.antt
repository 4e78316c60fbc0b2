-- Slots read and written one after another.
-- Assumes nothing.
use Prim.Native.Nat.{ℕ, zero, suc, ◌+◌, ◌*◌, ◌<◌}
use mathlib.Core.Path.{◌≡◌, refl, ap, ◌∙◌}
use mathlib.Core.List.{List, [], ◌∷◌, ◌++◌}
use native.Mathlib.Omega.{arith}
use lib.ListN.{length, get_or, take, drop, length-append}
use Rattle.std.proofs.lemmas.List.{get_or-take, drop-take}
use lib.Seq.{drop-cons, drop-drop}
use Rattle.pixel.specs.declared.Pixel.{Pixel}
use Rattle.pixel.specs.Bytes.{pixel_from, pixels_from}
use Rattle.rules.specs.Record.{pixels_bytes}

-- one pixel more is the one after the others
pub pixels_more : (n : ℕ) (bytes : List ℕ) → pixels_from (suc n) 4 bytes ≡ pixels_from n 4 bytes ++ (pixel_from 4 (drop (n * 4) bytes) ∷ [])
unfolding pixels_from
pixels_more zero bytes = refl
pixels_more (suc n) bytes =
    let further : 4 + n * 4 ≡ suc n * 4 = omega arith in
    ap {B = List Pixel} (λ l. pixel_from 4 bytes ∷ l)
    (pixels_more n (drop 4 bytes) ∙ rw (drop-drop (n * 4) 4 bytes, further))

-- the bytes after a pixel's four are not read
pub pixel_taken : (k : ℕ) (bytes : List ℕ) → pixel_from 4 (take (4 + k) bytes) ≡ pixel_from 4 bytes
unfolding pixel_from
pixel_taken k bytes =
    rw (get_or-take (4 + k) bytes 0 0 (omega arith), get_or-take (4 + k) bytes 1 0 (omega arith), get_or-take (4 + k) bytes 2 0 (omega arith), get_or-take (4 + k) bytes 3 0 (omega arith))

-- nor are those after n pixels'
pub pixels_taken : (n : ℕ) (bytes : List ℕ) → pixels_from n 4 (take (n * 4) bytes) ≡ pixels_from n 4 bytes
unfolding pixels_from
pixels_taken zero bytes = refl
pixels_taken (suc n) bytes =
    let more : suc n * 4 ≡ 4 + n * 4 = omega arith in
    rw (more, pixel_taken (n * 4) bytes, drop-take 4 (n * 4) bytes, pixels_taken n (drop 4 bytes))

-- what stands past the last pixel of a list
abbrev pub no_pixel : Pixel
no_pixel = record { rgba = [] }

-- the bytes of some pixels are those of the next and of the ones after it
pub bytes_next :
    (ps : List Pixel) (i : ℕ) → i < length ps
    → pixels_bytes (drop i ps) ≡ (get_or ps i no_pixel).rgba ++ pixels_bytes (drop (suc i) ps)
unfolding pixels_bytes
bytes_next ps i h = rw (drop-cons ps i no_pixel h)

-- how many they are
pub bytes_next_length :
    (ps : List Pixel) (i : ℕ) → i < length ps
    → length (pixels_bytes (drop i ps)) ≡ length (get_or ps i no_pixel).rgba + length (pixels_bytes (drop (suc i) ps))
bytes_next_length ps i h =
    ap length (bytes_next ps i h) ∙ length-append (get_or ps i no_pixel).rgba (pixels_bytes (drop (suc i) ps))
