-- Laws of a frame: what a message's decode makes of it, and that the cells of one that fits stand in the buffer.
-- Assumes nothing.
use Rattle.std.specs.Prelude.{Ok, Err}
use mathlib.Core.List.{List, ◌∷◌, ◌++◌}
use mathlib.Core.Path.{◌≡◌, refl, sym, ◌∙◌, ap, ap₂}
use Prim.Native.Nat.{ℕ, zero, suc, ◌+◌, ◌*◌, ◌≤◌, ◌<◌}
use native.Mathlib.Decide.{ℕ_discrete}
use native.Mathlib.Omega.{arith}
use borrow.Author.Tests.{eq-eqb, ne_eqb}
use lib.Dec.{lit<}
use lib.ListN.{length, get_or, drop, length-append, length-drop, get_or-append}
use lib.Seq.{drop-append-le}
use Rattle.pixel.specs.declared.error.Error.{Error}
use Rattle.pixel.specs.declared.error.Error.TheVariants.{InvalidChannels, InvalidCellCount}
use Rattle.pixel.specs.declared.types.Channels.{Channels}
use Rattle.pixel.specs.declared.types.Channels.TheVariants.{Rgb, Rgba}
use Rattle.header.specs.declared.Header.{Header}
use Rattle.header.specs.Header.{pixel_count, header_of, number_at}
use Rattle.rules.specs.Bytes.{written_over}
use Rattle.rules.specs.Reading.{Answer, done, refused}
use Rattle.rules.specs.Decode.{decoding}
use Rattle.totals.specs.Counting.{cells_of, Frame, cells, unread, frame_from, frame_of, fitting}
use Rattle.totals.specs.Framing.{read_as}
use Rattle.totals.proofs.Sums.{cells_length}
use Rattle.totals.proofs.Decoded.{decoded_whole}

-- the cells of some bytes are those of the bytes with more after them
cells_before : (n : ℕ) (a b : List ℕ) → n * 4 ≤ length a → cells_of n (a ++ b) ≡ cells_of n a
unfolding cells_of
cells_before zero a b enough = refl
cells_before (suc n) a b enough =
    ap₂ (λ (x : ℕ) (l : List ℕ). x ∷ l) number
    (ap (cells_of n) (drop-append-le 4 a b (omega arith))
    ∙ cells_before n (drop 4 a) b (simp length-drop (omega arith)))
  where
    here : (i : ℕ) → i < 4 → get_or (a ++ b) i 0 ≡ get_or a i 0
    here i less = get_or-append a b 0 i (omega arith)

    number : number_at (a ++ b) 0 ≡ number_at a 0
    number = omega (arith, here 0 (lit< tt), here 1 (lit< tt), here 2 (lit< tt), here 3 (lit< tt))

module _ (m : List ℕ) (room : ℕ) where
  -- a decode that is refused
  pub frame_refused : (e : Error) → (decoding m 4 room).answer ≡ refused e → frame_of m room ≡ unread e
  unfolding frame_of frame_from
  frame_refused e is = rw is

  module _
      (header : Header) (size used : ℕ) (opened : header_of m ≡ Ok header)
      (accepted : (decoding m 4 room).answer ≡ done size used) where
    -- one that is accepted, of three channels
    pub frame_three : header.channels ≡ Rgb → frame_of m room ≡ unread (InvalidChannels 3)
    unfolding frame_of frame_from
    frame_three three = rw (opened, accepted, three)

    -- and of four
    pub frame_four : header.channels ≡ Rgba → frame_of m room ≡ cells used (cells_of (pixel_count header) (decoding m 4 room).bytes)
    unfolding frame_of frame_from
    frame_four four = rw (opened, accepted, four)

-- a frame that is not read
pub unread_as : (n : ℕ) (frame : Frame) (e : Error) → frame ≡ unread e → read_as (fitting n frame) ≡ Err e
unfolding fitting
unread_as n frame e is = rw is

-- one that has a pixel for each of n cells
fitted :
    (n used pixels : ℕ) (frame : Frame) (bytes : List ℕ) → frame ≡ cells used (cells_of pixels bytes) → pixels ≡ n
    → fitting n frame ≡ cells used (cells_of pixels bytes)
unfolding fitting
fitted n used pixels frame bytes is same = rw (is, eq-eqb (length (cells_of pixels bytes)) n (cells_length pixels bytes ∙ same))

pub fits_as :
    (n used pixels : ℕ) (frame : Frame) (bytes : List ℕ) → frame ≡ cells used (cells_of pixels bytes) → pixels ≡ n
    → read_as (fitting n frame) ≡ Ok used
fits_as n used pixels frame bytes is same = ap read_as (fitted n used pixels frame bytes is same)

-- and one that has not
pub other_as :
    (n used pixels : ℕ) (frame : Frame) (bytes : List ℕ) → frame ≡ cells used (cells_of pixels bytes) → (pixels ≡ n → ⊥)
    → read_as (fitting n frame) ≡ Err (InvalidCellCount pixels n)
unfolding fitting
other_as n used pixels frame bytes is other =
    rw (is, ne_eqb (length (cells_of pixels bytes)) n (λ e. other (sym (cells_length pixels bytes) ∙ e)), cells_length pixels bytes)

-- a frame in a buffer: its cells are those of the buffer, and they all stand there
pub record Stands (n used : ℕ) (frame : Frame) (buffer : List ℕ) : Type 0 where
  pub is : frame ≡ cells used (cells_of n buffer)
  pub whole : n * 4 ≤ length buffer

-- a frame that was read stands in the buffer
pub stands :
    (m before : List ℕ) (n used : ℕ) → read_as (fitting n (frame_of m (length before))) ≡ Ok used
    → Stands n used (fitting n (frame_of m (length before))) (written_over (decoding m 4 (length before)).bytes before)
stands m before n used ok = by (decoding m 4 (length before)).answer refl
  where
    bytes : List ℕ
    bytes = (decoding m 4 (length before)).bytes

    frame : Frame
    frame = frame_of m (length before)

    refuses : (e : Error) → frame ≡ unread e → Stands n used (fitting n frame) (written_over bytes before)
    refuses e is =
        let r = sym (unread_as n frame e is) ∙ ok in absurd (let z : ◌≡◌ {A = ℕ} 0 1 = cc in omega arith)

    fits :
        (header : Header) (used' : ℕ) → frame ≡ cells used' (cells_of (pixel_count header) bytes) → length bytes ≡ pixel_count header * 4
        → Dec (pixel_count header ≡ n) → Stands n used (fitting n frame) (written_over bytes before)
    fits header used' is size (no other) =
        let r = sym (other_as n used' (pixel_count header) frame bytes is other) ∙ ok in
        absurd (let z : ◌≡◌ {A = ℕ} 0 1 = cc in omega arith)
    fits header used' is size (yes same) =
        let r = sym (fits_as n used' (pixel_count header) frame bytes is same) ∙ ok in
        let uses : used' ≡ used = cc in
        record {
          is =
              fitted n used' (pixel_count header) frame bytes is same
              ∙ ap₂ cells uses
              (ap (λ (k : ℕ). cells_of k bytes) same
              ∙ sym (cells_before n bytes (drop (0 + length bytes) before) (omega arith)));
          whole = simp length-append (omega arith);
        }

    by : (answer : Answer) → (decoding m 4 (length before)).answer ≡ answer → Stands n used (fitting n frame) (written_over bytes before)
    by (refused e) is = refuses e (frame_refused m (length before) e is)
    by (done size used') is = channelled w.0 w.1 w.2 w.0.channels refl
      where
        w :
            (header : Header) × (header_of m ≡ Ok header) × (length bytes ≡ pixel_count header * 4)
            × (pixel_count header * 4 ≤ length before)
        w = decoded_whole m (length before) size used' is

        channelled :
            (header : Header) → header_of m ≡ Ok header → length bytes ≡ pixel_count header * 4
            → (channels : Channels) → header.channels ≡ channels → Stands n used (fitting n frame) (written_over bytes before)
        channelled header opened sized Rgb three =
            refuses (InvalidChannels 3) (frame_three m (length before) header size used' opened is three)
        channelled header opened sized Rgba four =
            fits header used' (frame_four m (length before) header size used' opened is four) sized (ℕ_discrete (pixel_count header) n)
