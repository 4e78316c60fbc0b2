-- What the test of the input says, and the test taken apart.
-- Assumes nothing.
use mathlib.Core.List.{List}
use mathlib.Core.Bool.{Bool, true}
use mathlib.Core.Path.{◌≡◌, sym, subst, ◌∙◌}
use Prim.{tt}
use Prim.Native.Nat.{ℕ, ◌+◌, ◌*◌, ◌≤◌}
use lib.Dec.{T, leb, eqb, leb→le, eqb→eq}
use lib.ListN.{length}
use Rattle.header.specs.declared.Header.{Header}
use Rattle.header.specs.Header.{dimensions_fit, pixel_count}
use Rattle.header.proofs.Laws.{both}
use Rattle.rules.specs.Reading.{Place}
use Rattle.walk.specs.Walking.{fits}

-- the input lies within what the header says
pub record Fits (header : Header) (wanted : ℕ) (message : List ℕ) (left steps : ℕ) (place : Place) (out : List ℕ) : Type 0 where
  pub fit : T (dimensions_fit header.width header.height)
  pub inside : place.at ≤ length message
  pub counted : place.pixel + left ≡ pixel_count header
  pub few_steps : steps ≤ left + 1
  pub room : left * wanted ≤ length out

-- input that passes lies within what the header says
pub fitted :
    (header : Header) (wanted : ℕ) (message : List ℕ) (left steps : ℕ) (place : Place) (out : List ℕ)
    → T (fits header wanted (length message) left steps place.at place.pixel (length out))
    → Fits header wanted message left steps place out
unfolding fits
fitted header wanted message left steps place out t =
    let second = (both (dimensions_fit header.width header.height) _ t).1 in
    let third = (both (leb place.at (length message)) _ second).1 in
    let fourth = (both (eqb (place.pixel + left) (pixel_count header)) _ third).1 in
    let fifth = both (leb steps (left + 1)) _ fourth in
    record {
      fit = (both (dimensions_fit header.width header.height) _ t).0;
      inside = leb→le place.at (length message) (both (leb place.at (length message)) _ second).0;
      counted =
          eqb→eq (place.pixel + left) (pixel_count header) (both (eqb (place.pixel + left) (pixel_count header)) _ third).0;
      few_steps = leb→le steps (left + 1) fifth.0;
      room = leb→le (left * wanted) (length out) fifth.1;
    }

-- the same, of a test whose answer is known
pub fitted_by :
    (header : Header) (wanted : ℕ) (message : List ℕ) (left steps : ℕ) (place : Place) (out : List ℕ) {passed : Bool}
    → passed ≡ fits header wanted (length message) left steps place.at place.pixel (length out) → passed ≡ true
    → Fits header wanted message left steps place out
fitted_by header wanted message left steps place out is passes =
    fitted header wanted message left steps place out (subst T (sym passes ∙ is) tt)
