-- Some chunks of a decode, from any place: where they lead, what they leave in the part of the output from the first
-- one's pixel on.
use Rattle.std.specs.Prelude.{Bool, true, false, cond, ◌&&◌, List, ℕ, zero, suc, ◌+◌, ◌-◌, ◌*◌, ltb, leb, eqb, length}
use Rattle.header.specs.declared.Header.{Header}
use Rattle.header.specs.Header.{dimensions_fit, pixel_count}
use Rattle.rules.specs.Bytes.{pasted}
use Rattle.rules.specs.Reading.{Move, more, end, move}
use Rattle.rules.specs.Reading as rules
use Rattle.rules.specs.Decode.{decoder}
use Rattle.walk.specs.declared.Place.{Place}
use Rattle.walk.specs.declared.Walked.{Walked}
use Rattle.walk.specs.declared.Ended.{Ended}

-- the place of the rules that a place is
abbrev pub place_of : Place → rules.Place
place_of p = record { at = p.at; pixel = p.pixel; current = p.current; slots = p.slots }

-- whether the next chunk is cut short, how many more were allowed, where it stands, and the output
pub record Walk : Type 0 where
  pub cut : Bool
  pub spare : ℕ
  pub place : rules.Place
  pub out : List ℕ

-- what an answer and the output at exit are
abbrev pub walk_of : Walked → List ℕ → Walk
walk_of w out = record { cut = w.cut; spare = w.spare; place = place_of w.place; out = out }

-- it stands, with `spare` more allowed
abbrev pub standing : ℕ → rules.Place → List ℕ → Walk
standing spare place out = record { cut = false; spare = spare; place = place; out = out }

-- it stands before a chunk that is cut short
abbrev pub stopped : ℕ → rules.Place → List ℕ → Walk
stopped spare place out = record { cut = true; spare = spare; place = place; out = out }

module _ (header : Header) (wanted : ℕ) (message : List ℕ) (from : ℕ) where
  -- a move, and then those that follow it; where a pixel is missing, only a chunk that is cut short ends
  abbrev pub walk_on : (rules.Place → List ℕ → Walk) → ℕ → rules.Place → List ℕ → Move → Walk
  walk_on next spare place out (more place' bytes) = next place' (pasted ((place.pixel - from) * wanted) bytes out)
  walk_on next spare place out (end answer) = stopped spare place out

  -- at most n chunks, while a pixel is missing
  unfoldable pub walking : ℕ → rules.Place → List ℕ → Walk
  walking zero place out = standing 0 place out
  walking (suc n) place out =
      cond (ltb place.pixel (pixel_count header))
      (walk_on (walking n) (suc n) place out (move decoder header wanted message place)) (standing (suc n) place out)

-- the header passes its test, pixel position and pixels left add up to the pixels; byte position, steps and the
-- pixels' bytes lie within what there is
unfoldable pub fits : Header → ℕ → ℕ → ℕ → ℕ → ℕ → ℕ → ℕ → Bool
fits header wanted size left steps at pixel room =
    dimensions_fit header.width header.height
    && (leb at size
    && (eqb (pixel + left) (pixel_count header) && (leb steps (left + 1) && leb (left * wanted) room)))

-- with `left` pixels left, at most `steps` chunks where the input fits, and else none
unfoldable pub walking_into : Header → ℕ → List ℕ → ℕ → ℕ → rules.Place → List ℕ → Walk
walking_into header wanted message left steps place out =
    cond (fits header wanted (length message) left steps place.at place.pixel (length out))
    (walking header wanted message place.pixel steps place out) (standing steps place out)

-- how a walk of every chunk ends: whether the next one is cut short, the byte position, and the output
pub record End : Type 0 where
  pub cut : Bool
  pub at : ℕ
  pub out : List ℕ

abbrev pub end_of : Walk → End
end_of w = record { cut = w.cut; at = w.place.at; out = w.out }

-- what an answer and the output at exit are
abbrev pub ended_of : Ended → List ℕ → End
ended_of w out = record { cut = w.cut; at = w.at; out = out }
