-- From a place to the first spot of a walk, and from where the walk came to back to the place's walk.
-- Assumes nothing.
use mathlib.Core.Path.{◌≡◌, sym, ◌∙◌, ap}
use mathlib.Core.List.{List}
use Prim.Native.Nat.{ℕ, ◌+◌, ◌≤◌}
use native.Mathlib.Omega.{arith}
use Rattle.pixel.specs.declared.Pixel.{Pixel}
use Rattle.header.specs.declared.Header.{Header}
use Rattle.header.proofs.Laws.{pixels_small}
use Rattle.rules.specs.Decode.{decoder_keeps}
use Rattle.rules.specs.Reading.{Place}
use Rattle.walk.specs.declared.lanes.Lanes.{Lanes}
use Rattle.walk.specs.declared.spot.Reached.{Reached}
use Rattle.walk.specs.declared.spot.Spot.{Spot}
use Rattle.walk.specs.Lanes.{pixel_in}
use Rattle.walk.specs.Asked.{Of, Lies, Stands, Onward, Ends, place_in, reached_in, spot_at}
use Rattle.walk.specs.Walking.{walking, standing}
use Rattle.walk.proofs.Fitting.{Fits}
use Rattle.walk.proofs.Loop.{standing_still}

module _ {header : Header} {wanted : ℕ} {message : List ℕ} {left steps : ℕ} {place : Place} {out : List ℕ}
    (f : Fits header wanted message left steps place out) where
  of_place : Of header.channels left place.pixel header
  of_place = record { counted = sym f.counted; sourced = λ i. header.channels }

  -- a place within what the header says is a spot that lies there
  module _ (l : Lanes) (holds : pixel_in l ≡ place.current) where
    pub lies_first : Lies wanted message left (spot_at place.at 0 steps l) out
    lies_first =
        record {
          small = omega (arith, f.counted, pixels_small header f.fit);
          few_steps = omega (arith, f.few_steps, f.counted, pixels_small header f.fit);
          inside = f.inside;
          within = omega arith;
          room = f.room;
        }

    -- the rounds may begin where its pixel is one that a chunk leaves
    pub stands_first :
        decoder_keeps wanted place.current ≡ place.current → Stands wanted message left (spot_at place.at 0 steps l) out
    stands_first kept =
        record { lies = lies_first; kept = ap (decoder_keeps wanted) holds ∙ kept ∙ sym holds }

    module _ {slots : List Pixel} (same : slots ≡ place.slots) where
      place_first : place_in place.pixel (spot_at place.at 0 steps l) slots ≡ place
      place_first =
          let none : place.pixel + 0 ≡ place.pixel = omega arith in
          λ i. record { at = place.at; pixel = none i; current = holds i; slots = same i }

      -- the walk from the first spot is the walk from the place
      from_first :
          walking header wanted message place.pixel steps (place_in place.pixel (spot_at place.at 0 steps l) slots) out
          ≡ walking header wanted message place.pixel steps place out
      from_first = ap (λ (p : Place). walking header wanted message place.pixel steps p out) place_first

      -- a walk that ends from there
      module _ {end : Reached} {slots' : List Pixel} {out' : List ℕ}
          (e : Ends wanted message header.channels left (spot_at place.at 0 steps l) slots out end slots' out') where
        pub ends_first : reached_in place.pixel end slots' out' ≡ walking header wanted message place.pixel steps place out
        ends_first = sym (e.whole place.pixel header of_place) ∙ from_first

      module _ {spot : Spot} {slots' : List Pixel} {out' : List ℕ}
          (o : Onward wanted message header.channels left (spot_at place.at 0 steps l) slots out spot slots' out') where
        -- with no pixel missing after the rounds nothing is left
        pub ends_whole :
            spot.done ≡ left
            → standing spot.spare (place_in place.pixel spot slots') out'
            ≡ walking header wanted message place.pixel steps place out
        ends_whole all =
            sym (standing_still header wanted message place.pixel spot.spare (place_in place.pixel spot slots') out'
            (omega (arith, f.counted)))
            ∙ sym (o.whole place.pixel header of_place) ∙ from_first

        -- a walk that goes on from where the rounds came to, and ends
        pub ends_after :
            {end : Reached} {slots'' : List Pixel} {out'' : List ℕ}
            → Ends wanted message header.channels left spot slots' out' end slots'' out''
            → reached_in place.pixel end slots'' out'' ≡ walking header wanted message place.pixel steps place out
        ends_after e =
            sym (o.whole place.pixel header of_place ∙ e.whole place.pixel header of_place) ∙ from_first

  -- where a walk came to is within the picture
  pub arrives :
      {spot : Spot} {slots : List Pixel} {out' : List ℕ} {end : Reached} {slots' : List Pixel} {out'' : List ℕ}
      → Ends wanted message header.channels left spot slots out' end slots' out''
      → place.pixel + end.spot.done ≤ 400000000
  arrives e = omega (arith, e.within, f.counted, pixels_small header f.fit)
