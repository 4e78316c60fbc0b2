-- What contracts speak through is one-to-one: two answers that mean the same are the same.
-- (Of refusals and of decoders that is `refusal_determined` of `pixel` and `state_determined` of `resume`.)
-- Assumes nothing.
use Rattle.std.specs.Prelude.{Option, Some, None, Result, Ok, Err}
use Rattle.pixel.specs.declared.error.Error.{Error}
use mathlib.Core.Path.{◌≡◌, refl, sym, ◌∙◌, ap}
use mathlib.Core.List.{List, ◌∷◌}
use Prim.Native.Nat.{ℕ, ◌^◌, ◌<◌}
use native.Mathlib.Omega.{arith}
use Rattle.pixel.specs.declared.Pixel.{Pixel}
use Rattle.pixel.specs.Colour.{red, green, blue, alpha}
use Rattle.pixel.specs.Packed.{packed_of, unpacked}
use Rattle.pixel.proofs.PackedLaws.{below_alpha}
use Rattle.rules.specs.Reading.{Answer, done, refused}
use Rattle.rules.specs.Reading as rules
use Rattle.rules.specs.Chunk.{INDEX, DIFF, LUMA, RUN, RGB, RGBA, Stuck, cut, chunk}
use Rattle.rules.specs.Chunk as table
use Rattle.rules.specs.Step.{State, Ran, going, ended, output_of}
use Rattle.rules.specs.Strict.{accepted, rejected}
use Rattle.rules.specs.Strict as strict
use Rattle.chunk.specs.declared.Colour.TheVariants as colour
use Rattle.chunk.specs.declared.Found.{Found}
use Rattle.chunk.specs.declared.Found.TheVariants as found
use Rattle.chunk.specs.Found.{found_of}
use Rattle.walk.specs.declared.Ended.{Ended}
use Rattle.walk.specs.declared.Place.{Place}
use Rattle.walk.specs.declared.Walked.{Walked}
use Rattle.walk.specs.Walking.{Walk, End, place_of, walk_of, ended_of}
use Rattle.resume.specs.declared.Started.{Started}
use Rattle.resume.specs.declared.Progress.{Progress}
use Rattle.resume.specs.declared.Progress.TheVariants.{More, Done}
use Rattle.resume.specs.declared.Stepped.{Stepped}
use Rattle.resume.specs.Run.{ran_by, ran_of, end_answer}
use Rattle.resume.specs.State.{state_of, state_determined}
use Rattle.decode.specs.declared.Decoded.{Decoded}
use Rattle.decode.specs.Decoded.{answer_of, decoded}
use Rattle.encode.specs.Encoded.{answer_of as encoded_of}
use Rattle.strict.specs.declared.Accepted.{Accepted}
use Rattle.strict.specs.Checked.{verdict_of, passes}

-- a 32-bit number is its four bytes
packed_again : (p : ℕ) → p < 2 ^ 32 → packed_of (red (unpacked p)) (green (unpacked p)) (blue (unpacked p)) (alpha (unpacked p)) ≡ p
unfolding unpacked
packed_again p small = omega (arith, below_alpha p)

-- two 32-bit numbers that unpack to the same pixel are the same
pub unpacked_determined : (p q : ℕ) → p < 2 ^ 32 → q < 2 ^ 32 → unpacked p ≡ unpacked q → p ≡ q
unpacked_determined p q hp hq same =
    sym (packed_again p hp)
    ∙ ap (λ (x : Pixel). packed_of (red x) (green x) (blue x) (alpha x)) same
    ∙ packed_again q hq

-- the reader's answer for a row of the chunk table
found_as : table.Found → Option Found
found_as cut = None
found_as (chunk (INDEX slot)) = Some (found.Index slot)
found_as (chunk (DIFF r g b)) = Some (found.Colour (colour.Diff r g b))
found_as (chunk (LUMA g r b)) = Some (found.Colour (colour.Luma g r b))
found_as (chunk (RUN times)) = Some (found.Run times)
found_as (chunk (RGB r g b)) = Some (found.Colour (colour.Rgb r g b))
found_as (chunk (RGBA r g b a)) = Some (found.Colour (colour.Rgba r g b a))
found_as (chunk Stuck) = Some (found.Colour colour.Stuck)

found_again : (f : Option Found) → found_as (found_of f) ≡ f
unfolding found_as
found_again None = refl
found_again (Some (found.Index slot)) = refl
found_again (Some (found.Run times)) = refl
found_again (Some (found.Colour (colour.Diff r g b))) = refl
found_again (Some (found.Colour (colour.Luma g r b))) = refl
found_again (Some (found.Colour (colour.Rgb r g b))) = refl
found_again (Some (found.Colour (colour.Rgba r g b a))) = refl
found_again (Some (found.Colour colour.Stuck)) = refl

pub found_determined : (a b : Option Found) → found_of a ≡ found_of b → a ≡ b
found_determined a b same = sym (found_again a) ∙ ap found_as same ∙ found_again b

-- a place and a walk have the same fields on both sides
pub place_determined : (a b : Place) → place_of a ≡ place_of b → a ≡ b
place_determined a b same =
    ap (λ (p : rules.Place). record { at = p.at; pixel = p.pixel; current = p.current; slots = p.slots }) same

pub walk_determined : (a b : Walked) (o o' : List ℕ) → walk_of a o ≡ walk_of b o' → (a ≡ b) × (o ≡ o')
walk_determined a b o o' same =
    let place = place_determined a.place b.place (ap (λ (w : Walk). w.place) same) in
    (λ i. record { cut = (same i).cut; spare = (same i).spare; place = place i }, ap (λ (w : Walk). w.out) same)

-- and so has the end of every chunk
pub end_determined : (a b : Ended) (o o' : List ℕ) → ended_of a o ≡ ended_of b o' → (a ≡ b) × (o ≡ o')
end_determined a b o o' same = (λ i. record { cut = (same i).cut; at = (same i).at }, ap (λ (w : End). w.out) same)

-- a start is its answer and its state
pub started_determined : (a b : Started) → a.answer ≡ b.answer → state_of a.decoder ≡ state_of b.decoder → a ≡ b
started_determined a b answer state =
    let decoder = state_determined a.decoder b.decoder state in
    λ i. record { answer = answer i; decoder = decoder i }

-- the answer of a run, and its state
answer_in : Ran → Result Progress Error
answer_in (going s o) = Ok More
answer_in (ended answer s o) = end_answer answer

state_in : Ran → State
state_in (going s o) = s
state_in (ended answer s o) = s

module _ (s : State) (o : List ℕ) where
  answer_again : (a : Result Progress Error) → answer_in (ran_by a s o) ≡ a
  unfolding answer_in
  answer_again (Ok More) = refl
  answer_again (Ok (Done size used)) = refl
  answer_again (Err e) = refl

  state_again : (a : Result Progress Error) → state_in (ran_by a s o) ≡ s
  unfolding state_in
  state_again (Ok More) = refl
  state_again (Ok (Done size used)) = refl
  state_again (Err e) = refl

  output_again : (a : Result Progress Error) → output_of (ran_by a s o) ≡ o
  output_again (Ok More) = refl
  output_again (Ok (Done size used)) = refl
  output_again (Err e) = refl

pub ran_determined : (a b : Stepped) (o o' : List ℕ) → ran_of a o ≡ ran_of b o' → (a ≡ b) × (o ≡ o')
ran_determined a b o o' same =
    let answer : a.answer ≡ b.answer =
    sym (answer_again (state_of a.decoder) o a.answer) ∙ ap answer_in same ∙ answer_again (state_of b.decoder) o' b.answer in
    let state : state_of a.decoder ≡ state_of b.decoder =
    sym (state_again (state_of a.decoder) o a.answer) ∙ ap state_in same ∙ state_again (state_of b.decoder) o' b.answer in
    let decoder = state_determined a.decoder b.decoder state in (
      λ i. record { answer = answer i; decoder = decoder i },
      sym (output_again (state_of a.decoder) o a.answer) ∙ ap output_of same ∙ output_again (state_of b.decoder) o' b.answer,
    )

-- the decode's answer
decoded_as : Answer → Result Decoded Error
decoded_as (done size used) = decoded size used
decoded_as (refused e) = Err e

decoded_again : (d : Result Decoded Error) → decoded_as (answer_of d) ≡ d
unfolding decoded_as
decoded_again (Ok d) = refl
decoded_again (Err e) = refl

pub answer_determined : (a b : Result Decoded Error) → answer_of a ≡ answer_of b → a ≡ b
answer_determined a b same = sym (decoded_again a) ∙ ap decoded_as same ∙ decoded_again b

-- the encode's answer
pub encoded_determined : (a b : Result ℕ Error) → encoded_of a ≡ encoded_of b → a ≡ b
encoded_determined (Ok n) (Ok k) same = cc
encoded_determined (Ok n) (Err e) same = let z : ◌≡◌ {A = ℕ} 0 1 = cc in absurd (omega arith)
encoded_determined (Err e) (Ok n) same = let z : ◌≡◌ {A = ℕ} 0 1 = cc in absurd (omega arith)
encoded_determined (Err e) (Err x) same = cc

-- the strict check's answer
verdict_as : strict.StrictAnswer → Result Accepted Error
verdict_as (accepted header chunks bytes) = passes header chunks bytes
verdict_as (rejected e) = Err e

verdict_again : (s : Result Accepted Error) → verdict_as (verdict_of s) ≡ s
unfolding verdict_as
verdict_again (Ok s) = refl
verdict_again (Err e) = refl

pub verdict_determined : (a b : Result Accepted Error) → verdict_of a ≡ verdict_of b → a ≡ b
verdict_determined a b same = sym (verdict_again a) ∙ ap verdict_as same ∙ verdict_again b

-- the number that is returned and the figures beside it
pub returned_same : {n k : ℕ} {f g : List ℕ} → n ∷ f ≡ k ∷ g → n ≡ k
returned_same same = cc

pub figures_same : {n k : ℕ} {f g : List ℕ} → n ∷ f ≡ k ∷ g → f ≡ g
figures_same same = cc
