-- `resume::Decoder::go_on` meets its contract: the walk into the part of the output from the pixel on is the run.
-- Assumes nothing.
use Rattle.std.specs.Prelude.{◌≡◌, List, ℕ, ◌+◌, ◌-◌, ◌*◌, ◌≤◌, min, length, take, drop, Result, Ok}
use Rattle.std.proofs.Common.{arith, rules, ap, sym, ◌∙◌}
use Prim.{tt}
use native.Mathlib.Nat.{lt_of_le_of_lt, mul-le-mul, mul-le-mul_right}
use lib.Dec.{lit<}
use borrow.Rule.Slice.PartMut.{put_mid}
use denote.Laws.{Is}
use mir.Val.{Val}
use Rattle.pixel.specs.declared.error.Error.{Error}
use Rattle.pixel.specs.declared.types.Channels.{Channels}
use Rattle.pixel.specs.Types.{channels_number, channels_from}
use Rattle.header.specs.Header.{pixel_count}
use Rattle.header.proofs.Laws.{pixels_small, channels_number_lem}
use Rattle.rules.specs.Reading.{closing}
use Rattle.rules.specs.Step.{State, running}
use Rattle.rules.proofs.PastingLaws.{whole_tail}
use Rattle.rules.proofs.RecordLaws.{formed, adds_up, wanted_few, wanted_channels}
use Rattle.walk.specs.Walking.{Walk, walking_into}
use Rattle.resume.specs.declared.Decoder.{Decoder}
use Rattle.resume.specs.declared.Progress.{Progress}
use Rattle.resume.specs.contracts.Decoder as decoder
use Rattle.resume.specs.Asked.{Ready, walk_answer}
use Rattle.resume.specs.Run.{ran_by}
use Rattle.resume.specs.State.{state_of}
use Rattle.resume.proofs.Owned.{typed}
use Rattle.resume.proofs.RunLaws.{Sets, Lies, state_left, ran_walk, beneath, run_through, through_lies, answers}
use Rattle.resume.proofs.Decoder.go_on.Goals as goal

module _ {s : State} {m out : List ℕ} {size : ℕ} (ready : Ready s m out size) where
  -- the pixels are not too many
  small : s.place.pixel + s.left ≤ 400000000
  small = omega (arith, adds_up s ready.well, pixels_small s.header (formed s ready.well).header_passes_lem)

  -- the bytes before the pixel are within the output
  before_fits : s.place.pixel * s.wanted ≤ length out
  before_fits =
      let within : s.place.pixel ≤ pixel_count s.header = omega (arith, adds_up s ready.well) in
      omega (arith, mul-le-mul_right s.wanted within, ready.counted, ready.room)

-- where the walk into the part of the output from the pixel on leads: within the message and the picture, and to what
-- the run answers
record Went (s : State) (m out : List ℕ) (size steps : ℕ) (walk : Walk) : Type 0 where
  at_within : walk.place.at ≤ length m
  pixel_within : walk.place.pixel ≤ pixel_count s.header
  answered :
      (left : ℕ) (a : Result Progress Error) → left ≡ pixel_count s.header - walk.place.pixel
      → a ≡ walk_answer walk.cut walk.spare (closing size m walk.place.at)
      → ran_by a (state_left s.header s.number s.wanted walk.place left) (put_mid (s.place.pixel * s.wanted) (length out - s.place.pixel * s.wanted) out walk.out)
      ≡ running m steps s out

went :
    {d : Decoder} {vs : List Val} {m out : List ℕ} {size steps n : ℕ} {channels : Channels} {walk : Walk}
    → Is decoder.the_row d vs → Ready (state_of d) m out size → channels_from d.wanted ≡ Ok channels → n ≡ min steps (d.left + 1)
    → walk ≡ walking_into d.header (channels_number channels) m d.left n (state_of d).place (take (length out - d.pixel * d.wanted) (drop (d.pixel * d.wanted) out))
    → Went (state_of d) m out size steps walk
went {d} {vs} {m} {out} {size} {steps} {n} {channels} {walk} is ready from few walked =
    record {
      at_within = lies.0;
      pixel_within = lies.1;
      answered = λ left a is-left is-answer.
          rw is-answer (answers s.header s.number s.wanted m out (s.place.pixel * s.wanted) walk _ ran (before_fits ready) left is-left size ready.counted);
    }
  where
    s : State
    s = state_of d

    sets : Sets m s out
    sets =
        let types = typed d _ is in
        record {
          well = ready.well;
          room = rw (← ready.counted) ready.room;
          shaped = record { current_is = types.current_is; slots_are = types.slots_are; slot_is = types.slot_is };
        }

    wants : channels_number channels ≡ s.wanted
    wants = channels_number_lem _ _ from

    lies : Lies s.header m walk.place
    lies = through_lies m s out steps sets ready.inside channels wants n few _ (whole_tail out (s.place.pixel * s.wanted)) walk walked

    ran : running m steps s out ≡ ran_walk s.header s.number s.wanted m (beneath (take (s.place.pixel * s.wanted) out) walk)
    ran = run_through m s out steps sets ready.inside channels wants n few _ (whole_tail out (s.place.pixel * s.wanted)) walk walked

pub overflow_mul-from : goal.overflow_mul-from
overflow_mul-from c =
    let few = mul-le-mul {n₂ = 400000000} (omega (arith, small c.requires)) (wanted_few _ c.requires.well) in
    record { fits = lt_of_le_of_lt few (lit< tt) }

pub unwrap-requires : goal.unwrap-requires
unwrap-requires c =
    let is = (wanted_channels c.args.self.wanted (formed _ c.requires.well).wanted_passes_lem).1 in search rules

pub slice_bounds-walk-count : goal.slice_bounds-walk-count
slice_bounds-walk-count c = before_fits c.requires

pub slice_bounds-walk-start : goal.slice_bounds-walk-start
slice_bounds-walk-start c = before_fits c.requires

pub overflow_add-left : goal.overflow_add-left
overflow_add-left c = record { fits = omega (arith, small c.requires) }

pub answer-requires : goal.answer-requires
answer-requires c =
    (went c.well_formed.0 c.requires (sym c.try_from.ensures ∙ c.unwrap.ensures) c.least.ensures c.walk-walked.ensures).at_within

pub overflow_sub-result : goal.overflow_sub-result
overflow_sub-result c =
    let w = went c.well_formed.0 c.requires (sym c.try_from.ensures ∙ c.unwrap.ensures) c.least.ensures c.walk-walked.ensures in
    omega (arith, w.pixel_within)

pub returns : goal.returns
returns c =
    let w = went c.well_formed.0 c.requires (sym c.try_from.ensures ∙ c.unwrap.ensures) c.least.ensures c.walk-walked.ensures in
    w.answered _ _ (ap (λ (n : ℕ). n - c.walk-walked.result.place.pixel) c.n_pixels.ensures) c.answer.ensures
