-- What a host is answered, and what is left in the parts that it lends; between calls a state travels as its record.
use Rattle.std.specs.Prelude.{◌≡◌, List, [], ◌∷◌, ℕ, length, Result, Ok, Err}
use Rattle.pixel.specs.declared.error.Error.{Error}
use Rattle.text.specs.Text.{put_over}
use Rattle.pixel.specs.Words.{words_of, worded_in}
use Rattle.rules.specs.Bytes.{written_over}
use Rattle.rules.specs.Decode.{decoding}
use Rattle.rules.specs.Encode.{encoding}
use Rattle.rules.specs.Step.{State, Started, started, not_started, Ran, going, ended, output_of, starting, running}
use Rattle.rules.specs.Record.{Recorded, recorded, not_recorded, recording, recorded_over, read_record}
use Rattle.rules.specs.Strict.{strict}
use Rattle.totals.specs.declared.Counted.{Counted}
use Rattle.totals.specs.declared.Counted.TheVariants.{Done, Already}
use Rattle.totals.specs.Counting.{Table, Call, counting, frame_after}
use Rattle.rules.specs.Figures.{refusal_figures, answer_figures, encode_figures, strict_figures, worded_figures}

-- writing a record: the number and the record's length, or why it was not written
abbrev pub recorded_figures : ℕ → Recorded → List ℕ
recorded_figures number (recorded size) = number ∷ size ∷ 0 ∷ 0 ∷ 0 ∷ []
recorded_figures number (not_recorded e) = refusal_figures e

-- counting: the message bytes used, or 257, counted already
abbrev pub counted_figures : Result Counted Error → List ℕ
counted_figures (Ok (Done used)) = 0 ∷ used ∷ 0 ∷ 0 ∷ 0 ∷ []
counted_figures (Ok Already) = 257 ∷ 0 ∷ 0 ∷ 0 ∷ 0 ∷ []
counted_figures (Err e) = refusal_figures e

-- a start: the refusal, or the answer of writing the state's record
abbrev pub started_figures : Started → List ℕ → List ℕ
started_figures (not_started e) out = refusal_figures e
started_figures (started s) out = recorded_figures 0 (recording s (length out))

-- the part for the record then
abbrev pub started_over : Started → List ℕ → List ℕ
started_over (not_started e) out = out
started_over (started s) out = recorded_over s out

-- a run: more to do, 256, with the next record, or the end's answer
abbrev pub ran_figures : Ran → List ℕ → List ℕ
ran_figures (going s out) next = recorded_figures 256 (recording s (length next))
ran_figures (ended answer s out) next = answer_figures answer

-- the part for the next record: an end leaves it as it was
abbrev pub ran_next : Ran → List ℕ → List ℕ
ran_next (going s out) next = recorded_over s next
ran_next (ended answer s out) next = next

-- a run from a record: its refusals come first, and change nothing
abbrev pub host_figures : List ℕ → ℕ → List ℕ → List ℕ → Started → List ℕ
host_figures message steps out next (not_started e) = refusal_figures e
host_figures message steps out next (started s) = ran_figures (running message steps s out) next

abbrev pub host_out : List ℕ → ℕ → List ℕ → Started → List ℕ
host_out message steps out (not_started e) = out
host_out message steps out (started s) = output_of (running message steps s out)

abbrev pub host_next : List ℕ → ℕ → List ℕ → List ℕ → Started → List ℕ
host_next message steps out next (not_started e) = next
host_next message steps out next (started s) = ran_next (running message steps s out) next

-- What a call leaves: `figures` are its number and figures, `left` is the part lent to it.
-- A record that is written comes with `number`.
abbrev pub IsRecord : ℕ → State → List ℕ → List ℕ → List ℕ → Type 0
IsRecord number s part figures left =
    (figures ≡ recorded_figures number (recording s (length part))) × (left ≡ recorded_over s part)

abbrev pub IsDecode : List ℕ → ℕ → List ℕ → List ℕ → List ℕ → Type 0
IsDecode message wanted out figures left =
    (figures ≡ answer_figures (decoding message wanted (length out)).answer)
    × (left ≡ written_over (decoding message wanted (length out)).bytes out)

abbrev pub IsEncode : List ℕ → ℕ → ℕ → ℕ → List ℕ → List ℕ → List ℕ → Type 0
IsEncode picture width height colorspace out figures left =
    (figures ≡ encode_figures (encoding picture width height colorspace (length out)).answer)
    × (left ≡ written_over (encoding picture width height colorspace (length out)).bytes out)

-- the strict check is lent no part
abbrev pub IsStrict : List ℕ → List ℕ → Type 0
IsStrict message figures = figures ≡ strict_figures (strict message)

abbrev pub IsStart : List ℕ → ℕ → ℕ → List ℕ → List ℕ → List ℕ → Type 0
IsStart message number wanted part figures left =
    (figures ≡ started_figures (starting message number wanted) part)
    × (left ≡ started_over (starting message number wanted) part)

-- a run from the bytes of a record of the message with this number is lent two parts
abbrev pub IsRun : List ℕ → ℕ → List ℕ → List ℕ → ℕ → List ℕ → List ℕ → List ℕ → List ℕ → Type 0
IsRun message number bytes out steps next figures left_out left_next =
    (figures ≡ host_figures message steps out next (read_record number bytes))
    × ((left_out ≡ host_out message steps out (read_record number bytes))
    × (left_next ≡ host_next message steps out next (read_record number bytes)))

-- counting is lent a frame's buffer and a table, its totals and its marks
abbrev pub IsCount : List ℕ → ℕ → List ℕ → List ℕ → List ℕ → List ℕ → List ℕ → List ℕ → List ℕ → Type 0
IsCount message hour frame totals marks figures left_frame left_totals left_marks =
    let table : Table = record { totals = totals; marks = marks } in
    let call : Call = record { hour = hour; message = message; room = length frame } in
    (figures ≡ counted_figures (counting table call).answer)
    × (left_frame ≡ frame_after table hour message frame)
    × (left_totals ≡ (counting table call).table.totals)
    × (left_marks ≡ (counting table call).table.marks)

-- the words of a number and its figures
abbrev pub IsText : ℕ → List ℕ → List ℕ → List ℕ → List ℕ → Type 0
IsText number figures out answered left =
    (answered ≡ worded_figures (worded_in (words_of number figures) (length out)))
    × (left ≡ put_over (words_of number figures) out)
