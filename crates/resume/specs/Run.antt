-- What the answer of a step or a run means: a run of the rules.
use Rattle.std.specs.Prelude.{List, ℕ, length, Result, Ok, Err}
use Rattle.pixel.specs.declared.error.Error.{Error}
use Rattle.rules.specs.Reading.{Answer, done, refused}
use Rattle.rules.specs.Step.{State, step, Ran, going, ended, run_on}
use Rattle.resume.specs.declared.Progress.{Progress}
use Rattle.resume.specs.declared.Progress.TheVariants.{More, Done}
use Rattle.resume.specs.declared.Stepped.{Stepped}
use Rattle.resume.specs.State.{state_of}

-- an answer with a state and an output: there is more to do, or an end
abbrev pub ran_by : Result Progress Error → State → List ℕ → Ran
ran_by (Ok More) s out = going s out
ran_by (Ok (Done size used)) s out = ended (done size used) s out
ran_by (Err e) s out = ended (refused e) s out

-- the same of an answer that holds its state
abbrev pub ran_of : Stepped → List ℕ → Ran
ran_of r out = ran_by r.answer (state_of r.decoder) out

-- an end as an answer
abbrev pub end_answer : Answer → Result Progress Error
end_answer (done size used) = Ok (Done size used)
end_answer (refused e) = Err e

-- one step from a state, on an output
abbrev pub one_step : List ℕ → State → List ℕ → Ran
one_step message s out = run_on going s out (step s message (length out))
