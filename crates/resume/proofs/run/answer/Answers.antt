-- `resume::run::answer` meets its contract: the marker test of the part from here on is the definition's at this place.
-- Assumes nothing.
use Rattle.std.proofs.Common.{rules}
use Rattle.rules.proofs.PastingLaws.{whole_tail}
use Rattle.chunk.proofs.Ends.{closing_by}
use Rattle.resume.proofs.run.answer.Goals as goal

pub returns-in_err-read_end : goal.returns-in_err-read_end
returns-in_err-read_end c =
    let a = c.args in
    rw (closing_by a.size a.message.now a.walked.place.at, ← whole_tail a.message.now a.walked.place.at) (search rules)

pub returns : goal.returns
returns c =
    let a = c.args in
    rw (closing_by a.size a.message.now a.walked.place.at, ← whole_tail a.message.now a.walked.place.at) (search rules)
