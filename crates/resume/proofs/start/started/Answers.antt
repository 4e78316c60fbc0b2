-- `resume::start::started` meets its contract: its tests are those of the definition, in its order.
-- Assumes nothing.
use Rattle.std.proofs.Common.{rules}
use Rattle.rules.specs.Step.{starting, start_header, start_wanted}
use Rattle.resume.proofs.start.started.Goals as goal

pub returns-in_err-header : goal.returns-in_err-header
unfolding starting start_header
returns-in_err-header c = search rules

pub returns-in_err-channels : goal.returns-in_err-channels
unfolding starting start_header start_wanted
returns-in_err-channels c = search rules

pub returns : goal.returns
unfolding starting start_header start_wanted
returns c = search rules
