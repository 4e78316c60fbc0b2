-- `encode::run::end_run` meets its contract: where there is no run nothing is written.
-- Assumes nothing.
use Rattle.std.proofs.Common.{rules}
use Rattle.rules.proofs.PastingLaws.{pasted_none}
use Rattle.encode.proofs.run.end_run.Goals as goal

pub returns-then-run-eq0 : goal.returns-then-run-eq0
returns-then-run-eq0 c = search (rules, pasted_none)
