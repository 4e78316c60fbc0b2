-- `strict::strict` meets its contract: the header's refusal, or the check of the message that it is the header of.
use Rattle.std.proofs.Common.{rules}
use Rattle.rules.specs.Strict.{strict, strict_header}
use Rattle.strict.proofs.strict.Goals as goal

pub returns-in_err-header : goal.returns-in_err-header
unfolding strict strict_header
returns-in_err-header c = search rules
