-- How many bytes may follow falls at each call.
use Rattle.number.proofs.+read_more.Given as goal

abbrev pub decreases-read_more : goal.decreases-read_more
decreases-read_more l = l.more
