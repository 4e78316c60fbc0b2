-- `walk::lanes::Lanes::of_bytes` meets its contract: two bytes in each number, 16 bits apart.
-- Assumes nothing.
use native.Mathlib.Omega.{arith}
use Rattle.walk.proofs.LanesLaws.{made}
use Rattle.walk.proofs.lanes.Lanes.of_bytes.Goals as goal

pub returns : goal.returns
returns c =
    made _ c.args.r c.args.g c.args.b c.args.a
    (omega arith) (omega arith)
    (rw (c.from.ensures, c.from-2.ensures)) (rw (c.from-3.ensures, c.from-4.ensures))
