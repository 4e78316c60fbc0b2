-- What the loop of `read_record::slots_of` keeps.
use Rattle.std.proofs.Common.{◌≡◌, length, take}
use Rattle.pixel.specs.Bytes.{pixels_from}
use Rattle.resume.proofs.read_record.slots_of.Given as goal

abbrev pub invariant-loop-i : goal.invariant-loop-i
invariant-loop-i l = (length l.slots ≡ 64) × (take l.i l.slots ≡ pixels_from l.i 4 l.bytes)
