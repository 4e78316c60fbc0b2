-- `resume::Decoder::picture_size` meets its contract: the picture's size does not saturate.
-- Assumes nothing.
use Rattle.std.proofs.Common.{rules}
use Rattle.resume.specs.State.{state_of}
use Rattle.resume.proofs.RunLaws.{exactly}
use Rattle.resume.proofs.Decoder.picture_size.Goals as goal

pub returns-then-room-required : goal.returns-then-room-required
returns-then-room-required c = let size = exactly (state_of c.args.self.now) cc in search rules

pub returns-then-message-self : goal.returns-then-message-self
returns-then-message-self c = let size = exactly (state_of c.args.self.now) cc in search rules

pub returns : goal.returns
returns c = let size = exactly (state_of c.args.self.now) cc in search rules
