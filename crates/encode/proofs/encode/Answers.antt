-- `encode::encode` meets its contract: it refuses the picture's header, then the colour space, and else encodes under
-- both.
-- Assumes nothing.
use Rattle.std.proofs.Common.{rules}
use Rattle.rules.specs.Encode.{encoding, after_picture_header, after_space, picture_header}
use Rattle.rules.proofs.HeadedLaws.{picture_headed, under_into}
use Rattle.encode.proofs.Order.{good_header}
use lib.ListN.{length}
use Rattle.encode.proofs.encode.Goals as goal

pub returns-in_err-encoder : goal.returns-in_err-encoder
unfolding encoding after_picture_header
returns-in_err-encoder c = search rules

pub returns-in_err-space : goal.returns-in_err-space
unfolding encoding after_picture_header after_space
returns-in_err-space c = search rules

pub returns : goal.returns
unfolding encoding after_picture_header after_space
returns c =
    let a = c.args in
    let read = good_header (picture_header a.pixels.now a.width a.height) c.in_ok-encoder.encoder (search rules) in
    let of = (picture_headed _ _ _ _ read).picture_is in
    let same = under_into a.pixels.now (length a.out.now) c.with_colorspace.result.header (rw (c.with_colorspace.ensures) (record { fit = of.fit; needed = of.needed })) in
    search rules
