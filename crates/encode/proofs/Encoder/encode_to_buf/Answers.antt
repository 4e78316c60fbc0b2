-- `encode::Encoder::encode_to_buf` meets its contract: it refuses dimensions, then the length, then the room, and else
-- the stream fits.
-- Assumes nothing.
use Rattle.std.proofs.Common.{rules}
use Rattle.rules.specs.Encode.{encoding_under, encoding_into}
use mathlib.Core.Bool.{true}
use mathlib.Core.Path.{◌≡◌}
use native.Mathlib.Omega.{arith}
use Rattle.header.specs.Header.{dimensions_fit}
use Rattle.rules.proofs.PictureLaws.{stream_fits}
use Rattle.encode.proofs.Encoder.encode_to_buf.Goals as goal

pub returns-then-not-dimensions_fit : goal.returns-then-not-dimensions_fit
unfolding encoding_under
returns-then-not-dimensions_fit c = search rules

pub returns-then-given-n_bytes : goal.returns-then-given-n_bytes
unfolding encoding_under
returns-then-given-n_bytes c = search rules

pub returns-then-size-required : goal.returns-then-size-required
unfolding encoding_under encoding_into
returns-then-size-required c = search rules

pub write_stream-requires : goal.write_stream-requires
write_stream-requires c =
    let fit : dimensions_fit c.args.self.header.width c.args.self.header.height ≡ true = search rules in
    let room = stream_fits c.args.self.header c.args.pixels.now (rw fit tt) (λ i h. omega (arith, c.type_inv.pixels i)) in
    search rules

pub returns : goal.returns
unfolding encoding_under encoding_into
returns c = search rules
