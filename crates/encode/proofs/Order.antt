-- An encoder's header is the picture's.
-- Assumes nothing.
use Rattle.std.specs.Prelude.{Result, Ok, Err}
use mathlib.Core.Path.{◌≡◌}
use Rattle.pixel.specs.declared.error.Error.{Error}
use Rattle.header.specs.declared.Header.{Header}
use Rattle.encode.specs.declared.Encoder.{Encoder}
use Rattle.encode.specs.Encoded.{encoder_of}

pub good_header : (read : Result Header Error) (encoder : Encoder) → encoder_of read ≡ Ok encoder → read ≡ Ok encoder.header
good_header (Ok header) encoder is = cc
good_header (Err e) encoder is = cc
