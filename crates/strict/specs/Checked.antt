-- What an answer of the strict check means.
use Rattle.rules.specs.Strict.{accepted, rejected}
use Rattle.rules.specs.Strict as rules
use Rattle.std.specs.Prelude.{ℕ, Result, Ok, Err}
use Rattle.pixel.specs.declared.error.Error.{Error}
use Rattle.header.specs.declared.Header.{Header}
use Rattle.strict.specs.declared.Accepted.{Accepted}

-- a message that passes, with its header, chunks and bytes
abbrev pub passes : Header → ℕ → ℕ → Result Accepted Error
passes header chunks bytes = Ok (record { header = header; chunks = chunks; bytes = bytes })

-- header, chunks and bytes, or a refusal
abbrev pub verdict_of : Result Accepted Error → rules.StrictAnswer
verdict_of (Ok passed) = accepted passed.header passed.chunks passed.bytes
verdict_of (Err e) = rejected e
