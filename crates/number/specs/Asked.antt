-- What the number reader's own parts ask of one another; nothing that a public contract cites.
use Rattle.std.specs.Prelude.{ℕ, ◌^◌, ◌<◌, ◌≤◌, Result, Ok, Err}
use Rattle.pixel.specs.declared.error.Error.{Error}
use Rattle.number.specs.declared.Number.{Number}

-- what a group can stand below: at most nine bytes whose value times 128 leaves room for it
abbrev pub GroupFits : ℕ → Result Number Error → Type 0
GroupFits byte (Ok number) = (128 ≤ byte) × (number.value < 2 ^ 57) × (number.used < 10)
GroupFits byte (Err e) = Unit {0}
