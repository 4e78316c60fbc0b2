-- What the check's own parts ask of one another; nothing that a public contract cites.
use Rattle.std.specs.Prelude.{◌≡◌, List, ℕ, ◌+◌, ◌-◌, ◌≤◌, length}
use Rattle.header.specs.declared.Header.{Header}
use Rattle.rules.specs.Strict.{Tally, strict_from, strict}

-- the tally that a loop's locals are
abbrev pub tally_at : ℕ → ℕ → ℕ → Tally
tally_at at left chunks = record { at = at; left = left; chunks = chunks }

-- at a loop's head: the check from here is the check of the message; each chunk so far counted a pixel or more
pub record Head (header : Header) (message : List ℕ) (pixels left at chunks : ℕ) : Type 0 where
  pub small : pixels ≤ 400000000
  pub inside : at ≤ length message
  pub ahead : chunks + left ≤ pixels
  pub same : strict message ≡ strict_from header message (pixels - chunks) (tally_at at left chunks)
