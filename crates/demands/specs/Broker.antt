-- The one premise on the broker.
use Rattle.std.specs.Prelude.{List, ◌≡◌, ℕ}

-- what a broker delivers, and the premise on it, which no call can test
pub record Broker : Type 1 where
  -- a message comes under a number, any number of times
  pub delivers : ℕ → List ℕ → Type 0
  -- equal numbers mean equal bytes
  pub equal_bytes : (number : ℕ) (m m' : List ℕ) → delivers number m → delivers number m' → m ≡ m'
