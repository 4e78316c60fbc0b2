-- Document 02's Q-13, deliveries: calls that come again, in any order, and a month delivered at least once.
use Rattle.std.specs.Prelude.{cond, ◌≡◌, ℕ, zero, suc, ◌*◌, ◌≤◌, ◌<◌, ltb, Option, None}
use mathlib.Core.List.{List, [], ◌∷◌, ◌++◌, Memᴰ}
use Rattle.totals.specs.Counting.{Call}
use Rattle.months.specs.Month.{brings}

-- every buffer holds a frame of so many cells, four bytes each
abbrev pub Roomy : ℕ → List Call → Type 0
Roomy cell_count cs = (c : Call) → Memᴰ c cs → cell_count * 4 ≤ c.room

-- the same hour and message; the buffers may differ in size
pub record Alike (c d : Call) : Type 0 where
  pub same_hour : c.hour ≡ d.hour
  pub same_message : c.message ≡ d.message

-- one of some calls is like this one
pub record OneLike (d : Call) (cs : List Call) : Type 0 where
  pub call : Call
  pub one_of_them : Memᴰ call cs
  pub alike : Alike call d

-- calls each of which is like one of others: any of those, in any order and however often
abbrev pub Among : List Call → List Call → Type 0
Among ds cs = (d : Call) → Memᴰ d ds → OneLike d cs

-- one message for each hour
abbrev pub OneEach : List Call → Type 0
OneEach cs = (c d : Call) → Memᴰ c cs → Memᴰ d cs → c.hour ≡ d.hour → c.message ≡ d.message

-- the call that delivers an hour, where `sent` has each hour's message
abbrev pub call_for : ℕ → (ℕ → List ℕ) → ℕ → Call
call_for cell_count sent hour = record { hour = hour; message = sent hour; room = cell_count * 4 }

-- the hours 0 to k-1 delivered each once and in order
unfoldable pub in_order : ℕ → (ℕ → List ℕ) → ℕ → List Call
in_order cell_count sent zero = []
in_order cell_count sent (suc k) = in_order cell_count sent k ++ (call_for cell_count sent k ∷ [])

-- the hours 0 to k-1 delivered at least once: each call is for one of them and has its message, and none is missing
pub record AtLeastOnce (cell_count : ℕ) (sent : ℕ → List ℕ) (k : ℕ) (ds : List Call) : Type 0 where
  pub of_the_hours : (d : Call) → Memᴰ d ds → d.hour < k
  pub as_sent : (d : Call) → Memᴰ d ds → d.message ≡ sent d.hour
  pub roomy : Roomy cell_count ds
  pub each_hour : (hour : ℕ) → hour < k → (d : Call) × Memᴰ d ds × (d.hour ≡ hour)

-- the frame of an hour below k: what the call that delivers it brings
unfoldable pub sent_for : ℕ → (ℕ → List ℕ) → ℕ → ℕ → Option (List ℕ)
sent_for cell_count sent k hour =
    cond (ltb hour k) (brings cell_count (call_for cell_count sent hour)) None
