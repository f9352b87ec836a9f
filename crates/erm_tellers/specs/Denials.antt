-- When what is kept of accounts doesn't allow an amount to be taken, or added, and when it has no total.
use Rattle.std.specs.Prelude.{◌≢◌, ℕ, ◌+◌, ◌*◌, ◌<◌, ◌≤◌, ◌^◌, ◌⊎◌, List, length, Option, Some, None}
use Rattle.erm_accounts.specs.Accounts.{raised}
use Rattle.erm_accounts.specs.Totals.{sum_found}
use Rattle.erm_model.specs.Member.{◌∈◌}

-- no balance is kept there, but something else than eight bytes
abbrev pub IsUnreadable : Option (List ℕ) → Type 0
IsUnreadable None = ⊥
IsUnreadable (Some bytes) = length bytes ≢ 8

-- The two of a customer don't cover the amount, or the one would be too low to be kept. Of 40 and 60 no more than 100 may be taken.
abbrev pub MayNotTake : ℕ → Option (List ℕ) → Option (List ℕ) → Type 0
MayNotTake amount own other = IsUnreadable own ⊎ IsUnreadable other ⊎ (raised own < amount) ⊎ (raised own + raised other < 2 ^ 64 + amount)

-- It would be too high to be kept.
abbrev pub MayNotAdd : ℕ → Option (List ℕ) → Type 0
MayNotAdd amount own = IsUnreadable own ⊎ (2 ^ 64 ≤ raised own + amount)

-- some of what was found is no balance
abbrev pub AreUnreadable : List (ℕ × List ℕ) → Type 0
AreUnreadable found = (pair : ℕ × List ℕ) × (pair ∈ found) × IsUnreadable (Some pair.1)

-- What was found of customers has no total: some of it is no balance, or they owe more than they have.
abbrev pub HasNoTotal : List (ℕ × List ℕ) → List (ℕ × List ℕ) → Type 0
HasNoTotal current savings = AreUnreadable current ⊎ AreUnreadable savings ⊎ (sum_found current + sum_found savings < 2 ^ 63 * (length current + length savings))
