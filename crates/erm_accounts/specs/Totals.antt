-- The total of customers with numbers in a range, and what the bank's transactions do to it.
use Rattle.std.specs.Prelude.{◌≡◌, ◌↔◌, ℕ, zero, suc, ◌+◌, ◌-◌, ◌*◌, ◌<◌, ◌^◌, if◌then◌else◌, ◌&&◌, List, length, nat_le, Some, sum_by}
use Rattle.erm_accounts.specs.Accounts.{Account, AreSolvent, Current, IsAudit, IsDeposit, IsWithdrawal, Savings, kept, raised, table_of}
use Rattle.erm_model.specs.Database.{AreFound, Database}
use Rattle.erm_model.specs.Run.{RunsOne, Step, after_all, ops_of}

-- how many numbers there are from low to high
abbrev pub many : ℕ → ℕ → ℕ
many low high = (high + 1) - low

-- the sum of a function over so many numbers, from low on
unfoldable pub sum_from : (ℕ → ℕ) → ℕ → ℕ → ℕ
sum_from f low zero = 0
sum_from f low (suc count) = f low + sum_from f (low + 1) count

-- The sum of the balances that are kept in one table of the customers from low to high, with 2 ^ 63 added for each customer.
abbrev pub held : Database → Account → ℕ → ℕ → ℕ
held m account low high = sum_from (λ customer. raised (kept m account customer)) low (many low high)

-- THE TOTAL of these customers: the sum of the balances of both, with 2 ^ 63 added for each account. Say, where of customers 1 and 2 the one has 100 and
-- nothing, and the other one nothing and 20 below zero, their total is 4 * 2 ^ 63 + 80.
abbrev pub total : Database → ℕ → ℕ → ℕ
total m low high = held m Current low high + held m Savings low high

-- an amount, where the customer is one of these
abbrev pub within : ℕ → ℕ → ℕ → ℕ → ℕ
within low high customer amount = if nat_le low customer && nat_le customer high then amount else 0

-- A deposit raises the total of each range that has its customer by its amount, and leaves that of each other one.
abbrev pub DepositsRaiseTotals : Type 0
DepositsRaiseTotals = (steps : List Step) (is : IsDeposit steps) (m : Database) → RunsOne m steps → (low high : ℕ)
    → total (after_all (ops_of steps) m) low high ≡ total m low high + within low high is.customer is.amount

-- A withdrawal lowers it so.
abbrev pub WithdrawalsLowerTotals : Type 0
WithdrawalsLowerTotals = (steps : List Step) (is : IsWithdrawal steps) (m : Database) → RunsOne m steps → (low high : ℕ)
    → total (after_all (ops_of steps) m) low high + within low high is.customer is.amount ≡ total m low high

-- An audit leaves it.
abbrev pub AuditsLeaveTotals : Type 0
AuditsLeaveTotals = (steps : List Step) → IsAudit steps → (m : Database) → RunsOne m steps → (low high : ℕ) → total (after_all (ops_of steps) m) low high ≡ total m low high

-- the sum of balances that were found, with 2 ^ 63 added to each
abbrev pub sum_found : List (ℕ × List ℕ) → ℕ
sum_found found = sum_by (λ pair. raised (Some pair.1)) found

-- WHAT CUSTOMERS HOLD in all: the sum of their balances, without what is added to each. Say, where of customers 1 and 2 the one has 100 and nothing, and the
-- other one nothing and 20 below zero, they hold 80 in all; and so do all customers, where the others have nothing.
abbrev pub HoldInAll : Database → ℕ → ℕ → ℕ → Type 0
HoldInAll m low high n = total m low high ≡ n + 2 ^ 64 * many low high

-- What was found of both tables adds up to so much: an account that wasn't found holds nothing.
abbrev pub AddUpTo : List (ℕ × List ℕ) → List (ℕ × List ℕ) → ℕ → Type 0
AddUpTo current savings n = n + 2 ^ 63 * (length current + length savings) ≡ sum_found current + sum_found savings

-- Of customers in a map scans of both tables find just what adds up to what they hold.
abbrev pub FoundTotalsAreTotals : Type 0
FoundTotalsAreTotals = (m : Database) (low high : ℕ) (current savings : List (ℕ × List ℕ)) → high < 2 ^ 64 → AreFound m (table_of Current) low high current
    → AreFound m (table_of Savings) low high savings → (n : ℕ) → AddUpTo current savings n ↔ HoldInAll m low high n

-- Solvent customers hold something in all, if it be nothing: they don't owe more than they have.
abbrev pub SolventCustomersHold : Type 0
SolventCustomersHold = (m : Database) → AreSolvent m → (low high : ℕ) → (n : ℕ) × HoldInAll m low high n
