-- What the tellers' transactions bring to the accounts of customers from low to high, and what they take from them.
use Rattle.std.specs.Prelude.{◌≡◌, ℕ, ◌+◌, ◌≤◌, ◌⊎◌, List, [], ◌∷◌}
use Rattle.std.proofs.Common.{inl, inr}
use Rattle.erm_accounts.specs.Accounts.{IsAudit}
use Rattle.erm_accounts.specs.Totals.{total, within}
use Rattle.erm_model.specs.Committed.{Committed}
use Rattle.erm_model.specs.Database.{Database}
use Rattle.erm_model.specs.Run.{RunsOne, Step, after_all, ops_of}
use Rattle.erm_tellers.specs.Tellers.{IsOfTellers, IsTransfer}

-- the amount that comes to them: of a deposit to one of them, and of a transfer to one of them
abbrev pub came : ℕ → ℕ → (steps : List Step) → IsOfTellers steps → ℕ
came low high steps (inl (inl withdrawal)) = 0
came low high steps (inl (inr (inl deposit))) = within low high deposit.customer deposit.amount
came low high steps (inl (inr (inr audit))) = 0
came low high steps (inr transfer) = within low high transfer.payee transfer.amount

-- and the amount that goes: of a withdrawal from one of them, and of a transfer from one of them
abbrev pub gone : ℕ → ℕ → (steps : List Step) → IsOfTellers steps → ℕ
gone low high steps (inl (inl withdrawal)) = within low high withdrawal.customer withdrawal.amount
gone low high steps (inl (inr (inl deposit))) = 0
gone low high steps (inl (inr (inr audit))) = 0
gone low high steps (inr transfer) = within low high transfer.payer transfer.amount

-- A transaction of the tellers that is run alone moves the total of these customers so: a transfer among them leaves it as it is.
abbrev pub TransactionsMoveTotals : Type 0
TransactionsMoveTotals = (steps : List Step) (kind : IsOfTellers steps) (m : Database) → RunsOne m steps → (low high : ℕ)
    → total (after_all (ops_of steps) m) low high + gone low high steps kind ≡ total m low high + came low high steps kind

-- commits of the tellers, and what comes and goes by all of them
abbrev pub AreOfTellers : List Committed → Type 0
AreOfTellers [] = Unit {0}
AreOfTellers (x ∷ xs) = IsOfTellers x.steps × AreOfTellers xs

abbrev pub all_came : ℕ → ℕ → (xs : List Committed) → AreOfTellers xs → ℕ
all_came low high [] are = 0
all_came low high (x ∷ xs) are = came low high x.steps are.0 + all_came low high xs are.1

abbrev pub all_gone : ℕ → ℕ → (xs : List Committed) → AreOfTellers xs → ℕ
all_gone low high [] are = 0
all_gone low high (x ∷ xs) are = gone low high x.steps are.0 + all_gone low high xs are.1

-- a transfer from one of these customers to another one of them
pub record IsTransferAmong (low high : ℕ) (steps : List Step) : Type 0 where
  pub is : IsTransfer steps
  pub payer_above : low ≤ is.payer
  pub payer_below : is.payer ≤ high
  pub payee_above : low ≤ is.payee
  pub payee_below : is.payee ≤ high

-- transfers among them, and audits
abbrev pub MovesAmong : ℕ → ℕ → List Step → Type 0
MovesAmong low high steps = IsTransferAmong low high steps ⊎ IsAudit steps
