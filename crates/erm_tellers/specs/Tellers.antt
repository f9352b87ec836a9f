-- What tellers do: the bank's transactions, as a program issues them.
use Rattle.std.specs.Prelude.{◌≡◌, ◌≢◌, ℕ, ◌+◌, ◌≤◌, ◌^◌, ◌⊎◌, List, [], ◌∷◌, ◌++◌, Option, Some}
use Rattle.erm_accounts.specs.Accounts.{Account, Current, IsBalance, IsDeposit, IsOfBank, IsWithdrawal, Savings, beside, raised, reads, table_of, writes}
use Rattle.erm_client.specs.Dealings.{dealings_of}
use Rattle.erm_client.specs.declared.transcript.Transcript.{Transcript}
use Rattle.erm_good_report.specs.Transactions.{Commits, Transaction, steps_of}
use Rattle.erm_model.specs.declared.operation.Op.TheVariants.{Scan}
use Rattle.erm_model.specs.declared.operation.Reply.TheVariants as reply
use Rattle.erm_model.specs.Run.{Step}
use Rattle.erm_tellers.specs.declared.side.Side.{Side}
use Rattle.erm_tellers.specs.declared.side.Side.TheVariants as side
use Rattle.erm_tellers.specs.declared.tellers.Holder.{Holder}
use Rattle.erm_tellers.specs.declared.tellers.Task.{Task}
use Rattle.erm_tellers.specs.declared.tellers.Task.TheVariants as task

-- the account of a customer that is meant
abbrev pub account_of : Side → Account
account_of side.Current = Current
account_of side.Savings = Savings

-- a scan of accounts, with what was found
abbrev pub finds : Account → ℕ → ℕ → List (ℕ × List ℕ) → Step
finds account low high found = record { op = Scan (table_of account) low high; reply = reply.Found found }

-- A transfer reads both accounts of who pays and one of who is paid. It lowers the one account and raises the other by the amount, where the two of who
-- pays cover it.
pub record IsTransfer (steps : List Step) : Type 0 where
  pub payer : ℕ
  pub payee : ℕ
  pub account : Account
  pub to : Account
  pub amount : ℕ
  pub own : Option (List ℕ)
  pub other : Option (List ℕ)
  pub there : Option (List ℕ)
  pub left : List ℕ
  pub more : List ℕ
  pub apart : payer ≢ payee
  pub steps_are : steps ≡ reads account payer own ∷ reads (beside account) payer other ∷ reads to payee there ∷ writes account payer left ∷ writes to payee more ∷ []
  pub covered : 2 ^ 64 + amount ≤ raised own + raised other
  pub lowered : raised (Some left) + amount ≡ raised own
  pub raised_by : raised (Some more) ≡ raised there + amount
  pub readable : IsBalance (Some left) × IsBalance (Some more)

-- what the tellers' transactions do
abbrev pub IsOfTellers : List Step → Type 0
IsOfTellers steps = IsOfBank steps ⊎ IsTransfer steps

-- the withdrawal, the deposit or the transfer that was asked for
pub record Withdraws (holder : Holder) (amount : ℕ) (steps : List Step) : Type 0 where
  pub is : IsWithdrawal steps
  pub customer_is : is.customer ≡ holder.customer
  pub account_is : is.account ≡ account_of holder.side
  pub amount_is : is.amount ≡ amount

pub record Deposits (holder : Holder) (amount : ℕ) (steps : List Step) : Type 0 where
  pub is : IsDeposit steps
  pub customer_is : is.customer ≡ holder.customer
  pub account_is : is.account ≡ account_of holder.side
  pub amount_is : is.amount ≡ amount

pub record Transfers (payer payee : Holder) (amount : ℕ) (steps : List Step) : Type 0 where
  pub is : IsTransfer steps
  pub payer_is : is.payer ≡ payer.customer
  pub account_is : is.account ≡ account_of payer.side
  pub payee_is : is.payee ≡ payee.customer
  pub to_is : is.to ≡ account_of payee.side
  pub amount_is : is.amount ≡ amount

-- the audit that was asked for: both accounts of customers with these numbers, in one state
abbrev pub Audits : ℕ → ℕ → List (ℕ × List ℕ) → List (ℕ × List ℕ) → List Step → Type 0
Audits low high current savings steps = steps ≡ finds Current low high current ∷ finds Savings low high savings ∷ []

abbrev pub Serves : Task → List Step → Type 0
Serves (task.Withdraw holder amount) steps = Withdraws holder amount steps
Serves (task.Deposit holder amount) steps = Deposits holder amount steps
Serves (task.Transfer payer payee amount) steps = Transfers payer payee amount steps

-- the last transaction that is over committed, and was answered these operations
pub record CommittedAt (steps : List Step) (c : Transcript) : Type 0 where
  pub front : List Transaction
  pub last : Transaction
  pub over : (dealings_of c).over ≡ front ++ last ∷ []
  pub commits : (stamp : ℕ) × (succ : ℕ) × (pred : ℕ) × (last.ending ≡ Commits stamp succ pred)
  pub steps_are : steps_of last ≡ steps

-- of these operations one was done, and committed last
abbrev pub WasDone : (List Step → Type 0) → Transcript → Type 0
WasDone Kind c = (steps : List Step) × Kind steps × CommittedAt steps c
