-- Accounts at a bank: each customer has two, of which one may be overdrawn while the other one covers it. This is the textbook's example
-- of write skew: of two withdrawals that begin together each may find enough, and leave too little.
use Rattle.std.specs.Prelude.{◌≡◌, ℕ, ◌+◌, ◌≤◌, ◌^◌, ◌⊎◌, List, [], ◌∷◌, length, Option, Some, None}
use Rattle.std.specs.Int.{from_be_bytes, w64}
use Rattle.std.specs.FinMap.{from_entries}
use Rattle.std.specs.List.{All}
use Rattle.erm_good_report.specs.GoodReport.{IsGoodReport}
use Rattle.erm_good_report.specs.Opening.{Mode, Opening}
use Rattle.erm_invariant.specs.Invariant.{IsRead, Lasts}
use Rattle.erm_model.specs.Database.{Database, entries_of, value_at}
use Rattle.erm_model.specs.Run.{RunsAll, RunsOne, Step, after_all, ops_of}
use Rattle.erm_model.specs.declared.operation.Op.{Op}
use Rattle.erm_model.specs.declared.operation.Op.TheVariants.{Get, Put}
use Rattle.erm_model.specs.declared.operation.Reply.{Reply}
use Rattle.erm_model.specs.declared.operation.Reply.TheVariants as reply
use Rattle.erm_report.specs.declared.line.Line.{Line}
use Rattle.erm_report_invariant.specs.Reports.{commits_in}
use Rattle.erm_script.specs.declared.script.ScriptLine.{ScriptLine}

-- A balance is kept with 2 ^ 63 added to it, as a number of eight bytes, the highest first. Where no value is kept it is zero.
abbrev pub raised : Option (List ℕ) → ℕ
raised None = 2 ^ 63
raised (Some bytes) = from_be_bytes w64 bytes

-- the two accounts of a customer
pub data Account : Type 0 where
  Current : Account
  Savings : Account

-- each is kept in a table of its own, under the customer's number
abbrev pub table_of : Account → ℕ
table_of Current = 0
table_of Savings = 1

-- the customer's other account
abbrev pub beside : Account → Account
beside Current = Savings
beside Savings = Current

-- what is kept of a customer's account
abbrev pub kept : Database → Account → ℕ → Option (List ℕ)
kept m account customer = value_at m (table_of account) customer

-- what is kept is a balance, if something is
abbrev pub IsBalance : Option (List ℕ) → Type 0
IsBalance None = Unit {0}
IsBalance (Some bytes) = length bytes ≡ 8

-- what is kept of each account is a balance
abbrev pub AreReadable : Database → Type 0
AreReadable m = (account : Account) (customer : ℕ) → IsBalance (kept m account customer)

-- The invariant: of each customer the sum of the two balances is at or above zero.
abbrev pub AreSolvent : Database → Type 0
AreSolvent m = (customer : ℕ) → 2 ^ 64 ≤ raised (kept m Current customer) + raised (kept m Savings customer)

abbrev asks : Op → Reply → Step
asks op reply = record { op = op; reply = reply }

-- a get of an account with what it was answered, and a put
abbrev pub reads : Account → ℕ → Option (List ℕ) → Step
reads account customer value = asks (Get (table_of account) customer) (reply.Value value)

abbrev pub writes : Account → ℕ → List ℕ → Step
writes account customer value = asks (Put (table_of account) customer value) reply.Done

-- A withdrawal reads both accounts of a customer and lowers one by the amount. It is asked for only where the two that it read cover it.
pub record IsWithdrawal (steps : List Step) : Type 0 where
  pub customer : ℕ
  pub account : Account
  pub amount : ℕ
  pub own : Option (List ℕ)
  pub other : Option (List ℕ)
  pub left : List ℕ
  pub steps_are : steps ≡ reads account customer own ∷ reads (beside account) customer other ∷ writes account customer left ∷ []
  pub covered : 2 ^ 64 + amount ≤ raised own + raised other
  pub lowered : raised (Some left) + amount ≡ raised own
  pub readable : IsBalance (Some left)

-- A deposit reads one account and raises it by the amount.
pub record IsDeposit (steps : List Step) : Type 0 where
  pub customer : ℕ
  pub account : Account
  pub amount : ℕ
  pub own : Option (List ℕ)
  pub left : List ℕ
  pub steps_are : steps ≡ reads account customer own ∷ writes account customer left ∷ []
  pub raised_by : raised (Some left) ≡ raised own + amount
  pub readable : IsBalance (Some left)

-- An audit only reads.
abbrev pub IsAudit : List Step → Type 0
IsAudit steps = All (λ step. IsRead step.op) steps

-- what the bank's transactions do
abbrev pub IsOfBank : List Step → Type 0
IsOfBank steps = IsWithdrawal steps ⊎ IsDeposit steps ⊎ IsAudit steps

-- whatever the bank's transactions, run one after another, customers that were solvent stay so
abbrev pub CustomersStaySolvent : Type 0
CustomersStaySolvent = (m n : Database) (transactions : List (List Step)) → AreSolvent m → All IsOfBank transactions → RunsAll m transactions n
    → Lasts AreSolvent transactions m n

-- Whatever the interleaving, where the bank's transactions are all that commits, a good report's map shows customers that are solvent.
abbrev pub ReportsShowSolventCustomers : Type 0
ReportsShowSolventCustomers = (mode : Mode) (opening : Opening) (names : List (List ℕ)) (script : List ScriptLine) (lines : List Line)
    (good : IsGoodReport mode opening names script lines) → AreSolvent opening.map → All (λ c. IsOfBank c.steps) (commits_in names script good.report)
    → AreSolvent (from_entries (entries_of good.report.pairs))

-- Two withdrawals that are each answered as on one map with solvent customers, and together leave a map where one isn't.
pub record IsSkewed (m : Database) (first second : List Step) : Type 0 where
  pub solvent : AreSolvent m
  pub withdraws : IsWithdrawal first
  pub other_withdraws : IsWithdrawal second
  pub run : RunsOne m first
  pub other_run : RunsOne m second
  pub breaks : AreSolvent (after_all (ops_of second) (after_all (ops_of first) m)) → ⊥

-- There are such: so it isn't enough that each transaction is answered from a snapshot.
abbrev pub SnapshotsMaySkew : Type 0
SnapshotsMaySkew = (m : Database) × (first : List Step) × (second : List Step) × IsSkewed m first second
