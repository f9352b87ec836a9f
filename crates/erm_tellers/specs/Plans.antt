-- What a teller's calls ask for: which commands, and in which order; and what it is that they were done.
use Rattle.std.specs.Prelude.{◌≡◌, ℕ, ◌⊎◌, List, [], ◌∷◌, ◌++◌}
use Rattle.erm_accounts.specs.Accounts.{Account, Current, Savings, beside, table_of}
use Rattle.erm_client.specs.declared.refusal.Refusal.{Refusal}
use Rattle.erm_client.specs.declared.transcript.Transcript.{Transcript}
use Rattle.erm_client.specs.Refusals.{IsRefusal}
use Rattle.erm_client.specs.Transcripts.{IsAnswered, IsRefused}
use Rattle.erm_report.specs.declared.answer.Answer.{Answer}
use Rattle.erm_report.specs.declared.answer.Answer.TheVariants as answer
use Rattle.erm_script.specs.declared.script.Command.{Command}
use Rattle.erm_script.specs.declared.script.Command.TheVariants as command
use Rattle.erm_tellers.specs.declared.tellers.Holder.{Holder}
use Rattle.erm_tellers.specs.declared.tellers.Task.{Task}
use Rattle.erm_tellers.specs.declared.tellers.Task.TheVariants as task
use Rattle.erm_tellers.specs.Tellers.{account_of}

-- the commands that read an account of a customer, set it, and find the accounts of customers from low to high
abbrev pub gets : Account → ℕ → Command
gets account customer = command.Get (table_of account) customer

abbrev pub puts : Account → ℕ → List ℕ → Command
puts account customer value = command.Put (table_of account) customer value

abbrev pub scans : Account → (low high : ℕ) → Command
scans account low high = command.Scan (table_of account) low high

-- those that read an account that is meant, its customer's other one, and set it
abbrev pub gets_own : Holder → Command
gets_own holder = gets (account_of holder.side) holder.customer

abbrev pub gets_other : Holder → Command
gets_other holder = gets (beside (account_of holder.side)) holder.customer

abbrev pub puts_own : Holder → List ℕ → Command
puts_own holder value = puts (account_of holder.side) holder.customer value

-- What a task asks for first: a begin, and all accounts by which it is to be seen whether it may be done.
abbrev pub looks_for : Task → List Command
looks_for (task.Withdraw holder amount) = command.Begin ∷ gets_own holder ∷ gets_other holder ∷ []
looks_for (task.Deposit holder amount) = command.Begin ∷ gets_own holder ∷ []
looks_for (task.Transfer payer payee amount) = command.Begin ∷ gets_own payer ∷ gets_other payer ∷ gets_own payee ∷ []

-- All that it asks for, where nothing is refused and it may be done: then it sets what it changes to some values, and commits.
abbrev pub IsPlan : Task → List Command → Type 0
IsPlan (task.Withdraw holder amount) plan = (left : List ℕ) × (plan ≡ looks_for (task.Withdraw holder amount) ++ puts_own holder left ∷ command.Commit ∷ [])
IsPlan (task.Deposit holder amount) plan = (more : List ℕ) × (plan ≡ looks_for (task.Deposit holder amount) ++ puts_own holder more ∷ command.Commit ∷ [])
IsPlan (task.Transfer payer payee amount) plan = (left : List ℕ) × (more : List ℕ)
    × (plan ≡ looks_for (task.Transfer payer payee amount) ++ puts_own payer left ∷ puts_own payee more ∷ command.Commit ∷ [])

-- All that an audit asks for, in a snapshot, which a commit ends; and in a transaction.
abbrev pub IsAuditPlan : (low high : ℕ) → List Command → Type 0
IsAuditPlan low high plan = plan ≡ command.Safe ∷ scans Current low high ∷ scans Savings low high ∷ command.Commit ∷ []

abbrev pub IsPlanInTransaction : (low high : ℕ) → List Command → Type 0
IsPlanInTransaction low high plan = plan ≡ command.Begin ∷ scans Current low high ∷ scans Savings low high ∷ command.Commit ∷ []

-- A command was asked, and answered by no refusal. That a snapshot has ended is none, to the commit that is to end it.
pub record IsDone (asked : Command) (c d : Transcript) : Type 0 where
  pub answer : Answer
  pub answered : IsAnswered c asked answer d
  pub granted : IsRefusal answer → ⊥

-- These were, one behind another: the transcript has their lines more, with their answers, and no others.
abbrev pub Did : List Command → Transcript → Transcript → Type 0
Did [] c d = d ≡ c
Did (asked ∷ more) c d = (mid : Transcript) × IsDone asked c mid × Did more mid d

-- An abort was asked, whatever it was answered, and nothing else.
abbrev pub Aborts : Transcript → Transcript → Type 0
Aborts c d = IsAnswered c command.Abort answer.Aborted d ⊎ ((why : Refusal) × IsRefused c command.Abort why d)
