-- What a teller's call did, by what it answers: over the stretch of the client's transcript that it made.
use Rattle.std.specs.Prelude.{◌≡◌, ℕ, ◌⊎◌, List, [], ◌∷◌, Option, Result, Ok, Err, IsErrAnd}
use Rattle.erm_accounts.specs.Accounts.{beside, reads}
use Rattle.erm_client.specs.Dealings.{IsAt}
use Rattle.erm_client.specs.declared.refusal.Refusal.{Refusal}
use Rattle.erm_client.specs.declared.transcript.Transcript.{Transcript}
use Rattle.erm_client.specs.Stretches.{Went}
use Rattle.erm_model.specs.Committed.{Committed}
use Rattle.erm_model.specs.Run.{Step}
use Rattle.erm_script.specs.declared.script.Command.{Command}
use Rattle.erm_tellers.specs.declared.tellers.Outcome.{Outcome}
use Rattle.erm_tellers.specs.declared.tellers.Outcome.TheVariants.{Done, Short}
use Rattle.erm_tellers.specs.declared.tellers.Task.{Task}
use Rattle.erm_tellers.specs.declared.tellers.Task.TheVariants as task
use Rattle.erm_tellers.specs.Tellers.{Audits, CommittedAt, Serves, account_of}
use Rattle.erm_tellers.specs.Denials.{MayNotAdd, MayNotTake}
use Rattle.erm_tellers.specs.Plans.{Aborts, Did, IsAuditPlan, IsPlan, IsPlanInTransaction, looks_for}
use Rattle.erm_tellers.specs.Tries.{GaveUp, IsHeldUp, IsPassing, IsUnsafe, Tried}

-- One transaction more committed, with these operations: it is the last one that is over.
pub record Commits (steps : List Step) (c d : Transcript) : Type 0 where
  pub commit : Committed
  pub steps_are : commit.steps ≡ steps
  pub went : Went 0 (commit ∷ []) [] c d
  pub last : CommittedAt steps d

-- One snapshot more ended, with these operations, and nothing committed.
pub record Ends (steps : List Step) (c d : Transcript) : Type 0 where
  pub snapshot : Committed
  pub steps_are : snapshot.steps ≡ steps
  pub went : Went 0 [] (snapshot ∷ []) c d

-- What was read doesn't allow what was asked for: these were the operations of the transaction, all of them gets with what they were answered.
abbrev pub Denies : Task → List Step → Type 0
Denies (task.Withdraw holder amount) steps = (own : Option (List ℕ)) × (other : Option (List ℕ))
    × (steps ≡ reads (account_of holder.side) holder.customer own ∷ reads (beside (account_of holder.side)) holder.customer other ∷ []) × MayNotTake amount own other
Denies (task.Deposit holder amount) steps = (own : Option (List ℕ)) × (steps ≡ reads (account_of holder.side) holder.customer own ∷ []) × MayNotAdd amount own
Denies (task.Transfer payer payee amount) steps = (own : Option (List ℕ)) × (other : Option (List ℕ)) × (there : Option (List ℕ))
    × (steps ≡ reads (account_of payer.side) payer.customer own ∷ reads (beside (account_of payer.side)) payer.customer other ∷ reads (account_of payee.side) payee.customer there ∷ [])
    × ((payer.customer ≡ payee.customer) ⊎ MayNotTake amount own other ⊎ MayNotAdd amount there)

-- A task was done in a try: all that it asks for, and nothing else; one transaction committed, which does it, and no snapshot ended.
pub record DidServe (task : Task) (c d : Transcript) : Type 0 where
  pub plan : List Command
  pub planned : IsPlan task plan
  pub did : Did plan c d
  pub commit : Committed
  pub serves : Serves task commit.steps
  pub went : Went 1 (commit ∷ []) [] c d
  pub last : CommittedAt commit.steps d

-- What is read doesn't allow it: all that is to be looked at was read, and nothing else asked for; nothing committed or ended.
pub record FindsShort (task : Task) (c d : Transcript) : Type 0 where
  pub did : Did (looks_for task) c d
  pub steps : List Step
  pub denies : Denies task steps
  pub is : IsAt d steps
  pub went : Went 1 [] [] c d

-- It was found so, and then given up.
pub record FellShort (task : Task) (c d : Transcript) : Type 0 where
  pub moment : Transcript
  pub finds : FindsShort task c moment
  pub aborts : Aborts moment d
  pub went : Went 1 [] [] c d

-- what a task came to in one try, which asks for one begin, before it is given up where it isn't done; and then
abbrev pub Attempted : Task → Result Outcome Refusal → Transcript → Transcript → Type 0
Attempted task (Ok Done) c d = DidServe task c d
Attempted task (Ok Short) c d = FindsShort task c d
Attempted task (Err why) c d = IsHeldUp (IsPlan task) why c d

abbrev pub ServedOnce : Task → Result Outcome Refusal → Transcript → Transcript → Type 0
ServedOnce task (Ok Done) c d = DidServe task c d
ServedOnce task (Ok Short) c d = FellShort task c d
ServedOnce task (Err why) c d = GaveUp (IsPlan task) why c d

-- and in so many tries at most: those before the last one were in vain, and where that was too, all were made
abbrev pub Served : Task → ℕ → Result Outcome Refusal → Transcript → Transcript → Type 0
Served task most result c d = Tried (IsPlan task) IsPassing (ServedOnce task result) (IsErrAnd result IsPassing) most c d

-- An audit was done in a try: all that it asks for, and nothing else; one snapshot ended, whose two scans were answered so, and nothing committed.
pub record DidAudit (low high : ℕ) (current savings : List (ℕ × List ℕ)) (c d : Transcript) : Type 0 where
  pub plan : List Command
  pub planned : IsAuditPlan low high plan
  pub did : Did plan c d
  pub snapshot : Committed
  pub audits : Audits low high current savings snapshot.steps
  pub went : Went 1 [] (snapshot ∷ []) c d

-- what an audit came to in one try, which asks for one snapshot
abbrev pub AuditedOnce : (low high : ℕ) → Result (List (ℕ × List ℕ) × List (ℕ × List ℕ)) Refusal → Transcript → Transcript → Type 0
AuditedOnce low high (Ok both) c d = DidAudit low high both.0 both.1 c d
AuditedOnce low high (Err why) c d = GaveUp (IsAuditPlan low high) why c d

-- and in so many tries at most: those before the last one found no safe snapshot
abbrev pub Audited : (low high most : ℕ) → Result (List (ℕ × List ℕ) × List (ℕ × List ℕ)) Refusal → Transcript → Transcript → Type 0
Audited low high most result c d = Tried (IsAuditPlan low high) IsUnsafe (AuditedOnce low high result) (IsErrAnd result IsUnsafe) most c d

-- An audit was done in a transaction: all that it asks for, and nothing else; it committed, and its two scans were answered so.
pub record DidAuditInTransaction (low high : ℕ) (current savings : List (ℕ × List ℕ)) (c d : Transcript) : Type 0 where
  pub plan : List Command
  pub planned : IsPlanInTransaction low high plan
  pub did : Did plan c d
  pub commit : Committed
  pub audits : Audits low high current savings commit.steps
  pub went : Went 1 (commit ∷ []) [] c d
  pub last : CommittedAt commit.steps d

abbrev pub AuditedInTransaction : ℕ → ℕ → Result (List (ℕ × List ℕ) × List (ℕ × List ℕ)) Refusal → Transcript → Transcript → Type 0
AuditedInTransaction low high (Ok both) c d = DidAuditInTransaction low high both.0 both.1 c d
AuditedInTransaction low high (Err why) c d = GaveUp (IsPlanInTransaction low high) why c d
