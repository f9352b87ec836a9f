-- What tellers on a disk leave of the bank's customers, and what their audits show.
use Rattle.std.specs.Prelude.{◌≡◌, ℕ, ◌<◌, ◌^◌, Bool, false, List, ◌++◌, Option}
use Rattle.erm_accounts.specs.Accounts.{AreSolvent}
use Rattle.erm_accounts.specs.Totals.{AddUpTo, HoldInAll}
use Rattle.erm_bank.specs.declared.teller.Teller.{Teller}
use Rattle.erm_bank.specs.declared.teller.Told.TheVariants as told
use Rattle.erm_bank.specs.Tellers.{AllMoveWithin}
use Rattle.erm_ckpt.specs.Recovered.{State}
use Rattle.erm_client.specs.Dealings.{AllCommitted, snapshots_told}
use Rattle.erm_client.specs.declared.transcript.Transcript.{Transcript}
use Rattle.erm_client_beside.specs.declared.ran.ProgramRun.{ProgramRun}
use Rattle.erm_client_disk.specs.Leaves.{ClientsAreDone, ClientsOutlive}
use Rattle.erm_client_disk.specs.Ran.{AreShort, NoneStarved, transcripts_of}
use Rattle.erm_client_told.specs.Told.{all_commits}
use Rattle.erm_crash_invariant.specs.Crashes.{RecoversWith}
use Rattle.erm_disk_invariant.specs.Runs.{CrashesKeep}
use Rattle.erm_model.specs.Committed.{Committed, IsStateBelow, rank_of, state_after}
use Rattle.erm_model.specs.Database.{Database}
use Rattle.erm_model.specs.Member.{◌∈◌}
use Rattle.erm_model.specs.SerialOrder.{IsSerialOrder}
use Rattle.erm_node.specs.TreeMap.{map_of_rows}
use Rattle.erm_outside.specs.Disk.{Step, Tells, contents}
use Rattle.erm_report.specs.declared.answer.Answer.{Answer}
use Rattle.erm_tellers.specs.Laws.{AreTellers}
use Rattle.erm_tellers.specs.Moves.{MovesAmong}
use Rattle.erm_tellers.specs.Tellers.{Audits, IsOfTellers}

-- the map found on a disk
abbrev pub map_of : State → Database
map_of state = map_of_rows state.rows

-- at the end the disk recovers to a map that has the invariant
abbrev pub EndsWith : (Database → Type 0) → Option (List Step) → Option (List Step) → Type 0
EndsWith Invariant before after = Tells (λ old new. RecoversWith Invariant (contents new)) before after

-- THE LAW of crashes. Where the customers found on a disk were solvent, and all commits are the tellers', so are those of each recovery.
abbrev pub CrashesLeaveSolvent : Type 0
CrashesLeaveSolvent = (before after : Option (List Step)) (state : State) (all : List Transcript) → ClientsOutlive before after state all → AreSolvent (map_of state)
    → ((c : Transcript) → c ∈ all → AllCommitted IsOfTellers c) → CrashesKeep AreSolvent before after

-- And where all commits are transfers among some customers, and audits, these hold in each recovery what they held.
abbrev pub CrashesLeaveTotals : Type 0
CrashesLeaveTotals = (before after : Option (List Step)) (state : State) (all : List Transcript) → ClientsOutlive before after state all → (low high n : ℕ) → HoldInAll (map_of state) low high n
    → ((c : Transcript) → c ∈ all → AllCommitted (MovesAmong low high) c) → CrashesKeep (λ m. HoldInAll m low high n) before after

-- So it is of the disk at the end, where the tellers were done.
abbrev pub EndsLeaveSolvent : Type 0
EndsLeaveSolvent = (before after : Option (List Step)) (state : State) (all : List Transcript) (closed : List (Option Answer)) → ClientsAreDone before after state all closed → AreSolvent (map_of state)
    → ((c : Transcript) → c ∈ all → AllCommitted IsOfTellers c) → EndsWith AreSolvent before after

abbrev pub EndsLeaveTotals : Type 0
EndsLeaveTotals = (before after : Option (List Step)) (state : State) (all : List Transcript) (closed : List (Option Answer)) → ClientsAreDone before after state all closed
    → (low high n : ℕ) → HoldInAll (map_of state) low high n → ((c : Transcript) → c ∈ all → AllCommitted (MovesAmong low high) c) → EndsWith (λ m. HoldInAll m low high n) before after

-- A total was one: so much the customers from low to high held in all in the state that those of these commits make that lie below some stamp.
pub record WasTotal (commits : List Committed) (m : Database) (low high total : ℕ) : Type 0 where
  pub stamp : ℕ
  pub state : Database
  pub below_stamp : IsStateBelow commits m stamp state
  pub holds : HoldInAll state low high total

-- THE LAW of audits. Each total that a transcript's audit adds up to was one.
abbrev pub AuditsShowWhatWas : Type 0
AuditsShowWhatWas = (before after : Option (List Step)) (state : State) (all : List Transcript) → ClientsOutlive before after state all
    → (c : Transcript) → c ∈ all → (x : Committed) → x ∈ snapshots_told c → (low high total : ℕ) (current savings : List (ℕ × List ℕ)) → high < 2 ^ 64
    → Audits low high current savings x.steps → AddUpTo current savings total → WasTotal (all_commits all) (map_of state) low high total

-- And where all commits are transfers among these customers, and audits, it is what they held when the disk was opened.
abbrev pub AuditsShowWhatIs : Type 0
AuditsShowWhatIs = (before after : Option (List Step)) (state : State) (all : List Transcript) → ClientsOutlive before after state all → (low high n : ℕ) → HoldInAll (map_of state) low high n
    → ((c : Transcript) → c ∈ all → AllCommitted (MovesAmong low high) c) → (total : ℕ) → WasTotal (all_commits all) (map_of state) low high total → total ≡ n

-- A total was one in the serial order of all: so much they held in a state behind some of these commits, the first ones in that order.
pub record StoodInOrder (commits : List Committed) (m : Database) (low high total : ℕ) : Type 0 where
  pub order : List Committed
  pub serial : IsSerialOrder rank_of commits order
  pub front : List Committed
  pub rest : List Committed
  pub split : order ≡ front ++ rest
  pub holds : HoldInAll (state_after front m) low high total

-- So each total was where the clients were done.
abbrev pub AuditsStandInOrder : Type 0
AuditsStandInOrder = (before after : Option (List Step)) (state : State) (all : List Transcript) (closed : List (Option Answer)) → ClientsAreDone before after state all closed → AreTellers all
    → (c : Transcript) → c ∈ all → (x : Committed) → x ∈ snapshots_told c → (low high total : ℕ) (current savings : List (ℕ × List ℕ)) → high < 2 ^ 64
    → Audits low high current savings x.steps → AddUpTo current savings total → StoodInOrder (all_commits all) (map_of state) low high total

-- WHAT IS SO OF A BANK on a disk whose tellers ran, where their transcripts have fewer than 2^32 lines in all. No image that a crash leaves at any moment, and
-- that shows each block and each slot whole, or none, has a customer who owes more than he has, where none did when the disk was opened;
-- and where the tellers were asked only for transfers among some customers, and for audits, these hold as much in all, whatever crash there was. Each total that
-- a teller tells was one, also where the disk failed or memory ran out; and in such a bank it is what the customers held when the disk was opened. Where the
-- disk hasn't failed, and memory ran out for none within a line, the end is as a crash leaves it, and each total was one in the serial order of all commits.
pub record BankStays (before after : Option (List Step)) (state : State) (failed : Bool) (tellers : List Teller) (runs : List (ProgramRun Teller)) : Type 0 where
  pub solvent : AreShort (transcripts_of runs) → AreSolvent (map_of state) → CrashesKeep AreSolvent before after
  pub kept : AreShort (transcripts_of runs) → (low high n : ℕ) → AllMoveWithin low high tellers → HoldInAll (map_of state) low high n → CrashesKeep (λ m. HoldInAll m low high n) before after
  pub shown : AreShort (transcripts_of runs) → (r : ProgramRun Teller) → r ∈ runs → (low high total : ℕ) → told.Total low high total ∈ r.program.told.items
      → WasTotal (all_commits (transcripts_of runs)) (map_of state) low high total
  pub told_kept : AreShort (transcripts_of runs) → (low high n : ℕ) → AllMoveWithin low high tellers → HoldInAll (map_of state) low high n
      → (r : ProgramRun Teller) → r ∈ runs → (total : ℕ) → told.Total low high total ∈ r.program.told.items → total ≡ n
  pub ends_solvent : failed ≡ false → NoneStarved (transcripts_of runs) → AreShort (transcripts_of runs) → AreSolvent (map_of state) → EndsWith AreSolvent before after
  pub ends_kept : failed ≡ false → NoneStarved (transcripts_of runs) → AreShort (transcripts_of runs)
      → (low high n : ℕ) → AllMoveWithin low high tellers → HoldInAll (map_of state) low high n → EndsWith (λ m. HoldInAll m low high n) before after
  pub in_order : failed ≡ false → NoneStarved (transcripts_of runs) → AreShort (transcripts_of runs)
      → (r : ProgramRun Teller) → r ∈ runs → (low high total : ℕ) → told.Total low high total ∈ r.program.told.items → StoodInOrder (all_commits (transcripts_of runs)) (map_of state) low high total
