-- What tellers keep, move and show, whatever the interleaving of their sessions.
use Rattle.std.specs.Prelude.{◌≡◌, ◌↔◌, ℕ, ◌+◌, ◌<◌, ◌≤◌, ◌^◌, List, ◌∷◌, ◌++◌, length}
use Rattle.erm_accounts.specs.Accounts.{AreReadable, AreSolvent, Current, Savings, table_of}
use Rattle.erm_accounts.specs.Totals.{AddUpTo, HoldInAll, total}
use Rattle.erm_client.specs.Dealings.{AllCommitted, commits_told, snapshots_told}
use Rattle.erm_client.specs.declared.transcript.Standing.TheVariants as standing
use Rattle.erm_client.specs.declared.transcript.Transcript.{Transcript}
use Rattle.erm_client.specs.Laws.{AreFrom, answers_of, lines_of}
use Rattle.erm_client_invariant.specs.Laws.{StandsAmong, commits_of}
use Rattle.erm_good_report.specs.Opening.{Opening}
use Rattle.erm_good_report.specs.Phases.{Closed}
use Rattle.erm_invariant.specs.Commits.{transactions_in}
use Rattle.erm_invariant.specs.Invariant.{Lasts}
use Rattle.erm_lines.specs.Executions.{IsOpeningOf}
use Rattle.erm_lines_at_once.specs.Executions.{IsRunAtOnce}
use Rattle.erm_model.specs.Committed.{Committed, rank_of, state_after}
use Rattle.erm_model.specs.Database.{AreFound, Database}
use Rattle.erm_model.specs.Member.{◌∈◌}
use Rattle.erm_model.specs.SerialOrder.{IsSerialOrder}
use Rattle.erm_tellers.specs.Denials.{HasNoTotal}
use Rattle.erm_tellers.specs.Moves.{AreOfTellers, MovesAmong, all_came, all_gone}
use Rattle.erm_tellers.specs.Tellers.{Audits, IsOfTellers}
use Rattle.erm_world.specs.World.{View}

-- Transcripts of tellers, of sessions with seats from 1 on: each tells only tellers' transactions among its commits, and none was told to stop.
pub record AreTellers (all : List Transcript) : Type 0 where
  pub from_first : AreFrom 1 all
  pub opened : (c : Transcript) → c ∈ all → c.standing ≡ standing.Open
  pub kept : (c : Transcript) → c ∈ all → AllCommitted IsOfTellers c

-- THE LAW. Any number of tellers' sessions ran at once, from a map with solvent customers: run in their serial order the commits leave solvent customers,
-- after each of them, and each found them so.
abbrev pub TellersStaySolvent : Type 0
TellersStaySolvent = (v f : View) (all : List Transcript) (closed : List Closed) (opening : Opening) → IsRunAtOnce v (lines_of all) (answers_of all) closed f → IsOpeningOf v opening
    → AreTellers all → AreSolvent opening.map → (order : List Committed) → IsSerialOrder rank_of (commits_of v.opening.sessions all closed) order
    → Lasts AreSolvent (transactions_in order) opening.map (state_after order opening.map)

-- THE LAW of totals. So run, the commits so far have moved the total of each range of customers from the opening's by what came to them and what went.
abbrev pub TellersMoveTotals : Type 0
TellersMoveTotals = (v f : View) (all : List Transcript) (closed : List Closed) (opening : Opening) → IsRunAtOnce v (lines_of all) (answers_of all) closed f → IsOpeningOf v opening
    → AreTellers all → (order : List Committed) → IsSerialOrder rank_of (commits_of v.opening.sessions all closed) order
    → (front rest : List Committed) → order ≡ front ++ rest → (low high : ℕ)
    → (are : AreOfTellers front) × (total (state_after front opening.map) low high + all_gone low high front are ≡ total opening.map low high + all_came low high front are)

-- the same transcripts, where all commits are transfers among customers from low to high, and audits
pub record AreMoving (low high : ℕ) (all : List Transcript) : Type 0 where
  pub from_first : AreFrom 1 all
  pub opened : (c : Transcript) → c ∈ all → c.standing ≡ standing.Open
  pub kept : (c : Transcript) → c ∈ all → AllCommitted (MovesAmong low high) c

-- They keep what the customers hold in all: in the map after each of them it is that, and each found it so.
abbrev pub TransfersKeepTotals : Type 0
TransfersKeepTotals = (v f : View) (all : List Transcript) (closed : List Closed) (opening : Opening) → IsRunAtOnce v (lines_of all) (answers_of all) closed f → IsOpeningOf v opening
    → (low high n : ℕ) → AreMoving low high all → HoldInAll opening.map low high n → (order : List Committed) → IsSerialOrder rank_of (commits_of v.opening.sessions all closed) order
    → Lasts (λ m. HoldInAll m low high n) (transactions_in order) opening.map (state_after order opening.map)

-- What an audit answered is what a map has of the customers from low to high, and it adds up to what they hold in all there.
pub record ShowsTotal (m : Database) (low high : ℕ) (current savings : List (ℕ × List ℕ)) : Type 0 where
  pub current_is : AreFound m (table_of Current) low high current
  pub savings_is : AreFound m (table_of Savings) low high savings
  pub total_is : (n : ℕ) → AddUpTo current savings n ↔ HoldInAll m low high n

-- THE LAW of audits. Each audit that a transcript tells among its snapshots that ended shows the map that the commits before it in the serial order leave.
abbrev pub AuditsShowTotals : Type 0
AuditsShowTotals = (v f : View) (all : List Transcript) (closed : List Closed) (opening : Opening) → IsRunAtOnce v (lines_of all) (answers_of all) closed f → IsOpeningOf v opening
    → AreFrom 1 all → ((c : Transcript) → c ∈ all → c.standing ≡ standing.Open) → (order : List Committed) → IsSerialOrder rank_of (commits_of v.opening.sessions all closed) order
    → (c : Transcript) → c ∈ all → (x : Committed) → x ∈ snapshots_told c
    → (low high : ℕ) (current savings : List (ℕ × List ℕ)) → high < 2 ^ 64 → Audits low high current savings x.steps
    → (place : StandsAmong order opening.map x) × ShowsTotal (state_after place.front opening.map) low high current savings

-- So does each one that a transcript tells among its commits.
abbrev pub AuditsInTransactionsShowTotals : Type 0
AuditsInTransactionsShowTotals = (v f : View) (all : List Transcript) (closed : List Closed) (opening : Opening) → IsRunAtOnce v (lines_of all) (answers_of all) closed f → IsOpeningOf v opening
    → AreFrom 1 all → ((c : Transcript) → c ∈ all → c.standing ≡ standing.Open) → length all ≤ v.opening.sessions
    → (order : List Committed) → IsSerialOrder rank_of (commits_of v.opening.sessions all closed) order
    → (c : Transcript) → c ∈ all → (x : Committed) → x ∈ commits_told c
    → (low high : ℕ) (current savings : List (ℕ × List ℕ)) → high < 2 ^ 64 → Audits low high current savings x.steps
    → (front : List Committed) × (rest : List Committed) × (order ≡ front ++ x ∷ rest) × ShowsTotal (state_after front opening.map) low high current savings

-- So where all commits are transfers among these customers, and audits, each audit of them adds up to what they held at the opening.
abbrev pub AuditsShowWhatIsKept : Type 0
AuditsShowWhatIsKept = (v f : View) (all : List Transcript) (closed : List Closed) (opening : Opening) → IsRunAtOnce v (lines_of all) (answers_of all) closed f → IsOpeningOf v opening
    → (low high n : ℕ) → AreMoving low high all → HoldInAll opening.map low high n → (order : List Committed) → IsSerialOrder rank_of (commits_of v.opening.sessions all closed) order
    → (c : Transcript) → c ∈ all → (x : Committed) → x ∈ snapshots_told c
    → (current savings : List (ℕ × List ℕ)) → high < 2 ^ 64 → Audits low high current savings x.steps → AddUpTo current savings n

-- And whatever tellers do: where the customers were solvent and their accounts readable at the opening, no audit lacks a total.
abbrev pub AuditsHaveTotals : Type 0
AuditsHaveTotals = (v f : View) (all : List Transcript) (closed : List Closed) (opening : Opening) → IsRunAtOnce v (lines_of all) (answers_of all) closed f → IsOpeningOf v opening
    → AreTellers all → AreSolvent opening.map → AreReadable opening.map → (order : List Committed) → IsSerialOrder rank_of (commits_of v.opening.sessions all closed) order
    → (c : Transcript) → c ∈ all → (x : Committed) → x ∈ snapshots_told c
    → (low high : ℕ) (current savings : List (ℕ × List ℕ)) → high < 2 ^ 64 → Audits low high current savings x.steps → HasNoTotal current savings → ⊥
