-- The causes of refusals by the places of their lines: what a good report owes to an answer that refuses, with the lines that show it.
use Rattle.std.specs.Prelude.{◌≡◌, ℕ, ◌<◌, ◌≤◌, List, length, min, Option, Some, None}
use Rattle.std.specs.List.{slice_get}
use Rattle.erm_model.specs.Member.{◌∈◌}
use Rattle.erm_report.specs.declared.answer.Answer.{Answer}
use Rattle.erm_report.specs.declared.answer.Answer.TheVariants as answer
use Rattle.erm_script.specs.declared.script.Command.{Command}
use Rattle.erm_script.specs.declared.script.ScriptLine.{ScriptLine}
use Rattle.erm_good_report.specs.GoodReport.{places_of}
use Rattle.erm_good_report.specs.Opening.{InTurn, Opening}
use Rattle.erm_good_report.specs.Phases.{Closed}
use Rattle.erm_good_report.specs.Refusals.{HasNoWindowBefore, IsNewerBy, IsOwn, IsOwnedBy, Moment, moment_at}
use Rattle.erm_good_report.specs.Transactions.{Exchange, Transaction, transactions_of}
use Rattle.erm_explain.specs.declared.cause.Cause.{Cause}
use Rattle.erm_explain.specs.declared.cause.Cause.TheVariants.{Itself, Line, Window, Missing}
use Rattle.erm_explain.specs.declared.links.Link.{Link}
use Rattle.erm_explain.specs.Books.{IsPlaceOf, exchange_at}

-- the line at this place is one of a transaction, and this is what it asked for, with its answer
pub record IsLineOf (script : List ScriptLine) (answers : List Answer) (t : Transaction) (e : Exchange) (place : ℕ) : Type 0 where
  pub exchange : exchange_at script answers place ≡ Some e
  pub of : IsPlaceOf script answers t.session t.number place

-- OWNED. The line named is one of the other transaction that writes in the table.
pub record NamesOwner (script : List ScriptLine) (answers : List Answer) (m : Moment) (c : Command) (place seat number : ℕ) (link : Link) : Type 0 where
  pub cause : IsOwnedBy m c seat number
  pub other : IsLineOf script answers cause.other cause.writes.line link.other
  pub own : link.own ≡ place

abbrev pub NamesOwned : List ScriptLine → List Answer → Moment → Command → (place seat number : ℕ) → Cause → Type 0
NamesOwned script answers m c place seat number (Line link) = NamesOwner script answers m c place seat number link
NamesOwned script answers m c place seat number Missing = 0 < seat → IsOwnedBy m c seat number → ⊥
NamesOwned script answers m c place seat number cause = ⊥

-- NEWER. The line named is one of the newer commit that writes in the table.
pub record NamesCommit (script : List ScriptLine) (answers : List Answer) (m : Moment) (c : Command) (t : Transaction) (place stamp : ℕ) (link : Link) : Type 0 where
  pub cause : IsNewerBy m c t stamp
  pub other : IsLineOf script answers cause.by cause.writes.line link.other
  pub own : link.own ≡ place

abbrev pub NamesNewer : List ScriptLine → List Answer → Moment → Command → Transaction → (place stamp : ℕ) → Cause → Type 0
NamesNewer script answers m c t place stamp (Line link) = NamesCommit script answers m c t place stamp link
NamesNewer script answers m c t place stamp Missing = (newer : IsNewerBy m c t stamp) → 0 < newer.by.session → ⊥
NamesNewer script answers m c t place stamp cause = ⊥

-- EXCLUDED. Of each end of the window that is closed the two lines are named that touch each other: the one of the commit that overwrote
-- what this one touched, and the one of the commit that touched what this one did.
pub record NamesWindow (script : List ScriptLine) (answers : List Answer) (m : Moment) (t : Transaction) (stamp : Option ℕ) (succ pred : ℕ) (after before : Link) : Type 0 where
  pub cause : HasNoWindowBefore m t stamp succ pred
  pub overwrites : IsLineOf script answers cause.0.after cause.0.succ_cause.line.line after.other
  pub read : IsLineOf script answers t cause.0.succ_cause.other.line after.own
  pub touched : IsLineOf script answers cause.0.before cause.0.pred_cause.line.line before.other
  pub touches : IsLineOf script answers t cause.0.pred_cause.other.line before.own

abbrev pub NamesExcluded : List ScriptLine → List Answer → Moment → Transaction → Option ℕ → (succ pred : ℕ) → Cause → Type 0
NamesExcluded script answers m t stamp succ pred (Window after before) = NamesWindow script answers m t stamp succ pred after before
NamesExcluded script answers m t stamp succ pred Missing = (shut : HasNoWindowBefore m t stamp succ pred) → 0 < shut.0.after.session → 0 < shut.0.before.session → ⊥
NamesExcluded script answers m t stamp succ pred cause = ⊥

-- the cause of an answer to a line at a place: it names the lines of what the report owes to the answer, or the report doesn't have it
abbrev pub Names : List ScriptLine → List Answer → Moment → Command → Transaction → ℕ → Answer → Cause → Type 0
Names script answers m c t place (answer.Owned seat number) cause = NamesOwned script answers m c place seat number cause
Names script answers m c t place (answer.Newer stamp) cause = NamesNewer script answers m c t place stamp cause
Names script answers m c t place (answer.Excluded stamp succ pred) cause = NamesExcluded script answers m t (Some stamp) succ pred cause
Names script answers m c t place (answer.ExcludedEarly succ pred) cause = NamesExcluded script answers m t None succ pred cause
Names script answers m c t place a cause = cause ≡ Itself

-- all transactions of a report of a script, whoever was closed at its end
pub record AreAll (script : List ScriptLine) (answers : List Answer) (all : List Transaction) : Type 0 where
  pub sessions : ℕ
  pub closed : List Closed
  pub few : (l : ScriptLine) → l ∈ script → l.session ≤ sessions
  pub are : all ≡ transactions_of sessions (places_of script answers closed)

-- the cause of the answer to a session's line at a place, whatever the report starts from and whoever was closed at its end
abbrev pub IsCause : List ScriptLine → List Answer → ℕ → ScriptLine → Answer → Cause → Type 0
IsCause script answers place l a cause = (opening : Opening) (all : List Transaction) (t : Transaction) → 0 < l.session → AreAll script answers all
    → IsOwn (moment_at InTurn opening script answers all place l) l.command a t
    → Names script answers (moment_at InTurn opening script answers all place l) l.command t place a cause

-- an answer that no owner, newer commit or closed window refuses is its own cause, whatever the report
abbrev pub IsItself : Answer → Cause → Type 0
IsItself (answer.Owned seat number) cause = Unit {0}
IsItself (answer.Newer stamp) cause = Unit {0}
IsItself (answer.Excluded stamp succ pred) cause = Unit {0}
IsItself (answer.ExcludedEarly succ pred) cause = Unit {0}
IsItself a cause = cause ≡ Itself

-- each answer to a line has its cause, and there are no more causes
pub record AreCauses (script : List ScriptLine) (answers : List Answer) (causes : List Cause) : Type 0 where
  pub count : length causes ≡ min (length script) (length answers)
  pub each : (place : ℕ) (l : ScriptLine) (a : Answer) → slice_get script place ≡ Some l → slice_get answers place ≡ Some a
      → (cause : Cause) × (slice_get causes place ≡ Some cause) × IsItself a cause × IsCause script answers place l a cause
