-- The causes of a good report: each refusal by another transaction has its lines named.
use Rattle.std.specs.Prelude.{◌≡◌, ◌≢◌, ℕ, List, length, Some, None}
use Rattle.std.specs.List.{slice_get}
use Rattle.erm_model.specs.Member.{◌∈◌}
use Rattle.erm_report.specs.declared.answer.Answer.{Answer}
use Rattle.erm_report.specs.declared.answer.Answer.TheVariants as answer
use Rattle.erm_report.specs.declared.line.Line.{Line as AnyLine}
use Rattle.erm_script.specs.declared.grammar.Grammar.{Grammar}
use Rattle.erm_script.specs.declared.script.Command.{Command}
use Rattle.erm_script.specs.declared.script.ScriptLine.{ScriptLine}
use Rattle.erm_script.specs.Script.{IsScript}
use Rattle.erm_good_report.specs.GoodReport.{IsCutReport, IsGoodReport, places_of}
use Rattle.erm_good_report.specs.Opening.{InTurn, Opening}
use Rattle.erm_good_report.specs.Refusals.{IsOwn, Moment, moment_at}
use Rattle.erm_good_report.specs.Transactions.{Transaction, transactions_of}
use Rattle.erm_explain.specs.declared.cause.Cause.{Cause}
use Rattle.erm_explain.specs.declared.cause.Cause.TheVariants.{Line, Window, Missing}
use Rattle.erm_explain.specs.declared.links.Link.{Link}
use Rattle.erm_explain.specs.Named.{AreCauses, NamesCommit, NamesOwner, NamesWindow}

-- an owner, a newer commit or a closed window refuses
abbrev pub IsRefusal : Answer → Type 0
IsRefusal (answer.Owned seat number) = Unit {0}
IsRefusal (answer.Newer stamp) = Unit {0}
IsRefusal (answer.Excluded stamp succ pred) = Unit {0}
IsRefusal (answer.ExcludedEarly succ pred) = Unit {0}
IsRefusal a = ⊥

-- The cause of a refusal names lines, and they are those of what the report owes to the answer.
abbrev pub Shows : List ScriptLine → List Answer → Moment → Command → Transaction → ℕ → Answer → Cause → Type 0
Shows script answers m c t place (answer.Owned seat number) cause = (link : Link) × (cause ≡ Line link) × NamesOwner script answers m c place seat number link
Shows script answers m c t place (answer.Newer stamp) cause = (link : Link) × (cause ≡ Line link) × NamesCommit script answers m c t place stamp link
Shows script answers m c t place (answer.Excluded stamp succ pred) cause =
    (after before : Link) × (cause ≡ Window after before) × NamesWindow script answers m t (Some stamp) succ pred after before
Shows script answers m c t place (answer.ExcludedEarly succ pred) cause =
    (after before : Link) × (cause ≡ Window after before) × NamesWindow script answers m t None succ pred after before
Shows script answers m c t place a cause = ⊥

-- the line's session was in a transaction, and the cause of the answer to it shows
pub record IsShown (script : List ScriptLine) (answers : List Answer) (m : Moment) (c : Command) (place : ℕ) (a : Answer) (cause : Cause) : Type 0 where
  pub own : Transaction
  pub is_own : IsOwn m c a own
  pub shows : Shows script answers m c own place a cause

-- each refusal has its cause shown
abbrev pub EachIsShown : Opening → List ScriptLine → List Answer → List Transaction → List Cause → Type 0
EachIsShown opening script answers all causes = (place : ℕ) (l : ScriptLine) (a : Answer) → slice_get script place ≡ Some l → slice_get answers place ≡ Some a → IsRefusal a
    → (cause : Cause) × (slice_get causes place ≡ Some cause) × IsShown script answers (moment_at InTurn opening script answers all place l) l.command place a cause

-- each refusal has its cause shown, and no cause is missing
pub record AreShown (opening : Opening) (script : List ScriptLine) (answers : List Answer) (all : List Transaction) (causes : List Cause) : Type 0 where
  pub each : EachIsShown opening script answers all causes
  pub none_missing : (cause : Cause) → cause ∈ causes → cause ≢ Missing

-- Good reports: where a report of a script whose lines were run in turn is good, the causes of its answers show each refusal, and none is missing.
abbrev pub GoodReportsShowCauses : Type 0
GoodReportsShowCauses = (g : Grammar) (bytes : List ℕ) (names : List (List ℕ)) (script : List ScriptLine) (opening : Opening) (lines : List AnyLine) (causes : List Cause)
    → IsScript g bytes names script → (good : IsGoodReport InTurn opening names script lines) → AreCauses script good.report.answers causes
    → AreShown opening script good.report.answers (transactions_of (length names) (places_of script good.report.answers good.report.closed)) causes

-- So it is of the report of a run that the disk's fault cut off.
abbrev pub CutReportsShowCauses : Type 0
CutReportsShowCauses = (g : Grammar) (bytes : List ℕ) (names : List (List ℕ)) (script : List ScriptLine) (opening : Opening) (lines : List AnyLine) (causes : List Cause)
    → IsScript g bytes names script → (cut : IsCutReport InTurn opening names script lines) → AreCauses script cut.answers causes
    → AreShown opening script cut.answers (transactions_of (length names) (places_of script cut.answers cut.closed)) causes
