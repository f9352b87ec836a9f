-- What an invariant that each commit keeps gives of a report: of its map, of the order of its commits, and of each transaction's replies.
use Rattle.std.specs.Prelude.{◌≡◌, ℕ, List, length}
use Rattle.std.specs.FinMap.{from_entries}
use Rattle.erm_model.specs.Committed.{Committed}
use Rattle.erm_model.specs.Database.{Database, entries_of}
use Rattle.erm_model.specs.Member.{◌∈◌}
use Rattle.erm_report.specs.declared.answer.Answer.{Answer}
use Rattle.erm_report.specs.declared.line.Line.{Line}
use Rattle.erm_script.specs.declared.script.ScriptLine.{ScriptLine}
use Rattle.erm_good_report.specs.GoodReport.{IsGoodReport, OwesToAnswers, Report, places_of}
use Rattle.erm_good_report.specs.Opening.{Mode, Opening}
use Rattle.erm_good_report.specs.Transactions.{Commits, Transaction, history_of, steps_of, transactions_of}
use Rattle.erm_invariant.specs.Commits.{AllKeep, EachFrontRuns, SeesSome, transactions_in}
use Rattle.erm_invariant.specs.Invariant.{Keeps, Lasts}

-- the commits that a report tells: each by the operations that were answered, with the replies printed
abbrev pub commits_in : List (List ℕ) → List ScriptLine → Report → List Committed
commits_in names script r = history_of (transactions_of (length names) (places_of script r.answers r.closed))

-- The commits keep an invariant where each transaction that is told to commit does: of one that ended otherwise nothing is asked.
abbrev pub CommitsKeep : (Database → Type 0) → Type 0
CommitsKeep Invariant = (told : List Transaction)
    → ((t : Transaction) (stamp succ pred : ℕ) → t ∈ told → t.ending ≡ Commits stamp succ pred → Keeps Invariant (steps_of t)) → AllKeep Invariant (history_of told)

-- Where the map that a good report starts from has an invariant, and each commit that it tells keeps it, the invariant lasts through the
-- commits and the snapshots in the printed order, and the map printed has it. Of a snapshot nothing is asked: it only reads.
abbrev pub GoodReportsKeep : (Database → Type 0) → Type 0
GoodReportsKeep Invariant = (mode : Mode) (opening : Opening) (names : List (List ℕ)) (script : List ScriptLine) (lines : List Line)
    (good : IsGoodReport mode opening names script lines) → Invariant opening.map → AllKeep Invariant (commits_in names script good.report)
    → Lasts Invariant (transactions_in good.report.order) opening.map (from_entries (entries_of good.report.pairs))

-- Where besides each front of the commits is a serial run, each transaction that is told is answered from a map that has the invariant,
-- also one that was refused in the end.
abbrev pub AnswersSee : (Database → Type 0) → Type 0
AnswersSee Invariant = (mode : Mode) (opening : Opening) (script : List ScriptLine) (answers : List Answer) (told : List Transaction)
    → OwesToAnswers mode opening script answers told → Invariant opening.map → AllKeep Invariant (history_of told) → EachFrontRuns (history_of told) opening.map
    → (t : Transaction) → t ∈ told → SeesSome Invariant (steps_of t)
