-- A report of sessions at once that is made with more names than its script needs: behind the script's names stand spare ones, of sessions
-- that no line is of. With the script's names alone it is a good report too, and says the same.
use Rattle.std.specs.Prelude.{◌≡◌, ℕ, ◌≤◌, List, ◌++◌, length}
use Rattle.erm_model.specs.Member.{◌∈◌}
use Rattle.erm_report.specs.declared.line.Line.{Line}
use Rattle.erm_script.specs.declared.script.ScriptLine.{ScriptLine}
use Rattle.erm_good_report.specs.GoodReport.{places_of}
use Rattle.erm_good_report.specs.Opening.{Opening}
use Rattle.erm_good_report.specs.Transactions.{Said, transactions_of}
use Rattle.erm_good_at_once.specs.CutReports.{IsCutAtOnce, answered_of}
use Rattle.erm_good_at_once.specs.GoodAtOnce.{IsGoodAtOnce}

-- each line of a script is of one of the first sessions, so many, or names none
abbrev pub NamesOnlyFirst : ℕ → List ScriptLine → Type 0
NamesOnlyFirst sessions script = (l : ScriptLine) → l ∈ script → l.session ≤ sessions

-- what was said tells the same transactions with the spare names as without
abbrev pub TellNoMore : (names spare : List (List ℕ)) → List Said → Type 0
TellNoMore names spare said = transactions_of (length names) said ≡ transactions_of (length (names ++ spare)) said

-- A good report with spare names is one without, and says the same.
abbrev pub GoodWithoutSpare : Opening → (names spare : List (List ℕ)) → List ScriptLine → List Line → Type 0
GoodWithoutSpare opening names spare script lines = (told : IsGoodAtOnce opening (names ++ spare) script lines)
    → (good : IsGoodAtOnce opening names script lines) × (good.good.report ≡ told.good.report)
    × TellNoMore names spare (places_of script told.good.report.answers told.good.report.closed)

-- the same of a report that the disk's fault cut off
abbrev pub CutWithoutSpare : Opening → (names spare : List (List ℕ)) → List ScriptLine → List Line → Type 0
CutWithoutSpare opening names spare script lines = (told : IsCutAtOnce opening (names ++ spare) script lines)
    → (cut : IsCutAtOnce opening names script lines) × (cut.counts ≡ told.counts) × (cut.answers ≡ told.answers) × (cut.closed ≡ told.closed)
    × TellNoMore names spare (places_of (answered_of told.counts script) told.answers told.closed)

-- spare names, of sessions that no line of the script is of, tell nothing
pub record SpareNamesTellNothing : Type 0 where
  pub good : (opening : Opening) (names spare : List (List ℕ)) (script : List ScriptLine) (lines : List Line) → NamesOnlyFirst (length names) script
      → GoodWithoutSpare opening names spare script lines
  pub cut : (opening : Opening) (names spare : List (List ℕ)) (script : List ScriptLine) (lines : List Line) → NamesOnlyFirst (length names) script
      → CutWithoutSpare opening names spare script lines
