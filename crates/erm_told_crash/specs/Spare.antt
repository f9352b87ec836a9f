-- A script whose lines name no session tells of none: a report with one name is one with no names too.
use Rattle.std.specs.Prelude.{◌≡◌, ℕ, List, [], ◌∷◌}
use Rattle.erm_model.specs.Member.{◌∈◌}
use Rattle.erm_report.specs.declared.line.Line.{Line}
use Rattle.erm_script.specs.declared.script.TheConstants.{NO_SESSION}
use Rattle.erm_script.specs.declared.script.ScriptLine.{ScriptLine}
use Rattle.erm_good_report.specs.GoodReport.{IsCutReport, IsTightReport, places_of}
use Rattle.erm_good_report.specs.Opening.{Mode, Opening}
use Rattle.erm_good_report.specs.Transactions.{transactions_of}

-- no line of a script names a session
abbrev pub NamesNoSession : List ScriptLine → Type 0
NamesNoSession script = (l : ScriptLine) → l ∈ script → l.session ≡ NO_SESSION

-- A tight report with a spare name is one with no names, and says the same: no session is closed in it, and no transaction is told.
abbrev pub TightWithoutSpare : Mode → Opening → List ℕ → List ScriptLine → List Line → Type 0
TightWithoutSpare mode opening name script lines = (told : IsTightReport mode opening (name ∷ []) script lines)
    → (tight : IsTightReport mode opening [] script lines) × (tight.good.report ≡ told.good.report) × (told.good.report.closed ≡ [])
    × (transactions_of 1 (places_of script told.good.report.answers told.good.report.closed) ≡ [])

-- the same of a report that the disk's fault cut off
abbrev pub CutWithoutSpare : Mode → Opening → List ℕ → List ScriptLine → List Line → Type 0
CutWithoutSpare mode opening name script lines = (told : IsCutReport mode opening (name ∷ []) script lines)
    → (cut : IsCutReport mode opening [] script lines) × (cut.answers ≡ told.answers) × (cut.fault ≡ told.fault) × (cut.closed ≡ told.closed)
    × (transactions_of 1 (places_of script told.answers told.closed) ≡ [])

-- of scripts that name no session a spare name tells nothing
pub record SpareNamesTellNothing : Type 0 where
  pub tight : (mode : Mode) (opening : Opening) (name : List ℕ) (script : List ScriptLine) (lines : List Line) → NamesNoSession script
      → TightWithoutSpare mode opening name script lines
  pub cut : (mode : Mode) (opening : Opening) (name : List ℕ) (script : List ScriptLine) (lines : List Line) → NamesNoSession script
      → CutWithoutSpare mode opening name script lines
