-- Small reports of sessions at once.
use Rattle.std.specs.Prelude.{ℕ, ◌<◌, List, [], ◌∷◌, codes}
use Rattle.std.specs.FinMap.{empty}
use Rattle.erm_report.specs.declared.answer.Answer.TheVariants as answer
use Rattle.erm_report.specs.declared.line.Line.{Line}
use Rattle.erm_report.specs.declared.line.Line.TheVariants as line
use Rattle.erm_script.specs.declared.script.Command.{Command}
use Rattle.erm_script.specs.declared.script.Command.TheVariants as command
use Rattle.erm_script.specs.declared.script.ScriptLine.{ScriptLine}
use Rattle.erm_good_report.specs.GoodReport.{IsCutReport}
use Rattle.erm_good_report.specs.Opening.{AtOnce, InTurn, Opening}
use Rattle.erm_good_report.specs.Stamps.{AllInTime, Told, begin_told, stamp_printed}
use Rattle.erm_good_report.specs.Transactions.{Said, Transaction, said_of, transactions_of}
use Rattle.erm_good_at_once.specs.CutReports.{IsCutAtOnce}
use Rattle.erm_good_at_once.specs.Rising.{StampsRise}

-- an empty map, with the opening's block at 8 in run 1; the roots of the sixteen tables are objects
abbrev pub first_opening : Opening
first_opening = record { map = empty; stamp = 8; run = 1; rows = 0; first = 16 }

abbrev asks : ℕ → ℕ → Command → ScriptLine
asks number session command = record { line = number; session = session; command = command }

-- what StampsAgree says of the stamps printed is so
abbrev pub BeginsAgree : List Said → Type 0
BeginsAgree said = AllInTime AtOnce (λ a b. Told (λ stamp begin. stamp < begin) (stamp_printed a.answer) (begin_told b.answer)) said

-- a session's put is refused, and then it begins again; the second session has begun between
abbrev pub refused_put : List ScriptLine
refused_put = asks 1 2 command.Begin ∷ asks 2 1 command.Begin ∷ asks 3 1 (command.Put 0 1 []) ∷ asks 4 1 command.Begin ∷ []

-- it was refused by a commit with stamp 20, and begins at 20
abbrev pub said_met : List Said
said_met = said_of refused_put (answer.Began 13 ∷ answer.Began 13 ∷ answer.ExcludedEarly 18 20 ∷ answer.Began 20 ∷ [])

abbrev pub BegunAtOneMet : Type 0
BegunAtOneMet = BeginsAgree said_met × ((transactions : List Transaction) → StampsRise AtOnce transactions said_met → ⊥)

-- it was refused by the second session's transaction, which has begun at 30, and begins at 20
abbrev pub said_named : List Said
said_named = said_of refused_put (answer.Began 30 ∷ answer.Began 13 ∷ answer.Owned 2 1 ∷ answer.Began 20 ∷ [])

abbrev pub BegunBelowItsOwner : Type 0
BegunBelowItsOwner = BeginsAgree said_named × (StampsRise AtOnce (transactions_of 2 said_named) said_named → ⊥)

-- two sessions, of which the second one's line alone is answered, and then the disk fails
abbrev pub names : List (List ℕ)
names = codes "a" ∷ codes "b" ∷ []

abbrev pub script_with_gap : List ScriptLine
script_with_gap = asks 1 1 command.Begin ∷ asks 2 2 command.Abort ∷ asks 3 1 command.Abort ∷ []

abbrev pub lines_with_gap : List Line
lines_with_gap = line.Open 8 1 ∷ line.Answer 2 answer.NoTransaction ∷ line.DiskFault ∷ []

abbrev pub GapIsAllowed : Type 0
GapIsAllowed = IsCutAtOnce first_opening names script_with_gap lines_with_gap × (IsCutReport InTurn first_opening names script_with_gap lines_with_gap → ⊥)

-- a session's second line is answered, and its first one isn't
abbrev pub lines_with_hole : List Line
lines_with_hole = line.Open 8 1 ∷ line.Answer 3 answer.NoTransaction ∷ line.DiskFault ∷ []

abbrev pub HoleIsRefused : Type 0
HoleIsRefused = IsCutAtOnce first_opening names script_with_gap lines_with_hole → ⊥

-- a session without a transaction aborts one
abbrev pub lines_out_of_phase : List Line
lines_out_of_phase = line.Open 8 1 ∷ line.Answer 2 answer.Aborted ∷ line.DiskFault ∷ []

abbrev pub OutOfPhaseIsRefused : Type 0
OutOfPhaseIsRefused = IsCutAtOnce first_opening names script_with_gap lines_out_of_phase → ⊥
