-- A worked report: write skew. Two sessions read the same two keys, and each writes one of them; the first commits, and the second
-- is excluded.
use Rattle.std.specs.Prelude.{◌≡◌, ℕ, ◌+◌, ◌<◌, List, [], ◌∷◌, ◌++◌, Some, codes}
use Rattle.std.specs.FinMap.{empty}
use Rattle.erm_model.specs.Database.{at}
use Rattle.erm_model.specs.declared.operation.Reply.TheVariants as reply
use Rattle.erm_report.specs.declared.answer.Answer.{Answer}
use Rattle.erm_report.specs.declared.answer.Answer.TheVariants as answer
use Rattle.erm_report.specs.declared.line.Line.{Line}
use Rattle.erm_report.specs.declared.line.Line.TheVariants as line
use Rattle.erm_script.specs.declared.script.Command.{Command}
use Rattle.erm_script.specs.declared.script.Command.TheVariants as command
use Rattle.erm_script.specs.declared.script.ScriptLine.{ScriptLine}
use Rattle.erm_good_report.specs.GoodReport.{IsGoodReport, IsTightReport}
use Rattle.erm_good_report.specs.Opening.{InTurn, Opening}

-- an empty map, with the opening's block at 8 in run 1; the roots of the sixteen tables are objects
abbrev pub first_opening : Opening
first_opening = record { map = empty; stamp = 8; run = 1; rows = 0; first = 16 }

abbrev pub names : List (List ℕ)
names = codes "a" ∷ codes "b" ∷ []

abbrev asks : ℕ → ℕ → Command → ScriptLine
asks number session command = record { line = number; session = session; command = command }

abbrev pub script : List ScriptLine
script =
    asks 1 1 command.Begin
    ∷ asks 2 1 (command.Put 0 10 (170 ∷ []))
    ∷ asks 3 1 (command.Put 0 20 (187 ∷ []))
    ∷ asks 4 1 command.Commit
    ∷ asks 5 1 command.Begin
    ∷ asks 6 2 command.Begin
    ∷ asks 7 1 (command.Get 0 10)
    ∷ asks 8 1 (command.Get 0 20)
    ∷ asks 9 2 (command.Get 0 10)
    ∷ asks 10 2 (command.Get 0 20)
    ∷ asks 11 1 (command.Put 0 10 (161 ∷ []))
    ∷ asks 12 2 (command.Put 0 20 (177 ∷ []))
    ∷ asks 13 1 command.Commit
    ∷ asks 14 2 command.Commit
    ∷ []

abbrev pub answers : Answer → List Answer
answers last =
    answer.Began 13
    ∷ answer.Replied reply.Done
    ∷ answer.Replied reply.Done
    ∷ answer.Committed 13 13 0
    ∷ answer.Began 38
    ∷ answer.Began 38
    ∷ answer.Replied (reply.Value (Some (170 ∷ [])))
    ∷ answer.Replied (reply.Value (Some (187 ∷ [])))
    ∷ answer.Replied (reply.Value (Some (170 ∷ [])))
    ∷ answer.Replied (reply.Value (Some (187 ∷ [])))
    ∷ answer.Replied reply.Done
    ∷ answer.Replied reply.Done
    ∷ answer.Committed 38 38 13
    ∷ last ∷ []

-- the lines of the answers, of which the last one is this
abbrev numbered : ℕ → List Answer → List Line
numbered number [] = []
numbered number (a ∷ answers) = line.Answer number a ∷ numbered (number + 1) answers

abbrev pub report_with : Answer → List Line
report_with last =
    line.Open 8 1
    ∷ numbered 1 (answers last)
    ++ line.Order 2
    ∷ line.Commit (codes "a") 1 13 13 0
    ∷ line.Commit (codes "a") 2 38 38 13
    ∷ line.Map 2
    ∷ line.Pair (record { key = at 0 10; value = 161 ∷ [] })
    ∷ line.Pair (record { key = at 0 20; value = 187 ∷ [] })
    ∷ line.End
    ∷ []

-- with its second session excluded, the report is good, and its windows are tight
abbrev pub WriteSkewIsExcluded : Type 0
WriteSkewIsExcluded = IsTightReport InTurn first_opening names script (report_with (answer.Excluded 47 38 38))

-- Wherever the script is run from, in a good report that excludes the second session so the stamps of its window are these, and its own
-- stamp is above.
abbrev pub ItsWindowIsDetermined : Type 0
ItsWindowIsDetermined = (opening : Opening) (stamp succ pred : ℕ) → IsGoodReport InTurn opening names script (report_with (answer.Excluded stamp succ pred))
    → (succ ≡ 38) × (pred ≡ 38) × (38 < stamp)
