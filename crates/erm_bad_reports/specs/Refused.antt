-- Small reports with an answer that has no cause: what surrounds the answer, and a list of the answers.
use Rattle.std.specs.Prelude.{◌≡◌, ℕ, List, [], ◌∷◌, take, Some}
use Rattle.std.specs.List.{slice_get}
use Rattle.erm_model.specs.Database.{at}
use Rattle.erm_model.specs.declared.operation.Op.TheVariants as op
use Rattle.erm_model.specs.declared.operation.Reply.TheVariants as reply
use Rattle.erm_report.specs.declared.answer.Answer.{Answer}
use Rattle.erm_report.specs.declared.answer.Answer.TheVariants as answer
use Rattle.erm_report.specs.declared.line.Line.{Line}
use Rattle.erm_script.specs.declared.script.Command.TheVariants as command
use Rattle.erm_script.specs.declared.script.ScriptLine.{ScriptLine}
use Rattle.erm_good_report.specs.GoodReport.{IsGoodReport}
use Rattle.erm_good_report.specs.Opening.{Mode, Opening}
use Rattle.erm_good_report.specs.Transactions.{Exchange, Transaction, progress_of, said_of}
use Rattle.erm_bad_reports.specs.Clauses.{Case}
use Rattle.erm_bad_reports.specs.Cases.{a_line, b_line, case_of, commit_by, one_name, opening_at, two_names}

-- a line of a session that has no transaction
abbrev pub alone : Exchange → Case
alone r = case_of one_name (a_line r.asked ∷ []) (r.answer ∷ []) [] []

-- no log ends at 5, and no number is the last one; nothing was committed that is durable or isn't; nothing is flushed up to where all was
-- flushed, nor is nothing left elsewhere; no block isn't decided
abbrev pub answers_alone : List Exchange
answers_alone =
    record { asked = command.Begin; answer = answer.LogEnd 5 }
    ∷ record { asked = command.Begin; answer = answer.NumbersEnd }
    ∷ record { asked = command.Durable; answer = answer.Durable 13 }
    ∷ record { asked = command.Durable; answer = answer.NotFlushed 13 }
    ∷ record { asked = command.Flush; answer = answer.Flushed 13 }
    ∷ record { asked = command.Flush; answer = answer.Empty 14 }
    ∷ record { asked = command.Flush; answer = answer.Unfilled 13 }
    ∷ record { asked = command.Checkpoint; answer = answer.Unfilled 13 }
    ∷ []

-- a line of a transaction that then aborts
abbrev pub before_abort : Exchange → Case
before_abort r = case_of one_name (a_line command.Begin ∷ a_line r.asked ∷ a_line command.Abort ∷ []) (answer.Began 13 ∷ r.answer ∷ answer.Aborted ∷ []) [] []

-- the second session is not sealed; one line reads, claims and makes fewer than the most; and no world has so many cells
abbrev pub answers_before_abort : List Exchange
answers_before_abort =
    record { asked = command.Get 0 1; answer = answer.WaitSeat 2 5 }
    ∷ record { asked = command.Get 0 1; answer = answer.ReadsFull }
    ∷ record { asked = command.Put 0 1 (1 ∷ []); answer = answer.WritesFull }
    ∷ record { asked = command.Put 0 1 (1 ∷ []); answer = answer.CellsFull 65536 }
    ∷ record { asked = command.Put 0 1 (1 ∷ []); answer = answer.CellsFull 20000000 }
    ∷ record { asked = command.Put 0 1 (1 ∷ []); answer = answer.OidsFull 16384 }
    ∷ []

-- a commit that waits, and is settled then
abbrev pub before_settle : Answer → Case
before_settle a = case_of one_name (a_line command.Begin ∷ a_line command.Commit ∷ a_line command.Settle ∷ []) (answer.Began 13 ∷ a ∷ answer.Committed 18 18 0 ∷ [])
    (commit_by 1 1 13 18 18 0 [] ∷ []) []

-- the second session is not sealed; the ring has room
abbrev pub answers_before_settle : List Answer
answers_before_settle = answer.WaitSeat 2 5 ∷ answer.WaitRing 13 ∷ []

-- a line after a commit with stamp 13
abbrev pub after_commit : Exchange → Case
after_commit r = case_of one_name (a_line command.Begin ∷ a_line command.Commit ∷ a_line r.asked ∷ []) (answer.Began 13 ∷ answer.Committed 13 13 0 ∷ r.answer ∷ [])
    (commit_by 1 1 13 13 13 0 [] ∷ []) []

-- there is a receipt, which isn't flushed; the commit is not below 13
abbrev pub answers_after_commit : List Exchange
answers_after_commit =
    record { asked = command.Durable; answer = answer.NoReceipt }
    ∷ record { asked = command.Durable; answer = answer.Durable 13 }
    ∷ record { asked = command.Checkpoint; answer = answer.Checkpointed 13 }
    ∷ []

-- a transaction is told of a newer version, and no other one committed
abbrev pub newer_than_nothing : Case
newer_than_nothing = case_of one_name (a_line command.Begin ∷ a_line (command.Put 0 1 (1 ∷ [])) ∷ []) (answer.Began 13 ∷ answer.Newer 20 ∷ []) [] []

-- the first session's put is refused so, and the second one puts the key afterwards, and commits
abbrev pub refused_first : Answer → Case
refused_first refusal = case_of two_names
    (a_line command.Begin ∷ b_line command.Begin ∷ a_line (command.Put 0 1 (2 ∷ [])) ∷ b_line (command.Put 0 1 (1 ∷ [])) ∷ b_line command.Commit ∷ [])
    (answer.Began 13 ∷ answer.Began 13 ∷ refusal ∷ answer.Replied reply.Done ∷ answer.Committed 13 13 0 ∷ [])
    (commit_by 2 1 13 13 13 0 (record { op = op.Put 0 1 (1 ∷ []); reply = reply.Done } ∷ []) ∷ [])
    (record { key = at 0 1; value = 1 ∷ [] } ∷ [])

-- a get has read all that it may, where there are rows enough for it, but its transaction has no line besides
abbrev pub reads_alone : Case
reads_alone = record (before_abort (record { asked = command.Get 0 1; answer = answer.ReadsFull })) { opening = record (opening_at 8) { rows = 600 } }

-- objects may be full, but not so far above their limit
abbrev pub oids_beyond : Case
oids_beyond = record (before_abort (record { asked = command.Put 0 1 (1 ∷ []); answer = answer.OidsFull 20000 })) { opening = record (opening_at 8) { first = 16380 } }

-- No good report answers a line of a transaction that cells are full at this number, whatever its lines claim.
abbrev pub NoneTellsCells : ℕ → Type 0
NoneTellsCells drawn = (mode : Mode) (opening : Opening) (names : List (List ℕ)) (script : List ScriptLine) (lines : List Line) (good : IsGoodReport mode opening names script lines)
    → (i : ℕ) (l : ScriptLine) (own : Transaction) → slice_get script i ≡ Some l → (progress_of l.session (take i (said_of script good.report.answers))).current ≡ Some own
    → slice_get good.report.answers i ≡ Some (answer.CellsFull drawn) → ⊥
