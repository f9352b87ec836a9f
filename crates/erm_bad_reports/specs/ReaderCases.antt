-- Small reports of two sessions that only read: neither is a cause of what the other one meets.
use Rattle.std.specs.Prelude.{ℕ, List, [], ◌∷◌, None}
use Rattle.erm_model.specs.Committed.{Committed}
use Rattle.erm_model.specs.Database.{at}
use Rattle.erm_model.specs.declared.operation.Op.TheVariants as op
use Rattle.erm_model.specs.declared.operation.Reply.TheVariants as reply
use Rattle.erm_report.specs.declared.answer.Answer.{Answer}
use Rattle.erm_report.specs.declared.answer.Answer.TheVariants as answer
use Rattle.erm_script.specs.declared.script.Command.{Command}
use Rattle.erm_script.specs.declared.script.Command.TheVariants as command
use Rattle.erm_bad_reports.specs.Clauses.{Case}
use Rattle.erm_bad_reports.specs.Cases.{a_line, b_line, case_of, commit_by, two_names}
use Rattle.erm_bad_reports.specs.StampParts.{c_line, three_names}

-- a commit of the session with this number, with these stamps, that got the key
abbrev pub reader : ℕ → ℕ → ℕ → ℕ → Committed
reader session stamp succ pred = commit_by session 1 13 stamp succ pred (record { op = op.Get 0 1; reply = reply.Value None } ∷ [])

-- both sessions begin and get the key, and then these lines are answered so; the second one commits with this predecessor stamp
abbrev pub two_readers : List (ℕ × Command) → List Answer → ℕ → Case
two_readers lines answers pred = case_of two_names
    (a_line command.Begin ∷ b_line command.Begin ∷ a_line (command.Get 0 1) ∷ b_line (command.Get 0 1) ∷ lines)
    (answer.Began 13 ∷ answer.Began 13 ∷ answer.Replied (reply.Value None) ∷ answer.Replied (reply.Value None) ∷ answers)
    (reader 1 13 13 0 ∷ reader 2 18 18 pred ∷ []) []

-- the stamp of the first one is the second one's predecessor stamp
abbrev pub reader_precedes : Case
reader_precedes = two_readers (a_line command.Commit ∷ b_line command.Commit ∷ []) (answer.Committed 13 13 0 ∷ answer.Committed 18 18 13 ∷ []) 13

-- the second one waits for the first one to be decided
abbrev pub reader_waits : Case
reader_waits = two_readers (a_line command.Seal ∷ b_line command.Commit ∷ a_line command.Settle ∷ b_line command.Settle ∷ [])
    (answer.Sealed 13 ∷ answer.WaitSeat 1 13 ∷ answer.Committed 13 13 0 ∷ answer.Committed 18 18 0 ∷ []) 0

-- The first session gets a key that the second one puts, which commits with 13; a third one gets another key, and commits with 18. The first one is excluded:
-- its successor stamp is the writer's, and its predecessor stamp the reader's.
abbrev pub reader_excludes : Case
reader_excludes = case_of three_names
    (a_line command.Begin ∷ b_line command.Begin ∷ c_line command.Begin ∷ a_line (command.Get 0 1) ∷ b_line (command.Put 0 1 (1 ∷ [])) ∷ c_line (command.Get 0 2)
    ∷ b_line command.Commit ∷ c_line command.Commit ∷ a_line command.Commit ∷ [])
    (answer.Began 13 ∷ answer.Began 13 ∷ answer.Began 13 ∷ answer.Replied (reply.Value None) ∷ answer.Replied reply.Done ∷ answer.Replied (reply.Value None)
    ∷ answer.Committed 13 13 0 ∷ answer.Committed 18 18 0 ∷ answer.Excluded 23 13 18 ∷ [])
    (commit_by 2 1 13 13 13 0 (record { op = op.Put 0 1 (1 ∷ []); reply = reply.Done } ∷ [])
    ∷ commit_by 3 1 13 18 18 0 (record { op = op.Get 0 2; reply = reply.Value None } ∷ []) ∷ [])
    (record { key = at 0 1; value = 1 ∷ [] } ∷ [])
