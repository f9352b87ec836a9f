-- Small reports whose windows lack a cause.
use Rattle.std.specs.Prelude.{ℕ, List, [], ◌∷◌, None}
use Rattle.erm_model.specs.Committed.{Committed}
use Rattle.erm_model.specs.Database.{at}
use Rattle.erm_model.specs.declared.operation.Op.TheVariants as op
use Rattle.erm_model.specs.declared.operation.Reply.TheVariants as reply
use Rattle.erm_report.specs.declared.answer.Answer.{Answer}
use Rattle.erm_report.specs.declared.answer.Answer.TheVariants as answer
use Rattle.erm_script.specs.declared.script.Command.TheVariants as command
use Rattle.erm_bad_reports.specs.Clauses.{Case}
use Rattle.erm_bad_reports.specs.Cases.{a_line, b_line, case_of, commit_by, one_name, two_names}

-- a commit's successor stamp is that of no commit
abbrev pub successor_unknown : Case
successor_unknown = case_of one_name (a_line command.Begin ∷ a_line command.Commit ∷ []) (answer.Began 13 ∷ answer.Committed 13 9 0 ∷ [])
    (commit_by 1 1 13 13 9 0 [] ∷ []) []

-- the second session puts the key that the first one then gets, and commits; this is the outcome of the first one, and this the order
abbrev pub put_beside : Answer → List Committed → Case
put_beside outcome order = case_of two_names
    (a_line command.Begin ∷ b_line command.Begin ∷ b_line (command.Put 0 1 (1 ∷ [])) ∷ b_line command.Commit ∷ a_line (command.Get 0 1) ∷ a_line command.Commit ∷ [])
    (answer.Began 13 ∷ answer.Began 13 ∷ answer.Replied reply.Done ∷ answer.Committed 13 13 0 ∷ answer.Replied (reply.Value None) ∷ outcome ∷ [])
    order (record { key = at 0 1; value = 1 ∷ [] } ∷ [])

abbrev pub writer : Committed
writer = commit_by 2 1 13 13 13 0 (record { op = op.Put 0 1 (1 ∷ []); reply = reply.Done } ∷ [])

-- it commits though its window is closed
abbrev pub window_closed : Case
window_closed = put_beside (answer.Committed 18 13 13) (commit_by 1 1 13 18 13 13 (record { op = op.Get 0 1; reply = reply.Value None } ∷ []) ∷ writer ∷ [])

-- it is excluded with these ends of its window
abbrev pub excluded_with : ℕ → ℕ → Case
excluded_with succ pred = put_beside (answer.Excluded 18 succ pred) (writer ∷ [])

-- The second session has sealed its put of the key when the first one gets it, and is decided only afterwards; this is the outcome of the first
-- one, and this the order.
abbrev pub sealed_beside : Answer → List Committed → Case
sealed_beside outcome order = case_of two_names
    (a_line command.Begin ∷ b_line command.Begin ∷ b_line (command.Put 0 1 (1 ∷ [])) ∷ b_line command.Seal ∷ a_line (command.Get 0 1) ∷ a_line command.Commit ∷ b_line command.Settle ∷ [])
    (answer.Began 13 ∷ answer.Began 13 ∷ answer.Replied reply.Done ∷ answer.Sealed 13 ∷ answer.Replied (reply.Value None) ∷ outcome ∷ answer.Committed 13 13 0 ∷ [])
    order (record { key = at 0 1; value = 1 ∷ [] } ∷ [])

-- it commits with that put's stamp for its successor stamp
abbrev pub decided_later : Case
decided_later = sealed_beside (answer.Committed 18 13 0) (commit_by 1 1 13 18 13 0 (record { op = op.Get 0 1; reply = reply.Value None } ∷ []) ∷ writer ∷ [])

-- it is excluded by that put
abbrev pub excluded_later : Case
excluded_later = sealed_beside (answer.Excluded 18 13 13) (writer ∷ [])
