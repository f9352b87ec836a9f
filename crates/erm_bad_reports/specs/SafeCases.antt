-- Small reports of snapshots that only read, each of which breaks one clause; and a good one.
use Rattle.std.specs.Prelude.{ℕ, ◌^◌, List, [], ◌∷◌, ◌++◌, Some, None, codes}
use Rattle.erm_model.specs.Committed.{Committed}
use Rattle.erm_model.specs.Database.{at}
use Rattle.erm_model.specs.Run.{Step}
use Rattle.erm_model.specs.declared.operation.Op.TheVariants as op
use Rattle.erm_model.specs.declared.operation.Reply.TheVariants as reply
use Rattle.erm_report.specs.declared.answer.Answer.{Answer}
use Rattle.erm_report.specs.declared.answer.Answer.TheVariants as answer
use Rattle.erm_script.specs.declared.script.Command.{Command}
use Rattle.erm_script.specs.declared.script.Command.TheVariants as command
use Rattle.erm_good_report.specs.Opening.{InTurn, Mode}
use Rattle.erm_good_report.specs.Transactions.{rank_stamp}
use Rattle.erm_bad_reports.specs.Cases.{a_line, b_line, case_of, commit_by, of_log, one_name, opening_at, two_names}
use Rattle.erm_bad_reports.specs.Clauses.{Case}

abbrev pub three_names : List (List ℕ)
three_names = codes "a" ∷ codes "b" ∷ codes "c" ∷ []

abbrev pub c_line : Command → ℕ × Command
c_line c = (3, c)

-- a session's snapshot that ended, as the order has it
abbrev pub snapshot_by : (session number begin : ℕ) → List Step → Committed
snapshot_by session number begin steps = commit_by session number begin (rank_stamp session number) begin 0 steps

-- ---- the order
-- a snapshot stands behind a commit that has its turn at the snapshot's begin stamp
abbrev pub snapshot_behind : Case
snapshot_behind = case_of two_names (b_line command.Safe ∷ a_line command.Begin ∷ a_line command.Commit ∷ b_line command.Commit ∷ [])
    (answer.Safe 13 ∷ answer.Began 13 ∷ answer.Committed 13 13 0 ∷ answer.Ended ∷ [])
    (commit_by 1 1 13 13 13 0 [] ∷ snapshot_by 2 1 13 [] ∷ []) []

-- of two snapshots at one begin stamp that of the second session stands first
abbrev pub snapshots_turned : Case
snapshots_turned = case_of two_names (a_line command.Safe ∷ b_line command.Safe ∷ a_line command.Commit ∷ b_line command.Commit ∷ [])
    (answer.Safe 13 ∷ answer.Safe 13 ∷ answer.Ended ∷ answer.Ended ∷ [])
    (snapshot_by 2 1 13 [] ∷ snapshot_by 1 1 13 [] ∷ []) []

-- a snapshot that ended has no line in the order
abbrev pub snapshot_left_out : Case
snapshot_left_out = case_of one_name (a_line command.Safe ∷ a_line command.Commit ∷ []) (answer.Safe 13 ∷ answer.Ended ∷ []) [] []

-- ---- sessions closed
-- a session has a safe snapshot at the end and is not closed
abbrev pub safe_left_open : Case
safe_left_open = case_of one_name (a_line command.Safe ∷ []) (answer.Safe 13 ∷ []) [] []

-- ---- phases
-- a safe snapshot's look at a table is refused
abbrev pub look_refused : Case
look_refused = case_of one_name (a_line command.Safe ∷ a_line (command.Get 0 1) ∷ a_line command.Abort ∷ []) (answer.Safe 13 ∷ answer.ReadsFull ∷ answer.Aborted ∷ []) [] []

-- ---- snapshots
-- a get of a snapshot is answered a value that a commit at its begin stamp put
abbrev pub reply_of_now : Case
reply_of_now = case_of two_names
    (b_line command.Safe ∷ a_line command.Begin ∷ a_line (command.Put 0 1 (1 ∷ [])) ∷ a_line command.Commit ∷ b_line (command.Get 0 1) ∷ b_line command.Abort ∷ [])
    (answer.Safe 13 ∷ answer.Began 13 ∷ answer.Replied reply.Done ∷ answer.Committed 13 13 0 ∷ answer.Replied (reply.Value (Some (1 ∷ []))) ∷ answer.Aborted ∷ [])
    (commit_by 1 1 13 13 13 0 (record { op = op.Put 0 1 (1 ∷ []); reply = reply.Done } ∷ []) ∷ [])
    (record { key = at 0 1; value = 1 ∷ [] } ∷ [])

-- a snapshot waits for a session that has no transaction
abbrev pub waits_for_idle : Case
waits_for_idle = case_of two_names (a_line command.Safe ∷ a_line command.Abort ∷ []) (answer.WaitSeat 2 5 ∷ answer.Aborted ∷ []) [] []

-- a snapshot isn't safe by a commit that has its turn at its own stamp
abbrev pub unsafe_by_no_turn : Case
unsafe_by_no_turn = case_of three_names
    (b_line command.Begin ∷ a_line command.Begin ∷ a_line command.Commit ∷ c_line command.Safe ∷ b_line command.Commit ∷ c_line command.Safe ∷ [])
    (answer.Began 13 ∷ answer.Began 13 ∷ answer.Committed 13 13 0 ∷ answer.WaitSeat 2 13 ∷ answer.Committed 18 18 0 ∷ answer.Unsafe 2 18 ∷ [])
    (commit_by 1 1 13 13 13 0 [] ∷ commit_by 2 1 13 18 18 0 [] ∷ []) []

-- a snapshot begins at the stamp of a commit that an earlier line told
abbrev pub safe_at_a_commit : Case
safe_at_a_commit = case_of two_names (a_line command.Begin ∷ a_line command.Commit ∷ b_line command.Safe ∷ b_line command.Abort ∷ [])
    (answer.Began 13 ∷ answer.Committed 13 13 0 ∷ answer.Safe 13 ∷ answer.Aborted ∷ []) (commit_by 1 1 13 13 13 0 [] ∷ []) []

-- a snapshot is told safe beside a transaction that began below it, and isn't over
abbrev pub safe_too_early : Case
safe_too_early = case_of three_names
    (a_line command.Begin ∷ b_line command.Begin ∷ b_line command.Commit ∷ c_line command.Safe ∷ c_line command.Abort ∷ a_line command.Abort ∷ [])
    (answer.Began 13 ∷ answer.Began 13 ∷ answer.Committed 13 13 0 ∷ answer.Safe 18 ∷ answer.Aborted ∷ answer.Aborted ∷ []) (commit_by 2 1 13 13 13 0 [] ∷ []) []

-- a snapshot begins further on than the lines can have moved the log; and where the log stops
abbrev pub safe_out_of_reach : Case
safe_out_of_reach = case_of one_name (a_line command.Safe ∷ a_line command.Abort ∷ []) (answer.Safe 5000 ∷ answer.Aborted ∷ []) [] []

abbrev pub safe_at_the_stop : Case
safe_at_the_stop = record (case_of one_name (a_line command.Safe ∷ a_line command.Abort ∷ []) (answer.Safe (2 ^ 60) ∷ answer.Aborted ∷ []) [] []) { opening = opening_at 1152921504606846971 }

-- a snapshot that waited is told safe where the log has come since it began
abbrev pub begin_moves : Case
begin_moves = case_of three_names
    (b_line command.Begin ∷ a_line command.Begin ∷ a_line command.Commit ∷ c_line command.Safe ∷ b_line command.Commit ∷ c_line command.Safe ∷ c_line command.Abort ∷ [])
    (answer.Began 13 ∷ answer.Began 13 ∷ answer.Committed 13 13 0 ∷ answer.WaitSeat 2 13 ∷ answer.Committed 18 18 0 ∷ answer.Safe 23 ∷ answer.Aborted ∷ [])
    (commit_by 1 1 13 13 13 0 [] ∷ commit_by 2 1 13 18 18 0 [] ∷ []) []

-- snapshots' begins fall
abbrev pub safes_fall : Case
safes_fall = case_of two_names (a_line command.Begin ∷ a_line command.Commit ∷ a_line command.Safe ∷ b_line command.Safe ∷ a_line command.Abort ∷ b_line command.Abort ∷ [])
    (answer.Began 13 ∷ answer.Committed 13 13 0 ∷ answer.Safe 23 ∷ answer.Safe 18 ∷ answer.Aborted ∷ answer.Aborted ∷ []) (commit_by 1 1 13 13 13 0 [] ∷ []) []

-- a checkpoint tells a place that is above the begin of the snapshot after it
abbrev pub safe_below_the_flushed : Case
safe_below_the_flushed = case_of one_name (of_log command.Checkpoint ∷ a_line command.Safe ∷ a_line command.Abort ∷ [])
    (answer.Checkpointed 18 ∷ answer.Safe 13 ∷ answer.Aborted ∷ []) [] []

-- ---- a commit that goes back
-- The second session gets two keys that the first one put, and puts one of them; the first one puts the other one, and commits. So the second
-- one's commit has its turn before that one, and a snapshot between their stamps has no place in the order. These lines of the third session,
-- with these answers, are before that commit, and these behind it.
abbrev pub goes_back : Mode → List (ℕ × Command) → List Answer → List (ℕ × Command) → List Answer → Case
goes_back mode before answers_before behind answers_behind = record (case_of three_names
    (a_line command.Begin ∷ a_line (command.Put 0 10 (1 ∷ [])) ∷ a_line (command.Put 0 20 (2 ∷ [])) ∷ a_line command.Commit
    ∷ b_line command.Begin ∷ b_line (command.Get 0 10) ∷ b_line (command.Get 0 20) ∷ b_line (command.Put 0 10 (3 ∷ []))
    ∷ a_line command.Begin ∷ a_line (command.Put 0 20 (4 ∷ [])) ∷ a_line command.Commit ∷ before ++ b_line command.Commit ∷ behind)
    (answer.Began 13 ∷ answer.Replied reply.Done ∷ answer.Replied reply.Done ∷ answer.Committed 13 13 0
    ∷ answer.Began 38 ∷ answer.Replied (reply.Value (Some (1 ∷ []))) ∷ answer.Replied (reply.Value (Some (2 ∷ []))) ∷ answer.Replied reply.Done
    ∷ answer.Began 38 ∷ answer.Replied reply.Done ∷ answer.Committed 38 38 13 ∷ answers_before ++ answer.Committed 47 38 13 ∷ answers_behind)
    (commit_by 1 1 13 13 13 0 (record { op = op.Put 0 10 (1 ∷ []); reply = reply.Done } ∷ record { op = op.Put 0 20 (2 ∷ []); reply = reply.Done } ∷ [])
    ∷ commit_by 2 1 38 47 38 13 (record { op = op.Get 0 10; reply = reply.Value (Some (1 ∷ [])) } ∷ record { op = op.Get 0 20; reply = reply.Value (Some (2 ∷ [])) }
    ∷ record { op = op.Put 0 10 (3 ∷ []); reply = reply.Done } ∷ [])
    ∷ commit_by 1 2 38 38 38 13 (record { op = op.Put 0 20 (4 ∷ []); reply = reply.Done } ∷ []) ∷ [])
    (record { key = at 0 10; value = 3 ∷ [] } ∷ record { key = at 0 20; value = 4 ∷ [] } ∷ [])) { mode = mode }

-- a snapshot waits for it, and is told safe then
abbrev pub safe_behind_one_that_went_back : Case
safe_behind_one_that_went_back = goes_back InTurn (c_line command.Safe ∷ []) (answer.WaitSeat 2 38 ∷ []) (c_line command.Safe ∷ c_line command.Abort ∷ []) (answer.Safe 47 ∷ answer.Aborted ∷ [])

-- two snapshots, one behind the other, aren't safe by it
abbrev pub unsafe_again : Case
unsafe_again = goes_back InTurn (c_line command.Safe ∷ []) (answer.WaitSeat 2 38 ∷ []) (c_line command.Safe ∷ c_line command.Safe ∷ []) (answer.Unsafe 2 47 ∷ answer.Unsafe 2 47 ∷ [])

-- ---- a good one
-- a snapshot waits for a transaction that began below; it is safe when that one has committed, finds nothing, and ends; its place is in front of that commit
abbrev pub safe_at_last : Case
safe_at_last = case_of three_names
    (b_line command.Begin ∷ a_line command.Begin ∷ a_line command.Commit ∷ c_line command.Safe ∷ b_line command.Commit ∷ c_line command.Safe
    ∷ c_line (command.Get 0 1) ∷ c_line command.Commit ∷ [])
    (answer.Began 13 ∷ answer.Began 13 ∷ answer.Committed 13 13 0 ∷ answer.WaitSeat 2 13 ∷ answer.Committed 18 18 0 ∷ answer.Safe 18
    ∷ answer.Replied (reply.Value None) ∷ answer.Ended ∷ [])
    (commit_by 1 1 13 13 13 0 [] ∷ snapshot_by 3 1 18 (record { op = op.Get 0 1; reply = reply.Value None } ∷ []) ∷ commit_by 2 1 13 18 18 0 [] ∷ []) []
