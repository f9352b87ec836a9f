-- Small reports, each of which breaks one clause.
use Rattle.std.specs.Prelude.{ℕ, ◌+◌, ◌^◌, List, [], ◌∷◌, Some, None, codes}
use Rattle.std.specs.FinMap.{empty, from_entries}
use Rattle.erm_model.specs.Committed.{Committed}
use Rattle.erm_model.specs.Database.{at, entries_of}
use Rattle.erm_model.specs.Run.{Step}
use Rattle.erm_model.specs.declared.map.Pair.{Pair}
use Rattle.erm_model.specs.declared.operation.Op.TheVariants as op
use Rattle.erm_model.specs.declared.operation.Reply.TheVariants as reply
use Rattle.erm_report.specs.declared.answer.Answer.{Answer}
use Rattle.erm_report.specs.declared.answer.Answer.TheVariants as answer
use Rattle.erm_report.specs.declared.line.Line.{Line}
use Rattle.erm_report.specs.declared.line.Line.TheVariants as line
use Rattle.erm_script.specs.declared.script.Command.{Command}
use Rattle.erm_script.specs.declared.script.Command.TheVariants as command
use Rattle.erm_script.specs.declared.script.ScriptLine.{ScriptLine}
use Rattle.erm_good_report.specs.Opening.{InTurn, Opening}
use Rattle.erm_bad_reports.specs.Clauses.{Case}

-- an empty map, with the opening's block at this place in run 1; the roots of the sixteen tables are objects
abbrev pub opening_at : ℕ → Opening
opening_at stamp = record { map = empty; stamp = stamp; run = 1; rows = 0; first = 16 }

-- a line of a session, numbered from 1; lines of two sessions, a and b, and of the log
abbrev pub asked_from : ℕ → List (ℕ × Command) → List ScriptLine
asked_from number [] = []
asked_from number (l ∷ ls) = record { line = number; session = l.0; command = l.1 } ∷ asked_from (number + 1) ls

abbrev pub a_line : Command → ℕ × Command
a_line c = (1, c)

abbrev pub b_line : Command → ℕ × Command
b_line c = (2, c)

abbrev pub of_log : Command → ℕ × Command
of_log c = (0, c)

-- a run of these lines from an empty map, with these answers, this order and these pairs; no session was closed
abbrev pub case_of : List (List ℕ) → List (ℕ × Command) → List Answer → List Committed → List Pair → Case
case_of names lines answers order pairs = record {
  mode = InTurn;
  opening = opening_at 8;
  names = names;
  script = asked_from 1 lines;
  report = record { answers = answers; closed = []; order = order; pairs = pairs };
}

abbrev pub one_name : List (List ℕ)
one_name = codes "a" ∷ []

abbrev pub two_names : List (List ℕ)
two_names = codes "a" ∷ codes "b" ∷ []

-- a commit of the first session, and one of the second
abbrev pub commit_by : ℕ → ℕ → ℕ → ℕ → ℕ → ℕ → List Step → Committed
commit_by session number begin stamp succ pred steps = record { session = session; number = number; begin = begin; stamp = stamp; succ = succ; pred = pred; steps = steps }

-- ---- the lines of a report
-- an order of one commit that no line tells
abbrev pub commit_left_out : List Line
commit_left_out = line.Open 8 1 ∷ line.Order 1 ∷ line.Map 0 ∷ line.End ∷ []

-- the opening's block stands at 2^64
abbrev pub number_too_great : Case
number_too_great = record (case_of [] [] [] [] []) { opening = opening_at (2 ^ 64) }

-- a begin without an answer
abbrev pub line_left_out : Case
line_left_out = case_of one_name (a_line command.Begin ∷ []) [] [] []

-- a session is active at the end and not closed
abbrev pub left_open : Case
left_open = case_of one_name (a_line command.Begin ∷ []) (answer.Began 13 ∷ []) [] []

-- a get is answered though no transaction was begun
abbrev pub got_without_begin : Case
got_without_begin = case_of one_name (a_line (command.Get 0 1) ∷ []) (answer.Replied (reply.Value None) ∷ []) [] []

-- ---- stamps
-- a transaction begins within the opening's block
abbrev pub begun_too_early : Case
begun_too_early = case_of one_name (a_line command.Begin ∷ a_line command.Abort ∷ []) (answer.Began 12 ∷ answer.Aborted ∷ []) [] []

-- a stamp is drawn below a begin that an earlier line told: the transaction that began there, though it aborts, reads from its future
abbrev pub future_was_read : Case
future_was_read = case_of two_names
    (b_line command.Begin ∷ b_line command.Commit ∷ b_line command.Begin ∷ a_line command.Begin ∷ b_line (command.Put 0 1 (1 ∷ [])) ∷ b_line command.Commit
    ∷ a_line (command.Get 0 1) ∷ a_line command.Abort ∷ [])
    (answer.Began 13 ∷ answer.Committed 13 13 0 ∷ answer.Began 18 ∷ answer.Began 23 ∷ answer.Replied reply.Done ∷ answer.Committed 18 18 0
    ∷ answer.Replied (reply.Value (Some (1 ∷ []))) ∷ answer.Aborted ∷ [])
    (commit_by 2 1 13 13 13 0 [] ∷ commit_by 2 2 18 18 18 0 (record { op = op.Put 0 1 (1 ∷ []); reply = reply.Done } ∷ []) ∷ [])
    (record { key = at 0 1; value = 1 ∷ [] } ∷ [])

-- ---- reach
-- a transaction begins, and a commit draws its stamp, further on than one block may have moved the log
abbrev pub begun_out_of_reach : Case
begun_out_of_reach = case_of one_name (a_line command.Begin ∷ a_line command.Abort ∷ []) (answer.Began 5000 ∷ answer.Aborted ∷ []) [] []

abbrev pub drawn_out_of_reach : Case
drawn_out_of_reach = case_of one_name (a_line command.Begin ∷ a_line command.Commit ∷ []) (answer.Began 13 ∷ answer.Committed 18 18 0 ∷ []) (commit_by 1 1 13 18 18 0 [] ∷ []) []

-- a commit waits for a session that is sealed, and the settle behind tells a stamp of it that is further on than two blocks may have moved the log
abbrev pub waited_out_of_reach : Case
waited_out_of_reach = case_of two_names
    (a_line command.Begin ∷ a_line (command.Tidy 0 1) ∷ a_line command.Seal ∷ b_line command.Begin ∷ b_line (command.Tidy 0 2) ∷ b_line command.Commit
    ∷ a_line command.Settle ∷ b_line command.Settle ∷ [])
    (answer.Began 13 ∷ answer.Cut 0 ∷ answer.Sealed 13 ∷ answer.Began 40 ∷ answer.Cut 0 ∷ answer.WaitSeat 1 13
    ∷ answer.Committed 13 13 0 ∷ answer.Committed 5000 5000 0 ∷ [])
    (commit_by 1 1 13 13 13 0 [] ∷ commit_by 2 1 40 5000 5000 0 [] ∷ []) []

-- ---- replies
-- a transaction that aborts gets a value that no commit put
abbrev pub value_from_nowhere : Case
value_from_nowhere = case_of one_name
    (a_line command.Begin ∷ a_line (command.Get 0 1) ∷ a_line command.Abort ∷ [])
    (answer.Began 13 ∷ answer.Replied (reply.Value (Some (1 ∷ []))) ∷ answer.Aborted ∷ []) [] []

-- a commit's predecessor stamp is that of no commit
abbrev pub predecessor_unknown : Case
predecessor_unknown = case_of one_name (a_line command.Begin ∷ a_line command.Commit ∷ []) (answer.Began 13 ∷ answer.Committed 13 13 7 ∷ [])
    (commit_by 1 1 13 13 13 7 [] ∷ []) []

-- a transaction is excluded though there is no commit
abbrev pub excluded_alone : Case
excluded_alone = case_of one_name (a_line command.Begin ∷ a_line command.Commit ∷ []) (answer.Began 13 ∷ answer.Excluded 13 13 13 ∷ []) [] []

-- a key is owned by a session that has no transaction
abbrev pub owned_by_nobody : Case
owned_by_nobody = case_of one_name (a_line command.Begin ∷ a_line (command.Put 0 1 (1 ∷ [])) ∷ []) (answer.Began 13 ∷ answer.Owned 2 1 ∷ []) [] []

-- ---- the order
-- the later of two commits is told first
abbrev pub order_turned_round : Case
order_turned_round = case_of one_name
    (a_line command.Begin ∷ a_line command.Commit ∷ a_line command.Begin ∷ a_line command.Commit ∷ [])
    (answer.Began 13 ∷ answer.Committed 13 13 0 ∷ answer.Began 18 ∷ answer.Committed 18 18 0 ∷ [])
    (commit_by 1 2 18 18 18 0 [] ∷ commit_by 1 1 13 13 13 0 [] ∷ []) []

-- the map's pairs do not ascend
abbrev pub two_pairs : List Pair
two_pairs = record { key = at 0 2; value = 2 ∷ [] } ∷ record { key = at 0 1; value = 1 ∷ [] } ∷ []

abbrev pub pairs_turned_round : Case
pairs_turned_round = record (case_of [] [] [] [] two_pairs) { opening = record (opening_at 8) { map = from_entries (entries_of two_pairs) } }

-- the map has a key that nobody put
abbrev pub pair_from_nowhere : Case
pair_from_nowhere = case_of [] [] [] [] (record { key = at 0 1; value = 1 ∷ [] } ∷ [])

-- ---- windows
-- the second transaction got what the first one put, and its predecessor stamp is below the first one's
abbrev pub predecessor_too_low : Case
predecessor_too_low = case_of one_name
    (a_line command.Begin ∷ a_line (command.Put 0 1 (1 ∷ [])) ∷ a_line command.Commit ∷ a_line command.Begin ∷ a_line (command.Get 0 1) ∷ a_line command.Commit ∷ [])
    (answer.Began 13 ∷ answer.Replied reply.Done ∷ answer.Committed 13 13 0 ∷ answer.Began 33 ∷ answer.Replied (reply.Value (Some (1 ∷ []))) ∷ answer.Committed 33 33 0 ∷ [])
    (commit_by 1 1 13 13 13 0 (record { op = op.Put 0 1 (1 ∷ []); reply = reply.Done } ∷ [])
    ∷ commit_by 1 2 33 33 33 0 (record { op = op.Get 0 1; reply = reply.Value (Some (1 ∷ [])) } ∷ []) ∷ [])
    (record { key = at 0 1; value = 1 ∷ [] } ∷ [])

-- the second session got a key that the first one then put again, with the same value, and its successor stamp is above that put's
abbrev pub successor_too_high : Case
successor_too_high = case_of two_names
    (a_line command.Begin ∷ a_line (command.Put 0 1 (1 ∷ [])) ∷ a_line command.Commit
    ∷ b_line command.Begin ∷ b_line (command.Get 0 1) ∷ a_line command.Begin ∷ a_line (command.Put 0 1 (1 ∷ [])) ∷ a_line command.Commit ∷ b_line command.Commit ∷ [])
    (answer.Began 13 ∷ answer.Replied reply.Done ∷ answer.Committed 13 13 0
    ∷ answer.Began 33 ∷ answer.Replied (reply.Value (Some (1 ∷ []))) ∷ answer.Began 33 ∷ answer.Replied reply.Done ∷ answer.Committed 33 33 13 ∷ answer.Committed 42 42 13 ∷ [])
    (commit_by 1 1 13 13 13 0 (record { op = op.Put 0 1 (1 ∷ []); reply = reply.Done } ∷ [])
    ∷ commit_by 1 2 33 33 33 13 (record { op = op.Put 0 1 (1 ∷ []); reply = reply.Done } ∷ [])
    ∷ commit_by 2 1 33 42 42 13 (record { op = op.Get 0 1; reply = reply.Value (Some (1 ∷ [])) } ∷ []) ∷ [])
    (record { key = at 0 1; value = 1 ∷ [] } ∷ [])
