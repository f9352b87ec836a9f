-- What it is that stamps agree, part by part, and small reports of which each breaks one part alone.
use Rattle.std.specs.Prelude.{◌≡◌, ◌≢◌, true, ℕ, ◌+◌, ◌^◌, ◌<◌, ◌≤◌, List, [], ◌∷◌, ◌++◌, Some, None, IfSome, codes}
use Rattle.std.specs.List.{AllPairs, slice_get}
use Rattle.erm_model.specs.Database.{at}
use Rattle.erm_model.specs.Member.{◌∈◌}
use Rattle.erm_model.specs.declared.limits.TheConstants.{LEAST_BLOCK, STOP}
use Rattle.erm_model.specs.declared.operation.Op.TheVariants as op
use Rattle.erm_model.specs.declared.operation.Reply.TheVariants as reply
use Rattle.erm_report.specs.declared.answer.Answer.{Answer}
use Rattle.erm_report.specs.declared.answer.Answer.TheVariants as answer
use Rattle.erm_script.specs.declared.script.Command.{Command}
use Rattle.erm_script.specs.declared.script.Command.TheVariants as command
use Rattle.erm_good_report.specs.Opening.{AtOnce, InTurn, is_before}
use Rattle.erm_good_report.specs.Stamps.{AllInTime, DrawsUntold, LiesAbove, LiesBelow, Told, begin_told, place_told, stamp_drawn, stamp_printed}
use Rattle.erm_good_report.specs.Transactions.{Said, Transaction, said_of, stamp_of, stamp_of_ending}
use Rattle.erm_bad_reports.specs.Cases.{a_line, b_line, case_of, commit_by, of_log, one_name, opening_at, two_names}
use Rattle.erm_bad_reports.specs.Clauses.{BreaksAlone, Case, Stamps, told_of}

-- stamps differ; begins are behind the opening's block; each stamp is at or above its begin; a seal's is the outcome's; begins are above the
-- stamps printed before; stamps are at or above the begins told before; and above those drawn before; begins are at or above the places told
-- flushed before; and so are stamps; begins ascend; and, in turn, are below the place where the log stops; the stamp of a commit that waits is above
-- what other sessions' lines told before; and below what lines tell behind
pub data Part : Type 0 where
  Differ : Part
  Least : Part
  Begun : Part
  Sealed : Part
  Begins : Part
  Draws : Part
  Ascends : Part
  Flushes : Part
  FlushesFirst : Part
  BeginsAscend : Part
  Stops : Part
  UntoldAfter : Part
  UntoldBefore : Part

abbrev pub MeetsPart : Part → Case → Type 0
MeetsPart Differ k = AllPairs (λ t u. Told (λ a b. a ≢ b) (stamp_of t) (stamp_of u)) (told_of k)
MeetsPart Least k = (t : Transaction) → t ∈ told_of k → k.opening.stamp + LEAST_BLOCK ≤ t.begin
MeetsPart Begun k = (t : Transaction) → t ∈ told_of k → IfSome (stamp_of t) (λ stamp. t.begin ≤ stamp)
MeetsPart Sealed k = (t : Transaction) → t ∈ told_of k → Told (λ a b. a ≡ b) t.sealed (stamp_of_ending t.ending)
MeetsPart Begins k = AllInTime k.mode (λ a b. Told (λ stamp begin. stamp < begin) (stamp_printed a.answer) (begin_told b.answer)) (said_of k.script k.report.answers)
MeetsPart Draws k = AllInTime k.mode (λ a b. Told (λ begin stamp. begin ≤ stamp) (begin_told a.answer) (stamp_drawn b.asked b.answer)) (said_of k.script k.report.answers)
MeetsPart Ascends k = AllInTime k.mode (λ a b. Told (λ first later. first + LEAST_BLOCK ≤ later) (stamp_drawn a.asked a.answer) (stamp_drawn b.asked b.answer)) (said_of k.script k.report.answers)
MeetsPart Flushes k = AllInTime k.mode (λ a b. Told (λ place begin. place ≤ begin) (place_told a.answer) (begin_told b.answer)) (said_of k.script k.report.answers)
MeetsPart FlushesFirst k = AllInTime k.mode (λ a b. Told (λ place stamp. place ≤ stamp) (place_told a.answer) (stamp_drawn b.asked b.answer)) (said_of k.script k.report.answers)
MeetsPart BeginsAscend k = AllInTime k.mode (λ a b. Told (λ first later. first ≤ later) (begin_told a.answer) (begin_told b.answer)) (said_of k.script k.report.answers)
MeetsPart Stops k = k.mode ≡ InTurn → (s : Said) → s ∈ said_of k.script k.report.answers → IfSome (begin_told s.answer) (λ begin. begin < STOP)
MeetsPart UntoldAfter k = (i j stamp : ℕ) (s : Said) (drawn : DrawsUntold (told_of k) (said_of k.script k.report.answers) i stamp) → j < i
    → slice_get (said_of k.script k.report.answers) j ≡ Some s → is_before k.mode s.session drawn.line.session ≡ true → s.session ≢ drawn.line.session → LiesBelow s stamp
MeetsPart UntoldBefore k = (i j stamp : ℕ) (s : Said) (drawn : DrawsUntold (told_of k) (said_of k.script k.report.answers) i stamp) → i < j
    → slice_get (said_of k.script k.report.answers) j ≡ Some s → is_before k.mode drawn.line.session s.session ≡ true → LiesAbove s stamp

-- The report breaks this part of the clause of stamps alone: it keeps its other parts, and each other clause.
pub record BreaksPartAlone (part : Part) (k : Case) : Type 0 where
  pub breaks : MeetsPart part k → ⊥
  pub keeps : (other : Part) → other ≢ part → MeetsPart other k
  pub clause : BreaksAlone Stamps k

-- The second session's commit waits for the first one, which is sealed, and is settled behind it with stamp 50. It begins here; and between its begin and its
-- commit, and between that and the end of its wait, there are these lines of a third session.
abbrev pub c_line : Command → ℕ × Command
c_line c = (3, c)

abbrev pub three_names : List (List ℕ)
three_names = codes "a" ∷ codes "b" ∷ codes "c" ∷ []

abbrev pub waiting : ℕ → List (ℕ × Command) → List Answer → List (ℕ × Command) → List Answer → Case
waiting begin before answers_before behind answers_behind = case_of three_names
    (a_line command.Begin ∷ a_line (command.Tidy 0 1) ∷ a_line command.Seal ∷ b_line command.Begin ∷ b_line (command.Tidy 0 2) ∷ before
    ++ b_line command.Commit ∷ behind ++ a_line command.Settle ∷ b_line command.Settle ∷ [])
    (answer.Began 13 ∷ answer.Cut 0 ∷ answer.Sealed 13 ∷ answer.Began begin ∷ answer.Cut 0 ∷ answers_before
    ++ answer.WaitSeat 1 13 ∷ answers_behind ++ answer.Committed 13 13 0 ∷ answer.Committed 50 50 0 ∷ [])
    (commit_by 1 1 13 13 13 0 [] ∷ commit_by 2 1 begin 50 50 0 [] ∷ []) []

abbrev pub begins_and_aborts : List (ℕ × Command)
begins_and_aborts = c_line command.Begin ∷ c_line command.Abort ∷ []

-- a commit that waited has a stamp below its begin
abbrev pub stamp_below_begin : Case
stamp_below_begin = waiting 60 [] [] [] []

-- a transaction begins above the stamp of a commit that then waits
abbrev pub begun_above_untold : Case
begun_above_untold = waiting 40 begins_and_aborts (answer.Began 60 ∷ answer.Aborted ∷ []) [] []

-- a transaction begins below the stamp of a commit that waits: it reads what was before
abbrev pub begun_below_untold : Case
begun_below_untold = waiting 40 [] [] begins_and_aborts (answer.Began 45 ∷ answer.Aborted ∷ [])

-- begins fall
abbrev pub begins_fall : Case
begins_fall = case_of two_names (a_line command.Begin ∷ a_line command.Commit ∷ a_line command.Begin ∷ b_line command.Begin ∷ a_line command.Abort ∷ b_line command.Abort ∷ [])
    (answer.Began 13 ∷ answer.Committed 13 13 0 ∷ answer.Began 23 ∷ answer.Began 18 ∷ answer.Aborted ∷ answer.Aborted ∷ []) (commit_by 1 1 13 13 13 0 [] ∷ []) []

-- the log is at its stop, and a transaction begins there
abbrev pub begun_at_the_stop : Case
begun_at_the_stop = record (case_of one_name (a_line command.Begin ∷ a_line command.Abort ∷ []) (answer.Began (2 ^ 60) ∷ answer.Aborted ∷ []) [] []) { opening = opening_at 1152921504606846971 }

-- a settle tells another stamp than the seal
abbrev pub sealed_with_another : Case
sealed_with_another = case_of one_name (a_line command.Begin ∷ a_line command.Seal ∷ a_line command.Settle ∷ [])
    (answer.Began 13 ∷ answer.Sealed 13 ∷ answer.Committed 18 18 0 ∷ []) (commit_by 1 1 13 18 18 0 [] ∷ []) []

-- a transaction begins at the stamp of a commit that an earlier line told
abbrev pub begun_at_a_commit : Case
begun_at_a_commit = case_of one_name (a_line command.Begin ∷ a_line command.Commit ∷ a_line command.Begin ∷ a_line command.Abort ∷ [])
    (answer.Began 13 ∷ answer.Committed 13 13 0 ∷ answer.Began 13 ∷ answer.Aborted ∷ []) (commit_by 1 1 13 13 13 0 [] ∷ []) []

-- the later of two commits, behind a first one, has the smaller stamp
abbrev pub drawn_below : Case
drawn_below = case_of two_names (a_line command.Begin ∷ a_line command.Commit ∷ a_line command.Begin ∷ b_line command.Begin ∷ b_line command.Commit ∷ a_line command.Commit ∷ [])
    (answer.Began 13 ∷ answer.Committed 13 13 0 ∷ answer.Began 18 ∷ answer.Began 18 ∷ answer.Committed 23 23 0 ∷ answer.Committed 18 18 0 ∷ [])
    (commit_by 1 1 13 13 13 0 [] ∷ commit_by 1 2 18 18 18 0 [] ∷ commit_by 2 1 18 23 23 0 [] ∷ []) []

-- the later of two commits has a greater stamp, but one within the block of the earlier one
abbrev pub drawn_within : Case
drawn_within = case_of two_names (a_line command.Begin ∷ b_line command.Begin ∷ a_line command.Commit ∷ b_line command.Commit ∷ [])
    (answer.Began 13 ∷ answer.Began 13 ∷ answer.Committed 13 13 0 ∷ answer.Committed 15 15 0 ∷ [])
    (commit_by 1 1 13 13 13 0 [] ∷ commit_by 2 1 13 15 15 0 [] ∷ []) []

-- a checkpoint tells a place that is above the begin after it
abbrev pub begun_below_the_flushed : Case
begun_below_the_flushed = case_of one_name (of_log command.Checkpoint ∷ a_line command.Begin ∷ a_line command.Abort ∷ [])
    (answer.Checkpointed 18 ∷ answer.Began 13 ∷ answer.Aborted ∷ []) [] []

-- it tells one that is above the stamp drawn after it
abbrev pub drawn_below_the_flushed : Case
drawn_below_the_flushed = case_of one_name (a_line command.Begin ∷ of_log command.Checkpoint ∷ a_line command.Commit ∷ [])
    (answer.Began 13 ∷ answer.Checkpointed 18 ∷ answer.Committed 13 13 0 ∷ []) (commit_by 1 1 13 13 13 0 [] ∷ []) []

-- of sessions that run beside one another, one is excluded with the stamp with which another one commits
abbrev pub stamp_of_two : Case
stamp_of_two = record (case_of (codes "a" ∷ codes "b" ∷ codes "c" ∷ [])
    (a_line command.Begin ∷ a_line (command.Put 0 1 (1 ∷ [])) ∷ a_line command.Commit ∷ b_line command.Begin ∷ b_line (command.Get 0 1) ∷ b_line command.Commit
    ∷ (3, command.Begin) ∷ (3, command.Commit) ∷ [])
    (answer.Began 13 ∷ answer.Replied reply.Done ∷ answer.Committed 13 13 0 ∷ answer.Began 13 ∷ answer.Replied (reply.Value None) ∷ answer.Excluded 18 13 13
    ∷ answer.Began 13 ∷ answer.Committed 18 18 0 ∷ [])
    (commit_by 1 1 13 13 13 0 (record { op = op.Put 0 1 (1 ∷ []); reply = reply.Done } ∷ []) ∷ commit_by 3 1 13 18 18 0 [] ∷ [])
    (record { key = at 0 1; value = 1 ∷ [] } ∷ [])) { mode = AtOnce }

-- of sessions that run beside one another, one is told the stamp of a newer commit of another one, and begins again at it
abbrev pub begun_at_a_newer : Case
begun_at_a_newer = record (case_of two_names
    (a_line command.Begin ∷ a_line (command.Put 0 1 (1 ∷ [])) ∷ a_line command.Commit ∷ b_line command.Begin ∷ b_line (command.Put 0 1 (2 ∷ [])) ∷ b_line command.Begin ∷ b_line command.Abort ∷ [])
    (answer.Began 13 ∷ answer.Replied reply.Done ∷ answer.Committed 13 13 0 ∷ answer.Began 13 ∷ answer.Newer 13 ∷ answer.Began 13 ∷ answer.Aborted ∷ [])
    (commit_by 1 1 13 13 13 0 (record { op = op.Put 0 1 (1 ∷ []); reply = reply.Done } ∷ []) ∷ [])
    (record { key = at 0 1; value = 1 ∷ [] } ∷ [])) { mode = AtOnce }
