-- What the transcripts of clients tell of an execution at once, also where memory ran out for some within a line: the laws, as statements.
use Rattle.std.specs.Prelude.{◌≡◌, ◌≤◌, ◌⊎◌, List, length, map, Option}
use Rattle.erm_client.specs.Clients.{WasStarved}
use Rattle.erm_client.specs.Dealings.{snapshots_told}
use Rattle.erm_client.specs.declared.transcript.Transcript.{Transcript}
use Rattle.erm_client.specs.Laws.{AreFrom, answers_of, lines_of}
use Rattle.erm_client_told.specs.Told.{all_commits, answers_by, parts_of}
use Rattle.erm_good_at_once.specs.CutReports.{answered_of}
use Rattle.erm_good_report.specs.GoodReport.{places_of}
use Rattle.erm_good_report.specs.Opening.{Opening}
use Rattle.erm_good_report.specs.Phases.{Closed}
use Rattle.erm_good_report.specs.Transactions.{history_of, transactions_of}
use Rattle.erm_joined.specs.Merged.{closes_from, counts_of, told_when_cut}
use Rattle.erm_lines.specs.Executions.{IsOpened, IsOpeningOf}
use Rattle.erm_model.specs.Committed.{Committed, HasSnapshotReplies}
use Rattle.erm_model.specs.declared.limits.TheConstants.{LAST_NUMBER}
use Rattle.erm_model.specs.Member.{◌∈◌}
use Rattle.erm_report.specs.declared.answer.Answer.{Answer}
use Rattle.erm_threads.specs.Work.{DidWork}
use Rattle.erm_works.specs.Starved.{IsStarvedRunAtOnce}
use Rattle.erm_works.specs.Works.{Did, HaveDone}
use Rattle.erm_world.specs.World.{View}

-- What the session of a client did: its work; or its lines, behind which memory ran out in one of which nothing is told, and what it had in progress was given
-- up.
abbrev pub DidForClient : Did
DidForClient f seat lines answers closed v t = DidWork f seat lines answers closed v t ⊎ WasStarved f seat lines answers closed v t

-- Where each session did what its transcript tells, wherever its client was left, this is an execution of the script of all, and the transcripts have the
-- answers to the first lines of each session.
abbrev pub TranscriptsAreAStarvedRun : Type 0
TranscriptsAreAStarvedRun = (v f : View) (all : List Transcript) (closed : List (Option Answer)) → IsOpened v → AreFrom 1 all → length (lines_of all) ≤ LAST_NUMBER
    → length all ≤ v.opening.sessions → HaveDone DidForClient v f (parts_of all) (answers_by all) closed
    → IsStarvedRunAtOnce v (lines_of all) (counts_of (answers_by all)) (answers_of all) (closes_from 1 (map told_when_cut closed)) f

-- THE LAW. Its commits are just those that the transcripts tell.
abbrev pub StarvedTranscriptsTellCommits : Type 0
StarvedTranscriptsTellCommits = (v f : View) (all : List Transcript) (closed : List Closed) → AreFrom 1 all → length all ≤ v.opening.sessions
    → IsStarvedRunAtOnce v (lines_of all) (counts_of (answers_by all)) (answers_of all) closed f
    → history_of (transactions_of v.opening.sessions (places_of (answered_of (counts_of (answers_by all)) (lines_of all)) (answers_of all) closed)) ≡ all_commits all

-- And each snapshot that a transcript tells to have ended was answered as on the state below its begin stamp that these commits make.
abbrev pub StarvedTranscriptsTellSnapshots : Type 0
StarvedTranscriptsTellSnapshots = (v f : View) (all : List Transcript) (closed : List Closed) (opening : Opening) → AreFrom 1 all → length all ≤ v.opening.sessions
    → IsStarvedRunAtOnce v (lines_of all) (counts_of (answers_by all)) (answers_of all) closed f → IsOpeningOf v opening
    → (c : Transcript) → c ∈ all → (x : Committed) → x ∈ snapshots_told c → HasSnapshotReplies (all_commits all) opening.map x.begin x.steps
