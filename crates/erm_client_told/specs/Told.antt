-- What the transcripts of clients tell of an execution at once, wherever these were stopped: the laws, as statements.
use Rattle.std.specs.Prelude.{◌≡◌, ◌≤◌, List, [], ◌∷◌, ◌++◌, length, map, Option}
use Rattle.erm_client.specs.Dealings.{commits_told}
use Rattle.erm_client.specs.declared.transcript.Transcript.{Transcript}
use Rattle.erm_client.specs.declared.transcript.Standing.TheVariants as standing
use Rattle.erm_client.specs.Laws.{AreFrom, answers_of, lines_of}
use Rattle.erm_client_invariant.specs.Laws.{commits_of}
use Rattle.erm_good_at_once.specs.CutReports.{answered_of}
use Rattle.erm_good_report.specs.GoodReport.{places_of}
use Rattle.erm_good_report.specs.Phases.{Closed}
use Rattle.erm_good_report.specs.Transactions.{history_of, transactions_of}
use Rattle.erm_joined.specs.Merged.{closes_from, counts_of, told_when_cut}
use Rattle.erm_lines.specs.Executions.{IsOpened}
use Rattle.erm_lines_at_once.specs.CutRuns.{IsCutRunAtOnce}
use Rattle.erm_lines_at_once.specs.Executions.{IsRunAtOnce}
use Rattle.erm_model.specs.Committed.{Committed}
use Rattle.erm_model.specs.declared.limits.TheConstants.{LAST_NUMBER}
use Rattle.erm_model.specs.Member.{◌∈◌}
use Rattle.erm_report.specs.declared.answer.Answer.{Answer}
use Rattle.erm_script.specs.declared.script.ScriptLine.{ScriptLine}
use Rattle.erm_works.specs.Works.{AreWorks}
use Rattle.erm_world.specs.World.{View}

-- the lines of each session, and its answers, by seat from 1 on
abbrev pub parts_of : List Transcript → List (List ScriptLine)
parts_of all = map (λ c. c.lines.items) all

abbrev pub answers_by : List Transcript → List (List Answer)
answers_by all = map (λ c. c.answers.items) all

-- the commits that transcripts tell, those of one behind those of another
abbrev pub all_commits : List Transcript → List Committed
all_commits [] = []
all_commits (c ∷ all) = commits_told c ++ all_commits all

-- Where each session did what its transcript tells, to its end or until its client was told to stop, this script was cut off, and the transcripts have the
-- answers to the first lines of each session.
abbrev pub TranscriptsAreACutRun : Type 0
TranscriptsAreACutRun = (v f : View) (all : List Transcript) (closed : List (Option Answer)) → IsOpened v → AreFrom 1 all → length (lines_of all) ≤ LAST_NUMBER
    → length all ≤ v.opening.sessions → AreWorks v f (parts_of all) (answers_by all) closed
    → IsCutRunAtOnce v (lines_of all) (counts_of (answers_by all)) (answers_of all) (closes_from 1 (map told_when_cut closed)) f

-- THE LAW. Of an execution that was cut off so the commits are just those that the transcripts tell.
abbrev pub TranscriptsTellCommits : Type 0
TranscriptsTellCommits = (v f : View) (all : List Transcript) (closed : List Closed) → AreFrom 1 all → length all ≤ v.opening.sessions
    → IsCutRunAtOnce v (lines_of all) (counts_of (answers_by all)) (answers_of all) closed f
    → history_of (transactions_of v.opening.sessions (places_of (answered_of (counts_of (answers_by all)) (lines_of all)) (answers_of all) closed)) ≡ all_commits all

-- So it is of one that ran to its end.
abbrev pub WholeTranscriptsTellCommits : Type 0
WholeTranscriptsTellCommits = (v f : View) (all : List Transcript) (closed : List Closed) → AreFrom 1 all → ((c : Transcript) → c ∈ all → c.standing ≡ standing.Open)
    → length all ≤ v.opening.sessions → IsRunAtOnce v (lines_of all) (answers_of all) closed f → commits_of v.opening.sessions all closed ≡ all_commits all
