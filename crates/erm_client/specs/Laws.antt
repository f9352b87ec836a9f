-- What clients did, as parts of an execution of all sessions at once; and the script of all: the lines of one transcript behind those of another.
use Rattle.std.specs.Prelude.{◌≡◌, ℕ, ◌+◌, ◌≤◌, List, [], ◌∷◌, ◌++◌, length, map, Option, Some}
use Rattle.std.specs.List.{slice_get}
use Rattle.erm_beside.specs.Calls.{Passes}
use Rattle.erm_client.specs.Clients.{HasRun}
use Rattle.erm_client.specs.Dealings.{HasNothing, IsAt, IsSafeAt}
use Rattle.erm_client.specs.declared.refusal.Refusal.{Refusal}
use Rattle.erm_client.specs.declared.refusal.Refusal.TheVariants as refusal
use Rattle.erm_client.specs.declared.transcript.Standing.TheVariants as standing
use Rattle.erm_client.specs.declared.transcript.Transcript.{Transcript}
use Rattle.erm_client.specs.Refusals.{IsByAnswer, IsEnding, refusal_told}
use Rattle.erm_client.specs.Transcripts.{IsAnswered, IsRefused, IsTranscript}
use Rattle.erm_joined.specs.Merged.{closes_from}
use Rattle.erm_lines.specs.Executions.{IsOpened, Move, close, line_moves}
use Rattle.erm_lines_at_once.specs.Answers.{DidEndBeside}
use Rattle.erm_lines_at_once.specs.CutRuns.{IsCutPart}
use Rattle.erm_lines_at_once.specs.Executions.{IsOwnPart, IsRunAtOnce}
use Rattle.erm_model.specs.declared.limits.TheConstants.{LAST_NUMBER}
use Rattle.erm_model.specs.Run.{Step}
use Rattle.erm_report.specs.declared.answer.Answer.{Answer}
use Rattle.erm_script.specs.declared.script.Command.{Command}
use Rattle.erm_script.specs.declared.script.Command.TheVariants as command
use Rattle.erm_script.specs.declared.script.ScriptLine.{ScriptLine}
use Rattle.erm_works.specs.Works.{AreComplete, AreWorks}
use Rattle.erm_worker.specs.Laws.{HasOwn, IsAtEnd}
use Rattle.erm_world.specs.World.{View}

-- A client that may be asked still: what it did, and others behind it, is its session's part of an execution.
abbrev pub OpenClientIsAPart : Type 0
OpenClientIsAPart = (f v u t : View) (c : Transcript) (moves : List Move) → IsTranscript c → c.standing ≡ standing.Open → HasRun f v c u → Passes c.seat u t → IsAtEnd f c.seat t
    → HasOwn c.seat moves (line_moves c.lines.items c.answers.items) → IsOwnPart f c.seat v moves

-- So is it where its session was closed behind it.
abbrev pub ClosedClientIsAPart : Type 0
ClosedClientIsAPart = (f v u t : View) (c : Transcript) (a : Answer) (moves : List Move) → IsTranscript c → c.standing ≡ standing.Open → HasRun f v c u → DidEndBeside c.seat a u t
    → IsAtEnd f c.seat t → HasOwn c.seat moves (line_moves c.lines.items c.answers.items ++ close c.seat a ∷ []) → IsOwnPart f c.seat v moves

-- What a client did that was told to stop is its session's part of one that was cut off.
abbrev pub StoppedClientIsACutPart : Type 0
StoppedClientIsACutPart = (f v t : View) (c : Transcript) (moves : List Move) → IsTranscript c → c.standing ≡ standing.Stopped → HasRun f v c t → IsAtEnd f c.seat t
    → HasOwn c.seat moves (line_moves c.lines.items c.answers.items) → IsCutPart f c.seat (slice_get c.lines.items (length c.answers.items)) v moves

-- the lines of all transcripts, one transcript behind another, and their answers
abbrev pub lines_of : List Transcript → List ScriptLine
lines_of [] = []
lines_of (c ∷ all) = c.lines.items ++ lines_of all

abbrev pub answers_of : List Transcript → List Answer
answers_of [] = []
answers_of (c ∷ all) = c.answers.items ++ answers_of all

-- they are of sessions with seats from this one on
abbrev pub AreFrom : ℕ → List Transcript → Type 0
AreFrom seat [] = Unit {0}
AreFrom seat (c ∷ all) = (c.seat ≡ seat) × IsTranscript c × AreFrom (seat + 1) all

-- THE LAW. Where each session did what its transcript tells, to the end, this script was run at once: the transcripts are its lines with their answers.
abbrev pub TranscriptsAreARun : Type 0
TranscriptsAreARun = (v f : View) (all : List Transcript) (closed : List (Option Answer)) → IsOpened v → AreFrom 1 all → length (lines_of all) ≤ LAST_NUMBER
    → length all ≤ v.opening.sessions → AreWorks v f (map (λ c. c.lines.items) all) (map (λ c. c.answers.items) all) closed
    → AreComplete f (map (λ c. c.lines.items) all) (map (λ c. c.answers.items) all) → IsRunAtOnce v (lines_of all) (answers_of all) (closes_from 1 closed) f

-- WHAT A REFUSAL TELLS. One by an answer is that to the line asked, which the transcript has.
abbrev pub AnswersRefuse : Type 0
AnswersRefuse = (c d : Transcript) (asked : Command) (why : Refusal) → IsByAnswer why → IsRefused c asked why d → (a : Answer) × IsAnswered c asked a d × (refusal_told a ≡ Some why)

-- Behind one that ends what is in progress nothing is; behind each other one that is by an answer it goes on as it was.
abbrev pub EndingRefusalsEnd : Type 0
EndingRefusalsEnd = (c d : Transcript) (asked : Command) (why : Refusal) → IsTranscript c → IsEnding why → IsRefused c asked why d → HasNothing d

abbrev pub OtherRefusalsLeave : Type 0
OtherRefusalsLeave = (c d : Transcript) (asked : Command) (why : Refusal) → IsTranscript c → IsByAnswer why → (IsEnding why → ⊥) → IsRefused c asked why d → (steps : List Step)
    → (IsAt c steps → IsAt d steps) × ((begin : ℕ) → IsSafeAt c begin steps → IsSafeAt d begin steps)

-- A client that was told to stop has stopped.
abbrev pub StopsAreStops : Type 0
StopsAreStops = (c d : Transcript) (asked : Command) → IsRefused c asked refusal.Stopped d → d.standing ≡ standing.Stopped

-- Where memory ran out the transcript has nothing more, but of a scan.
abbrev pub MemoryLeavesNothing : Type 0
MemoryLeavesNothing = (c d : Transcript) (asked : Command) → ((table low high : ℕ) → asked ≡ command.Scan table low high → ⊥) → IsRefused c asked refusal.Memory d
    → (d.lines.items ≡ c.lines.items) × (d.answers.items ≡ c.answers.items)
