-- What a client's transcript has: the lines that were asked of its session, in order, and their answers.
use Rattle.std.specs.Prelude.{◌≡◌, ◌≢◌, ℕ, ◌+◌, ◌≤◌, List, [], ◌∷◌, ◌++◌, length, Option, Some, None, true, vec_capacity, vec_len}
use Rattle.std.specs.List.{slice_get}
use Rattle.erm_client.specs.Dealings.{ComesAlone, HasNone, dealings_of}
use Rattle.erm_client.specs.declared.refusal.Refusal.{Refusal}
use Rattle.erm_client.specs.declared.refusal.Refusal.TheVariants as refusal
use Rattle.erm_client.specs.declared.transcript.Standing.{Standing}
use Rattle.erm_client.specs.declared.transcript.Standing.TheVariants as standing
use Rattle.erm_client.specs.declared.transcript.Transcript.{Transcript}
use Rattle.erm_client.specs.Refusals.{IsOfClient, MayTell, TellsEnd, refusal_told}
use Rattle.erm_good_report.specs.Phases.{phase_after}
use Rattle.erm_lines.specs.Whole.{is_snapshot}
use Rattle.erm_model.specs.Member.{◌∈◌}
use Rattle.erm_model.specs.declared.operation.Reply.TheVariants as reply
use Rattle.erm_model.specs.declared.outcome.Phase.{Phase}
use Rattle.erm_report.specs.declared.answer.Answer.{Answer}
use Rattle.erm_report.specs.declared.answer.Answer.TheVariants as answer
use Rattle.erm_script.specs.declared.script.Command.{Command}
use Rattle.erm_script.specs.declared.script.Command.TheVariants as command
use Rattle.erm_script.specs.declared.script.ScriptLine.{ScriptLine}
use Rattle.erm_script.specs.Script.{IsInRange}
use Rattle.erm_worker.specs.Work.{MayBeAsked}

-- a line that a client of this seat may ask
pub record IsLine (seat : ℕ) (l : ScriptLine) : Type 0 where
  pub own : l.session ≡ seat
  pub may : MayBeAsked l.command
  pub of_client : IsOfClient l.command
  pub range : IsInRange l.command

-- how many answers there are to so many lines: one for each, unless the client was told to stop at the last one
abbrev pub HasAnswers : Standing → ℕ → ℕ → Type 0
HasAnswers standing.Open lines answers = answers ≡ lines
HasAnswers standing.Stopped lines answers = answers + 1 ≡ lines
HasAnswers standing.Starved lines answers = answers ≡ lines

-- A transcript as clients write it.
pub record IsTranscript (c : Transcript) : Type 0 where
  pub own : (l : ScriptLine) → l ∈ c.lines.items → IsLine c.seat l
  pub each : HasAnswers c.standing (length c.lines.items) (length c.answers.items)
  pub told : (k : ℕ) (l : ScriptLine) (a : Answer) → slice_get c.lines.items k ≡ Some l → slice_get c.answers.items k ≡ Some a → MayTell l.command a

-- nothing was asked yet
pub record IsNew (seat : ℕ) (c : Transcript) : Type 0 where
  pub seat_is : c.seat ≡ seat
  pub lines : c.lines.items ≡ []
  pub answers : c.answers.items ≡ []
  pub opened : c.standing ≡ standing.Open

-- there is room for so many lines more, and their answers
pub record HasRoom (many : ℕ) (c : Transcript) : Type 0 where
  pub lines : vec_len c.lines + many ≤ vec_capacity c.lines
  pub answers : vec_len c.answers + many ≤ vec_capacity c.answers

-- for how many there is to be before a command is asked: for its own, and for one that gives up what may be in progress then
abbrev pub room_for : Command → ℕ
room_for command.Abort = 1
room_for c = 2

-- no room is given back
pub record KeepsRoom (c d : Transcript) : Type 0 where
  pub lines : vec_capacity c.lines ≤ vec_capacity d.lines
  pub answers : vec_capacity c.answers ≤ vec_capacity d.answers

-- no line was asked
pub record IsSame (c d : Transcript) : Type 0 where
  pub seat : d.seat ≡ c.seat
  pub lines : d.lines.items ≡ c.lines.items
  pub answers : d.answers.items ≡ c.answers.items
  pub standing_so : d.standing ≡ c.standing
  pub room : KeepsRoom c d

-- the transcript has this line more, with its answer
pub record HasMore (c : Transcript) (l : ScriptLine) (a : Answer) (d : Transcript) : Type 0 where
  pub seat : d.seat ≡ c.seat
  pub lines : d.lines.items ≡ c.lines.items ++ l ∷ []
  pub answers : d.answers.items ≡ c.answers.items ++ a ∷ []
  pub standing_so : d.standing ≡ c.standing
  pub room : KeepsRoom c d

-- it ends with this line, which has no answer
pub record EndsWith (c : Transcript) (l : ScriptLine) (d : Transcript) : Type 0 where
  pub seat : d.seat ≡ c.seat
  pub lines : d.lines.items ≡ c.lines.items ++ l ∷ []
  pub answers : d.answers.items ≡ c.answers.items
  pub standing_so : d.standing ≡ standing.Stopped
  pub room : KeepsRoom c d

-- memory ran out while a line was run, of which it has nothing
pub record Starves (c d : Transcript) : Type 0 where
  pub seat : d.seat ≡ c.seat
  pub lines : d.lines.items ≡ c.lines.items
  pub answers : d.answers.items ≡ c.answers.items
  pub standing_so : d.standing ≡ standing.Starved
  pub room : KeepsRoom c d

-- The command was asked, and answered so: the transcript has just this line more, and its answer.
pub record IsAnswered (c : Transcript) (asked : Command) (a : Answer) (d : Transcript) : Type 0 where
  pub opened : c.standing ≡ standing.Open
  pub number : ℕ
  pub more : HasMore c (record { line = number; session = c.seat; command = asked }) a d
  pub tells : MayTell asked a
  pub comes : ComesAlone a (dealings_of c)

-- It was answered, in a session in the one phase, which the answer leaves in the other one: where it has a snapshot, a commit ends it or is refused.
pub record IsAsked (phase next : Phase) (c : Transcript) (asked : Command) (d : Transcript) : Type 0 where
  pub answer : Answer
  pub answered : IsAnswered c asked answer d
  pub ends : is_snapshot phase ≡ true → asked ≡ command.Commit → TellsEnd answer
  pub leaves : next ≡ phase_after (Some asked) answer phase

-- the refusal of a client that is asked no more
abbrev pub over_told : Standing → Option Refusal
over_told standing.Open = None
over_told standing.Stopped = Some refusal.Stopped
over_told standing.Starved = Some refusal.Memory

-- Why a command was refused, and what the transcript has of it.
pub data IsRefused (c : Transcript) (asked : Command) (why : Refusal) (d : Transcript) : Type 0 where
  -- it was answered by the refusal
  answered : (a : Answer) → IsAnswered c asked a d → refusal_told a ≡ Some why → IsRefused c asked why d
  -- it was a scan, which was answered, and there was no memory for a copy of what it found; of any other command `Memory` says that nothing of it was done
  untold : (table low high : ℕ) (found : List (ℕ × List ℕ)) → asked ≡ command.Scan table low high → IsAnswered c asked (answer.Replied (reply.Found found)) d → why ≡ refusal.Memory
      → IsRefused c asked why d
  -- the client was told to stop before it was answered: it is asked no more
  stopped : (number : ℕ) → c.standing ≡ standing.Open → why ≡ refusal.Stopped → EndsWith c (record { line = number; session = c.seat; command = asked }) d
      → IsRefused c asked why d
  -- memory ran out while it was run: the client is asked no more
  starved : c.standing ≡ standing.Open → why ≡ refusal.Memory → Starves c d → IsRefused c asked why d
  -- there was no memory for the line itself, and so it wasn't asked
  unasked : c.standing ≡ standing.Open → why ≡ refusal.Memory → (HasRoom (room_for asked) c → ⊥) → IsSame c d → IsRefused c asked why d
  -- the client is asked no more
  over : over_told c.standing ≡ Some why → IsSame c d → IsRefused c asked why d

-- Why a snapshot wasn't ended, and what the transcript has of it.
pub data IsUnended (c : Transcript) (why : Refusal) (d : Transcript) : Type 0 where
  -- the commit that was to end it was refused, and not because it ended
  refused : IsRefused c command.Commit why d → why ≢ refusal.Ended → IsUnended c why d
  -- the session has none, and so nothing was asked
  none : why ≡ refusal.NoSnapshot → HasNone c → IsSame c d → IsUnended c why d
