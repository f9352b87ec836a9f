-- What is kept of the sessions of a report, and the transactions and snapshots that it stands for.
use Rattle.std.specs.Prelude.{◌≡◌, ℕ, ◌+◌, ◌<◌, ◌^◌, false, List, [], ◌∷◌, ◌++◌, length, map, Option, Some, None}
use Rattle.std.specs.List.{filter_map, slice_get}
use Rattle.std.specs.Option.{option_and_then, option_map, option_to_list}
use Rattle.erm_model.specs.Committed.{Committed}
use Rattle.erm_model.specs.declared.operation.Op.{Op}
use Rattle.erm_model.specs.Run.{Step}
use Rattle.erm_report.specs.declared.answer.Answer.{Answer}
use Rattle.erm_report.specs.declared.answer.Answer.TheVariants as answer
use Rattle.erm_script.specs.declared.script.Command.{Command}
use Rattle.erm_script.specs.declared.script.ScriptLine.{ScriptLine}
use Rattle.erm_good_report.specs.Phases.{Closed}
use Rattle.erm_good_report.specs.Transactions.{Said, Snapshot, Transaction, Unfinished, Progress, ended_as, looks_of, progress_of, history_of, step_of, steps_of, with_begin}
use Rattle.erm_summary.specs.declared.hearing.Begun.{Begun}
use Rattle.erm_summary.specs.declared.hearing.Session.{Session}
use Rattle.erm_summary.specs.declared.hearing.Watched.{Watched}
use Rattle.erm_summary.specs.declared.told.ClosedSession.{ClosedSession}
use Rattle.erm_summary.specs.declared.told.ToldCommit.{ToldCommit}

-- the step at a place of a script: its operation with the reply, where it got one
abbrev pub step_at : List ScriptLine → List Answer → ℕ → Option Step
step_at script answers place = option_and_then (λ l. option_and_then (λ a. step_of (record { asked = l.command; answer = a })) (slice_get answers place)) (slice_get script place)

-- and its operation
abbrev pub op_at : List ScriptLine → List Answer → ℕ → Option Op
op_at script answers place = option_map (λ s. s.op) (step_at script answers place)

-- the steps at some places
abbrev pub steps_at : List ScriptLine → List Answer → List ℕ → List Step
steps_at script answers places = filter_map (step_at script answers) places

-- the committed transaction that is told, with its steps
abbrev pub committed_as_told : List ScriptLine → List Answer → ToldCommit → Committed
committed_as_told script answers c = record {
  session = c.session;
  number = c.number;
  begin = c.begin;
  stamp = c.stamp;
  succ = c.succ;
  pred = c.pred;
  steps = steps_at script answers c.lines.items;
}

-- those of some commits
abbrev pub history_told : List ScriptLine → List Answer → List ToldCommit → List Committed
history_told script answers commits = map (committed_as_told script answers) commits

-- a closed session as the report has it
abbrev pub closed_of : ClosedSession → Closed
closed_of c = record { session = c.session; answer = c.answer }

-- the places of a report that sessions closed at its end have
abbrev pub closes_of : List Closed → List Said
closes_of closed = map (λ c. record { session = c.session; asked = None; answer = c.answer }) closed

-- what the line of this place of a script asked for, and that this is its answer; a session that was closed was asked nothing
abbrev pub IsAskedAt : List ScriptLine → List Answer → Option ℕ → Option Command → Answer → Type 0
IsAskedAt script answers None asked a = asked ≡ None
IsAskedAt script answers (Some place) asked a = (l : ScriptLine) × (slice_get script place ≡ Some l) × (slice_get answers place ≡ Some a) × (asked ≡ Some l.command)

-- an answer is the reply to an operation
abbrev pub IsReply : Answer → Type 0
IsReply (answer.Replied r) = Unit {0}
IsReply (answer.Saved held) = Unit {0}
IsReply (answer.Back n) = Unit {0}
IsReply a = ⊥

-- what is kept of a transaction that has not ended
pub record IsBegun (script : List ScriptLine) (answers : List Answer) (seat : ℕ) (t : Transaction) (b : Begun) : Type 0 where
  pub session : t.session ≡ seat
  pub number : t.number ≡ b.number
  pub begin : t.begin ≡ b.begin
  pub ending : t.ending ≡ Unfinished
  pub steps : steps_of t ≡ steps_at script answers b.lines.items

abbrev pub IsCurrent : List ScriptLine → List Answer → ℕ → Option Transaction → Option Begun → Type 0
IsCurrent script answers seat None None = Unit {0}
IsCurrent script answers seat None (Some b) = ⊥
IsCurrent script answers seat (Some t) None = ⊥
IsCurrent script answers seat (Some t) (Some b) = IsBegun script answers seat t b

-- what is kept of a snapshot that has not ended
pub record IsWatched (script : List ScriptLine) (answers : List Answer) (s : Snapshot) (w : Watched) : Type 0 where
  pub number : s.number ≡ w.number
  pub begin : s.begin ≡ w.begin
  pub steps : looks_of s ≡ steps_at script answers w.lines.items
  pub placed : s.placed ≡ false

abbrev pub IsWatching : List ScriptLine → List Answer → Option Snapshot → Option Watched → Type 0
IsWatching script answers None None = Unit {0}
IsWatching script answers None (Some w) = ⊥
IsWatching script answers (Some s) None = ⊥
IsWatching script answers (Some s) (Some w) = IsWatched script answers s w

-- what is kept of a session's transactions and snapshots
pub record Follows (script : List ScriptLine) (answers : List Answer) (p : Progress) (s : Session) : Type 0 where
  pub over : length p.over + length p.snapshots ≡ s.over
  pub commits : history_of p.over ≡ history_told script answers s.commits.items
  pub current : IsCurrent script answers s.seat p.current s.current
  pub ended : filter_map (ended_as s.seat) p.snapshots ≡ history_told script answers s.ended.items
  pub watched : IsWatching script answers p.snapshot s.watched

-- what is kept of a transaction, and of a snapshot, got the line at this place, if there is one
abbrev pub GotLine : Option ℕ → Option Begun → Option Begun → Type 0
GotLine place None now = now ≡ None
GotLine place (Some b) now = (new : Begun) × (now ≡ Some new) × (new.number ≡ b.number) × (new.begin ≡ b.begin) × (new.lines.items ≡ b.lines.items ++ option_to_list place)

abbrev pub GotLook : Option ℕ → Option Watched → Option Watched → Type 0
GotLook place None now = now ≡ None
GotLook place (Some w) now = (new : Watched) × (now ≡ Some new) × (new.number ≡ w.number) × (new.begin ≡ w.begin) × (new.lines.items ≡ w.lines.items ++ option_to_list place)

-- a snapshot that is safe where a begin stamp is told
abbrev pub told_safe : Option ℕ → Snapshot → Snapshot
told_safe None s = s
told_safe (Some begin) s = with_begin begin s

-- how many numbers a session has taken
abbrev pub taken_in : Session → ℕ
taken_in s = s.over + length (option_to_list s.current) + length (option_to_list s.watched)

-- a session without its transaction and its snapshot
abbrev pub given_up : Session → Session
given_up s = record s { over = taken_in s; current = None; watched = None }

-- what is kept of sessions, by their seats from one on, after these places of a report
abbrev pub FollowEach : List ScriptLine → List Answer → List Said → ℕ → List Session → Type 0
FollowEach script answers said seat [] = Unit {0}
FollowEach script answers said seat (s ∷ sessions) = (s.seat ≡ seat) × Follows script answers (progress_of seat said) s × FollowEach script answers said (seat + 1) sessions

-- so many more transactions and snapshots may begin in each of these sessions
abbrev pub HaveRoom : ℕ → List Session → Type 0
HaveRoom more [] = Unit {0}
HaveRoom more (s ∷ sessions) = (taken_in s + more < 2 ^ 32) × HaveRoom more sessions
