-- Executions of a script over a world: its lines in turn, and then the end, at which each session is closed.
use Rattle.std.specs.Prelude.{◌≡◌, ℕ, ◌+◌, ◌<◌, ◌≤◌, ◌⊎◌, Bool, not, nat_eq, List, [], ◌∷◌, length, replicate, Some, None}
use Rattle.std.specs.Cmp.Lexicographic.{pointwise}
use Rattle.std.specs.List.{All, AllPairs, filter, range_with_len}
use Rattle.erm_model.specs.declared.limits.TheConstants.{LAST_NUMBER, LEAST_BLOCK, MOST_CELLS, OID_LIMIT, TABLE_CELLS}
use Rattle.erm_model.specs.declared.TheConstants.{ROW_WORDS}
use Rattle.erm_model.specs.declared.outcome.Phase.TheVariants.{Idle}
use Rattle.erm_model.specs.Member.{◌∈◌}
use Rattle.erm_model.specs.Rows.{Rows}
use Rattle.erm_node.specs.Sound.{sound_law}
use Rattle.erm_node.specs.TreeMap.{map_of_rows}
use Rattle.erm_report.specs.declared.answer.Answer.{Answer}
use Rattle.erm_report.specs.declared.answer.Answer.TheVariants as answer
use Rattle.erm_script.specs.declared.script.Command.{Command}
use Rattle.erm_script.specs.declared.script.Command.TheVariants as command
use Rattle.erm_script.specs.declared.script.ScriptLine.{ScriptLine}
use Rattle.erm_script.specs.Script.{IsInRange}
use Rattle.erm_world.specs.Laws.{IsSerializable}
use Rattle.erm_world.specs.World.{IsSession, View, Work, phase_at}
use Rattle.erm_world.specs.World as world
use Rattle.erm_good_report.specs.Opening.{Opening}
use Rattle.erm_good_report.specs.Phases.{Closed, Closes}
use Rattle.erm_good_report.specs.Transactions.{Said}
use Rattle.erm_lines.specs.Answers.{DidClose, DidLine}

-- One move of an execution: a line of a session was answered, or one of the log; or, at the end, a session was closed with this answer,
-- or the log was flushed.
pub data Move : Type 0 where
  line : ScriptLine → Answer → Move
  log : ScriptLine → Answer → Move
  close : (seat : ℕ) → Answer → Move
  flush : Move

-- the log's flushed place went on, or not, and the sessions stay, with their savepoints
pub record DidFlush (v t : View) : Type 0 where
  pub session : (seat : ℕ) → IsSession v seat → t.session seat ≡ v.session seat
  pub saves : (seat : ℕ) → IsSession v seat → t.saves seat ≡ v.saves seat
  pub opening : t.opening ≡ v.opening
  pub tail : t.tail ≡ v.tail
  pub above : v.flushed ≤ t.flushed

-- a session's transaction is sealed with this stamp, and isn't decided
pub record IsPendingAt (v : View) (stamp : ℕ) : Type 0 where
  pub seat : ℕ
  pub session : IsSession v seat
  pub work : Work
  pub sealed : (v.session seat).stand ≡ world.sealed work stamp

-- All below this place of the log is decided, and nothing more: it is the log's end, or a transaction's stamp that isn't decided.
pub record IsDecidedTo (v : View) (place : ℕ) : Type 0 where
  pub stop : (place ≡ v.tail) ⊎ IsPendingAt v place
  pub least : (stamp : ℕ) → IsPendingAt v stamp → place ≤ stamp

-- the log's words that are synced went up to this place
pub record FlushesTo (v : View) (place : ℕ) (t : View) : Type 0 where
  pub flushes : DidFlush v t
  pub up : t.flushed ≡ place

-- A line of the log was run. A flush raises the place below which all is synced as far as all is decided; a checkpoint needs all decided.
abbrev pub DidLog : View → Command → Answer → View → Type 0
DidLog v command.Flush (answer.Flushed place) t = FlushesTo v place t × (v.flushed < place) × IsDecidedTo v place
DidLog v command.Flush (answer.Empty place) t = FlushesTo v place t × (place ≡ v.flushed) × (place ≡ v.tail)
DidLog v command.Flush (answer.Unfilled place) t = FlushesTo v place t × (place ≡ v.flushed) × IsPendingAt v place × IsDecidedTo v place
DidLog v command.Checkpoint (answer.Checkpointed place) t = FlushesTo v place t × (place ≡ v.tail) × IsDecidedTo v place
DidLog v command.Checkpoint (answer.Unfilled place) t = FlushesTo v place t × IsPendingAt v place × IsDecidedTo v place
DidLog v c a t = ⊥

-- it names no session, and was answered so
pub record DidLogLine (v : View) (l : ScriptLine) (a : Answer) (t : View) : Type 0 where
  pub session : l.session ≡ 0
  pub did : DidLog v l.command a t

-- a session that isn't idle was closed, with an answer that closes it
pub record DidEnd (v : View) (seat : ℕ) (a : Answer) (t : View) : Type 0 where
  pub session : IsSession v seat
  pub fits : Closes (phase_at v seat) a
  pub did : DidClose (phase_at v seat) v seat a t

abbrev pub DidMove : View → Move → View → Type 0
DidMove v (line l a) t = DidLine v l a t
DidMove v (log l a) t = DidLogLine v l a t
DidMove v (close seat a) t = DidEnd v seat a t
DidMove v flush t = DidFlush v t

-- moves in turn, each of which leaves a world whose transactions are serializable
abbrev pub IsExecution : View → List Move → View → Type 0
IsExecution v [] t = t ≡ v
IsExecution v (move ∷ moves) t = (u : View) × DidMove v move u × IsSerializable sound_law u × IsExecution u moves t

-- the move of a line with its answer
abbrev pub move_as : Command → ScriptLine → Answer → Move
move_as command.Flush l a = log l a
move_as command.Checkpoint l a = log l a
move_as c l a = line l a

abbrev pub move_of : ScriptLine → Answer → Move
move_of l a = move_as l.command l a

-- the moves of lines with their answers
abbrev pub line_moves : List ScriptLine → List Answer → List Move
line_moves [] answers = []
line_moves (l ∷ ls) [] = []
line_moves (l ∷ ls) (a ∷ answers) = move_of l a ∷ line_moves ls answers

-- what moves say
abbrev pub said_in : List Move → List Said
said_in [] = []
said_in (line l a ∷ moves) = record { session = l.session; asked = Some l.command; answer = a } ∷ said_in moves
said_in (log l a ∷ moves) = record { session = l.session; asked = Some l.command; answer = a } ∷ said_in moves
said_in (close seat a ∷ moves) = record { session = seat; asked = None; answer = a } ∷ said_in moves
said_in (flush ∷ moves) = said_in moves

-- a move closes a session, or flushes
abbrev pub IsLast : Move → Type 0
IsLast (line l a) = ⊥
IsLast (log l a) = ⊥
IsLast (close seat a) = Unit {0}
IsLast flush = Unit {0}

-- the sessions that moves close
abbrev pub closed_in : List Move → List Closed
closed_in [] = []
closed_in (line l a ∷ moves) = closed_in moves
closed_in (log l a ∷ moves) = closed_in moves
closed_in (close seat a ∷ moves) = record { session = seat; answer = a } ∷ closed_in moves
closed_in (flush ∷ moves) = closed_in moves

-- a world that was just opened
pub record IsOpened (v : View) : Type 0 where
  pub idle : (seat : ℕ) → IsSession v seat → v.session seat ≡ record { over = []; stand = world.idle }
  pub tail : v.tail ≡ v.opening.tail
  pub flushed : v.flushed ≡ v.opening.tail
  pub pinned : v.pinned ≡ None
  pub given_up : (seat : ℕ) → v.given_up seat ≡ []
  pub serializable : IsSerializable sound_law v

-- An execution of a script, of no more lines than a session may have transactions, whose commands are in range: the answers are those of its lines, one for each, and then all sessions are closed.
pub record IsRun (v : View) (script : List ScriptLine) (answers : List Answer) (t : View) : Type 0 where
  pub opened : IsOpened v
  pub ranges : (l : ScriptLine) → l ∈ script → IsInRange l.command
  pub few : length script ≤ LAST_NUMBER
  pub each : length answers ≡ length script
  pub between : View
  pub lines : IsExecution v (line_moves script answers) between
  pub closing : List Move
  pub last : All IsLast closing
  pub closes : IsExecution between closing t
  pub idle : (seat : ℕ) → IsSession t seat → phase_at t seat ≡ Idle

-- A run so far: an execution of the first lines of a script, which has no more lines than a session may have transactions, and whose
-- commands are in range. The answers are those of these lines, one for each; and then some sessions may have been closed.
pub record IsCourse (v : View) (script : List ScriptLine) (answers : List Answer) (t : View) : Type 0 where
  pub opened : IsOpened v
  pub ranges : (l : ScriptLine) → l ∈ script → IsInRange l.command
  pub few : length script ≤ LAST_NUMBER
  pub most : length answers ≤ length script
  pub between : View
  pub lines : IsExecution v (line_moves script answers) between
  pub closing : List Move
  pub last : All IsLast closing
  pub closes : IsExecution between closing t

-- A run that was cut off behind some of its lines: no session is closed.
pub record IsPart (v : View) (script : List ScriptLine) (answers : List Answer) (t : View) : Type 0 where
  pub opened : IsOpened v
  pub ranges : (l : ScriptLine) → l ∈ script → IsInRange l.command
  pub few : length script ≤ LAST_NUMBER
  pub most : length answers ≤ length script
  pub lines : IsExecution v (line_moves script answers) t

-- these are the sessions that an execution closed, by seat
pub record AreClosed (closing : List Move) (closed : List Closed) : Type 0 where
  pub ascend : AllPairs (λ a b. a.session < b.session) closed
  pub only : (c : Closed) → c ∈ closed → c ∈ closed_in closing
  pub all : (c : Closed) → c ∈ closed_in closing → c ∈ closed

-- whether a row is of zeros
abbrev pub is_zero : List ℕ → Bool
is_zero row = pointwise nat_eq row (replicate ROW_WORDS 0)

-- how many objects have a row that isn't of zeros
abbrev pub count_rows : Rows → ℕ
count_rows rows = length (filter (λ oid. not (is_zero (rows oid))) (range_with_len 0 OID_LIMIT))

-- what a report starts from is how the world was opened, which has cells enough, and no more than there may be
pub record IsOpeningOf (v : View) (opening : Opening) : Type 0 where
  pub map : opening.map ≡ map_of_rows v.opening.rows
  pub stamp : v.opening.tail ≡ opening.stamp + LEAST_BLOCK
  pub rows : opening.rows ≡ count_rows v.opening.rows
  pub first : opening.first ≡ v.opening.first
  pub cells : (TABLE_CELLS ≤ v.opening.cells) × (v.opening.cells ≤ MOST_CELLS)
