-- What the calls behind a line of a script are: which events an operation on a table has, whole or cut off.
use Rattle.std.specs.Prelude.{◌≡◌, ℕ, ◌+◌, ◌^◌, max, false, List, [], ◌∷◌, ◌++◌, Option, MatchOption}
use Rattle.erm_model.specs.declared.operation.Reply.TheVariants as reply
use Rattle.erm_model.specs.declared.row_stop.RowStop.{RowStop}
use Rattle.erm_model.specs.Database.{IsNextAt}
use Rattle.erm_model.specs.Rows.{Rows}
use Rattle.erm_model.specs.RowTransaction.{Agrees, Asked, Event, KeepsLaw, OnlyReads, WritesNothing, after_all, did_claim, ends}
use Rattle.erm_model.specs.Run.{IsReplyOn, Step, change}
use Rattle.erm_node.specs.Sound.{IsSound, sound_law}
use Rattle.erm_node.specs.TreeMap.{map_of_rows, record_in}
use Rattle.erm_record.specs.Record.{absent_row, value_row}
use Rattle.erm_tree.specs.Calls.{AsksReads, ReadsAre}
use Rattle.erm_tree.specs.Change.{AreReadsThen, AsksDel, AsksPut, IsDel, IsPut}
use Rattle.erm_tree.specs.Reads.{IsMetIn, IsOnWay, IsSought}
use Rattle.erm_tree.specs.Walk.{IsMetByNext, last_sought}
use Rattle.erm_world.specs.Face.{Answered, WasRefused}
use Rattle.erm_world.specs.World.{View}
use Rattle.erm_maps.specs.Runs.{IsRunOf, kept_at}
use Rattle.erm_report.specs.declared.answer.Answer.{Answer}
use Rattle.erm_report.specs.declared.answer.Answer.TheVariants as answer
use Rattle.erm_script.specs.declared.script.Command.{Command}
use Rattle.erm_script.specs.declared.script.Command.TheVariants as command

-- events read these objects alone
abbrev pub ReadsOnly : (ℕ → Type 0) → List Event → Type 0
ReadsOnly objects events = OnlyReads events × ReadsAre objects events

-- x is met in a table from the key `low` up to the first key above `high`, and not below `low`, that has a value, or to the greatest key where there
-- is none
abbrev pub IsMetByScan : ℕ → ℕ → ℕ → Rows → ℕ → Type 0
IsMetByScan table low high rows x =
    (found : Option (ℕ × List ℕ)) × IsNextAt (map_of_rows rows) table (max low (high + 1)) found × IsMetIn rows table low (last_sought (2 ^ 64) found) x

-- A key was tidied: where it has an entry, its record was claimed alone.
abbrev pub IsTidy : Rows → ℕ → ℕ → List Event → Type 0
IsTidy rows table key events =
    MatchOption (record_in rows table key) (AreReadsThen (IsOnWay table key rows) [] events) (λ oid. AreReadsThen (IsOnWay table key rows) (did_claim oid ∷ []) events)

-- the events of an answered operation, on rows that its transaction may have seen before it
abbrev pub WholeOf : Command → Answer → Rows → List Event → Type 0
WholeOf (command.Get table key) a rows events = ReadsOnly (IsSought table key rows) events
WholeOf (command.Put table key value) a rows events = IsPut rows table key (value_row value) events
WholeOf (command.Del table key) a rows events = IsDel rows table key absent_row events
WholeOf (command.Next table from) (answer.Replied (reply.Pair found)) rows events = ReadsOnly (λ x. IsMetIn rows table from (last_sought (2 ^ 64) found) x) events
WholeOf (command.Scan table low high) a rows events = ReadsOnly (IsMetByScan table low high rows) events
WholeOf (command.Tidy table key) a rows events = IsTidy rows table key events
WholeOf c a rows events = ⊥

-- the events of one that was cut off by a refusal
abbrev pub FrontOf : Command → Rows → List Event → Type 0
FrontOf (command.Get table key) rows events = ReadsOnly (IsSought table key rows) events
FrontOf (command.Put table key value) rows events =
    ReadsAre (IsOnWay table key rows) events × ((others : List Event) × IsPut rows table key (value_row value) (events ++ others))
FrontOf (command.Del table key) rows events = ReadsOnly (IsOnWay table key rows) events
FrontOf (command.Next table from) rows events = ReadsOnly (IsMetByNext table from rows) events
FrontOf (command.Scan table low high) rows events = ReadsOnly (IsMetByScan table low high rows) events
FrontOf (command.Tidy table key) rows events = ReadsOnly (IsOnWay table key rows) events
FrontOf c rows events = ⊥

-- what it asked for then
abbrev pub AsksOf : Command → List Event → Rows → Asked → Type 0
AsksOf (command.Get table key) events rows asked = AsksReads (IsSought table key) events rows asked
AsksOf (command.Put table key value) events rows asked = AsksPut table key (value_row value) events rows asked
AsksOf (command.Del table key) events rows asked = AsksDel table key events rows asked
AsksOf (command.Next table from) events rows asked = AsksReads (IsMetByNext table from) events rows asked
AsksOf (command.Scan table low high) events rows asked = AsksReads (IsMetByScan table low high) events rows asked
AsksOf (command.Tidy table key) events rows asked = AsksDel table key events rows asked
AsksOf c events rows asked = ⊥

-- calls of a session's transaction were answered in turn, with these events
abbrev pub Ran : View → ℕ → List Event → View → Type 0
Ran v seat [] t = t ≡ v
Ran v seat (event ∷ events) t = (u : View) × Answered v seat event u × Ran u seat events t

-- an operation on the map and its reply are right on rows on which it was called
pub record IsRightOn (step : Step) (events : List Event) (rows : Rows) : Type 0 where
  pub reply : IsReplyOn (map_of_rows rows) step.op step.reply
  pub after_is : map_of_rows (after_all events rows) ≡ change step.op (map_of_rows rows)

-- Calls were answered: their events are of a kind and keep the law of rows, on each sound array that agrees with them; and they count as these
-- operations of the transaction on the map, of which there is one or none.
pub record DidCalls (v : View) (seat : ℕ) (steps : List Step) (kind : Rows → List Event → Type 0) (t : View) : Type 0 where
  pub events : List Event
  pub ran : Ran v seat events t
  pub of : (rows : Rows) → IsSound rows → Agrees sound_law events rows → kind rows events × KeepsLaw sound_law events rows
  pub right : (step : Step) → steps ≡ step ∷ [] → (rows : Rows) → IsSound rows → Agrees sound_law events rows → IsRightOn step events rows
  pub none : steps ≡ [] → WritesNothing events
  pub run : (before : List Step) → IsRunOf (kept_at v seat) before → IsRunOf (kept_at t seat) (before ++ steps)

-- Calls were answered, and then one was refused: the events before it set no row and are of a kind, what it asked for too, on each sound array
-- that agrees with them; where the refusal doesn't end the transaction, this is the run of the same operations.
pub record WereCutOff (v : View) (seat : ℕ) (front : Rows → List Event → Type 0) (asks : List Event → Rows → Asked → Type 0) (stop : RowStop) (t : View) : Type 0 where
  pub events : List Event
  pub at : View
  pub ran : Ran v seat events at
  pub none : WritesNothing events
  pub of : (rows : Rows) → IsSound rows → Agrees sound_law events rows → front rows events
  pub asked : Asked
  pub asks_so : (rows : Rows) → IsSound rows → Agrees sound_law events rows → asks events rows asked
  pub refused : WasRefused at seat asked stop t
  pub run : ends stop ≡ false → (before : List Step) → IsRunOf (kept_at v seat) before → IsRunOf (kept_at t seat) before
