-- What the calls behind a line are, where sessions run at once: those of the session's transaction, whatever others do between, tried again
-- after each wait.
use Rattle.std.specs.Prelude.{◌≡◌, ℕ, zero, suc, ◌≤◌, false, List, [], ◌∷◌, Option, Some, None}
use Rattle.erm_model.specs.declared.operation.Op.{Op}
use Rattle.erm_model.specs.declared.row_stop.RowStop.{RowStop}
use Rattle.erm_model.specs.declared.row_stop.RowStop.TheVariants as stop
use Rattle.erm_model.specs.Rows.{Rows}
use Rattle.erm_model.specs.RowTransaction.{Agrees, Asked, Event, WritesNothing, ends}
use Rattle.erm_model.specs.Run.{Step}
use Rattle.erm_node.specs.Sound.{IsSound, sound_law}
use Rattle.erm_report.specs.declared.answer.Answer.{Answer}
use Rattle.erm_report.specs.declared.answer.Answer.TheVariants as answer
use Rattle.erm_script.specs.declared.script.Command.{Command}
use Rattle.erm_world.specs.World.{View}
use Rattle.erm_maps.specs.Runs.{IsRunOf, kept_at}
use Rattle.erm_good_report.specs.Phases.{IsAnswerTo}
use Rattle.erm_good_report.specs.Transactions.{op_of}
use Rattle.erm_lines.specs.Answers.{stop_told}
use Rattle.erm_lines.specs.Operations.{AsksOf, DidCalls, FrontOf, Ran, WholeOf}
use Rattle.erm_beside.specs.Calls.{After, Passes, RefusedBeside}
use Rattle.erm_beside.specs.Ends.{MetBeside}

-- In some world in which the session stands as in the first view, with its savepoints, this was done, and the session stands as in the second: of the
-- worlds only its own part counts. The log may have come further meanwhile.
pub record Beside (seat : ℕ) (Did : View → View → Type 0) (v t : View) : Type 0 where
  pub from : View
  pub to : View
  pub starts : from.session seat ≡ v.session seat
  pub starts_saves : from.saves seat ≡ v.saves seat
  pub did : Did from to
  pub stops : t.session seat ≡ to.session seat
  pub stops_saves : t.saves seat ≡ to.saves seat
  pub opening : t.opening ≡ v.opening
  pub tail : v.tail ≤ t.tail
  pub flushed : v.flushed ≤ t.flushed
  pub given_up : t.given_up seat ≡ v.given_up seat

-- Calls were answered, and then one was refused: the events before it set no row and are of a kind, what it asked for too, on each sound array
-- that agrees with them; what it met of others is so of the world in which all end; where the refusal doesn't end the transaction, this is the
-- run of the same operations.
pub record WereCutBeside (f : View) (seat : ℕ) (front : Rows → List Event → Type 0) (asks : List Event → Rows → Asked → Type 0) (why : RowStop) (v t : View) : Type 0 where
  pub events : List Event
  pub at : View
  pub ran : Beside seat (λ u w. Ran u seat events w) v at
  pub none : WritesNothing events
  pub of : (rows : Rows) → IsSound rows → Agrees sound_law events rows → front rows events
  pub asked : Asked
  pub asks_so : (rows : Rows) → IsSound rows → Agrees sound_law events rows → asks events rows asked
  pub refused : After seat (RefusedBeside seat asked why) at t
  pub met : MetBeside f seat asked why at t
  pub run : ends why ≡ false → (before : List Step) → IsRunOf (kept_at v seat) before → IsRunOf (kept_at t seat) before

-- what a refusal is answered as, where lines run at once: a wait is none, since the line is tried again
abbrev pub told_at_once : RowStop → Option Answer
told_at_once (stop.NotYet seat seen) = None
told_at_once why = stop_told why

-- the line's calls were cut off so often by another session's transaction that isn't decided
abbrev pub WasTried : View → ℕ → Command → ℕ → View → View → Type 0
WasTried f seat c zero v t = Passes seat v t
WasTried f seat c (suc n) v t = (u : View) × ((other : ℕ) × (seen : ℕ) × WereCutBeside f seat (FrontOf c) (AsksOf c) (stop.NotYet other seen) v u) × WasTried f seat c n u t

-- the last try was answered: by a reply, by how many versions were cut off, or by a refusal
abbrev pub DidOnce : View → ℕ → Command → Answer → View → View → Type 0
DidOnce f seat c (answer.Replied r) v t =
    (op : Op) × (op_of c ≡ Some op) × Beside seat (λ u w. DidCalls u seat (record { op = op; reply = r } ∷ []) (WholeOf c (answer.Replied r)) w) v t
DidOnce f seat c (answer.Cut cells) v t = (op_of c ≡ None) × (cells ≤ v.opening.cuts) × Beside seat (λ u w. DidCalls u seat [] (WholeOf c (answer.Cut cells)) w) v t
DidOnce f seat c a v t = (why : RowStop) × (told_at_once why ≡ Some a) × WereCutBeside f seat (FrontOf c) (AsksOf c) why v t

-- A line that names a table was answered, after so many tries.
pub record DidOperationBeside (f : View) (seat : ℕ) (c : Command) (a : Answer) (v t : View) : Type 0 where
  pub times : ℕ
  pub at : View
  pub tried : WasTried f seat c times v at
  pub once : DidOnce f seat c a at t

-- One try of a line: an answer that its command may have, or none where it waits.
abbrev pub TriedOnce : View → ℕ → Command → Option Answer → View → View → Type 0
TriedOnce f seat c (Some a) v t = IsAnswerTo c a × DidOnce f seat c a v t
TriedOnce f seat c None v t = (other : ℕ) × (seen : ℕ) × WereCutBeside f seat (FrontOf c) (AsksOf c) (stop.NotYet other seen) v t

-- a refusal that isn't for want of memory
abbrev pub IsNamed : RowStop → Type 0
IsNamed stop.Memory = ⊥
IsNamed why = Unit {0}
