-- Operations of one transaction, answered by calls of the tree one after another, with calls between that set no row.
use Rattle.std.specs.Prelude.{◌≡◌, ◌⊎◌, false, ℕ, List, [], ◌∷◌, Option}
use Rattle.std.specs.FinMap.{insert, remove}
use Rattle.erm_model.specs.declared.operation.Op.{Op}
use Rattle.erm_model.specs.declared.operation.Op.TheVariants.{Get, Put, Del, Next, Scan, Save, Back}
use Rattle.erm_model.specs.declared.operation.Reply.{Reply}
use Rattle.erm_model.specs.declared.operation.Reply.TheVariants as reply
use Rattle.erm_model.specs.declared.row_stop.RowStop.{RowStop}
use Rattle.erm_model.specs.Database.{at, value_at, IsNextAt}
use Rattle.erm_model.specs.Rows.{Rows}
use Rattle.erm_model.specs.RowTransaction.{Event, Asked, Face, IsLawful, SameLaw, WritesNothing, Runs, Stays, Does, IsRefused, IsStopped, Saw, Did, ends}
use Rattle.erm_model.specs.Run.{AreOnMap, Step, RunsOn, change_all, ops_of}
use Rattle.erm_node.specs.Sound.{IsSound, sound_law}
use Rattle.erm_node.specs.TreeMap.{map_of_rows}
use Rattle.erm_tree.specs.Calls.{IsReady, SawIn}

-- a call answered an operation: the value by `get`, the pair by `next`, and `put` and `del` by what they changed; no one call
-- answers a scan, and none is of savepoints
abbrev pub IsAnswered : {S : Type 0} → Face S → S → Op → Reply → S → Type 0
IsAnswered {S} face s (Get table key) r t = (value : Option (List ℕ)) × (r ≡ reply.Value value) × Saw face s t (λ rows. value ≡ value_at (map_of_rows rows) table key)
IsAnswered {S} face s (Put table key value) r t = (r ≡ reply.Done) × Did face s t (λ old new. map_of_rows new ≡ insert (map_of_rows old) (at table key) value)
IsAnswered {S} face s (Del table key) r t = (r ≡ reply.Done) × Did face s t (λ old new. map_of_rows new ≡ remove (map_of_rows old) (at table key))
IsAnswered {S} face s (Next table from) r t = (found : Option (ℕ × List ℕ)) × (r ≡ reply.Pair found) × Saw face s t (λ rows. IsNextAt (map_of_rows rows) table from found)
IsAnswered {S} face s (Scan table low high) r t = ⊥
IsAnswered {S} face s Save r t = ⊥
IsAnswered {S} face s (Back n) r t = ⊥

-- The transaction goes on after events that set no row, and then nothing or a call that was refused and left all as it was: for
-- its map a stuttering step (Lamport).
pub record Stutters {S : Type 0} (face : Face S) (s t : S) : Type 0 where
  pub events : List Event
  pub none : WritesNothing events
  pub at : S
  pub runs : Runs face s events at
  pub goes : face.follows s at
  pub stays : Stays face at t
  pub rests : (t ≡ at) ⊎ face.follows at t

-- a call that answered an operation, or one that set no row
pub data Call : Type 0 where
  answered : Step → Call
  stuttered : Call

-- the operations that calls answered
abbrev pub answered_steps : List Call → List Step
answered_steps [] = []
answered_steps (answered step ∷ calls) = step ∷ answered_steps calls
answered_steps (stuttered ∷ calls) = answered_steps calls

-- a call was made
abbrev pub IsCalled : {S : Type 0} → Face S → S → Call → S → Type 0
IsCalled {S} face s (answered step) t = IsAnswered face s step.op step.reply t
IsCalled {S} face s stuttered t = Stutters face s t

-- calls were made in turn
abbrev pub AreCalled : {S : Type 0} → Face S → S → List Call → S → Type 0
AreCalled {S} face s [] t = t ≡ s
AreCalled {S} face s (call ∷ calls) t = (u : S) × IsCalled face s call u × AreCalled face u calls t

-- Steps run on the map of what a transaction saw at first, and leave the map of what it sees now, wherever it began on rows that are
-- sound. They are on the map alone.
pub record AreRunOne {S : Type 0} (face : Face S) (s : S) (steps : List Step) (t : S) : Type 0 where
  pub on_map : AreOnMap steps
  pub run : (begun : Rows) → IsSound begun → face.fits t begun → RunsOn (map_of_rows (face.rows s begun)) steps
  pub after : (begun : Rows) → IsSound begun → face.fits t begun → map_of_rows (face.rows t begun) ≡ change_all (ops_of steps) (map_of_rows (face.rows s begun))
  pub lawful : IsLawful face t

-- Where a transaction over sound rows is lawful, the operations that calls in turn answer run on its map.
abbrev pub OperationsAreRunOne : {S : Type 0} → Face S → Type 0
OperationsAreRunOne {S} face = SameLaw face.law sound_law → (s t : S) (calls : List Call) → IsLawful face s → AreCalled face s calls t → AreRunOne face s (answered_steps calls) t

-- where a transaction may be called on, it may be after calls in turn
abbrev pub StaysReady : {S : Type 0} → Face S → Type 0
StaysReady {S} face = (s t : S) (calls : List Call) → IsReady face s → AreCalled face s calls t → IsReady face t

-- calls that are cut off so are a stuttering step, where the refusal doesn't end the transaction
abbrev pub CutOffsStutter : {S : Type 0} → Face S → (RowStop → Type 0) → (List Event → Type 0) → (List Event → Rows → Asked → Type 0) → Type 0
CutOffsStutter {S} face may kind asks = (s t : S) (stop : RowStop) → IsStopped face may kind asks s stop t → ends stop ≡ false → Stutters face s t

-- a call that asked for this is one, where it is refused so
abbrev pub RefusalsStutter : {S : Type 0} → Face S → (RowStop → Type 0) → Asked → Type 0
RefusalsStutter {S} face may asked = (s t : S) (stop : RowStop) → IsRefused face may s asked stop t → ends stop ≡ false → Stutters face s t

-- a call that did this is one
abbrev pub AnswersStutter : {S : Type 0} → Face S → Event → Type 0
AnswersStutter {S} face event = (s t : S) → Does face s event t → Stutters face s t

-- calls that saw this fact are one
abbrev pub LooksStutter : {S : Type 0} → Face S → (Rows → ℕ → Type 0) → (Rows → Type 0) → Type 0
LooksStutter {S} face objects fact = (s t : S) → SawIn face objects s t fact → Stutters face s t
