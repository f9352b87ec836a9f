-- The places that a report acknowledges: all below them has come to the disk, to last.
use Rattle.std.specs.Prelude.{◌≡◌, ◌≢◌, ℕ, ◌≤◌, ◌++◌, List, [], Option, Some, None, Result, Ok, Err}
use Rattle.erm_model.specs.Member.{◌∈◌}
use Rattle.erm_model.specs.Rows.{Rows}
use Rattle.erm_block.specs.declared.block.Block.{Block}
use Rattle.erm_outside.specs.Disk.{IsSettled, Step, Tells, contents}
use Rattle.erm_report.specs.declared.answer.Answer.{Answer}
use Rattle.erm_report.specs.declared.answer.Answer.TheVariants as answer
use Rattle.erm_good_report.specs.Stamps.{place_told}
use Rattle.erm_report.specs.declared.line.Line.{Line}
use Rattle.erm_report.specs.declared.line.Line.TheVariants as line
use Rattle.erm_ckpt.specs.declared.slot.Slots.{Slots}
use Rattle.erm_ckpt.specs.Recovered.{Pair, State, base, best, slots_of}
use Rattle.erm_ckpt.specs.States.{RecoversTo}
use Rattle.erm_checkpoint.specs.Taken.{state_at}
use Rattle.erm_crash.specs.Kept.{KeepsBlocks}
use Rattle.erm_crash.specs.Moments.{IsMoment}
use Rattle.erm_log_run.specs.declared.stops.LineStop.{LineStop}
use Rattle.erm_log_run.specs.declared.stops.LineStop.TheVariants.{DiskFault, Memory}
use Rattle.erm_log_run.specs.Keeping.{IsKept, Keeper}
use Rattle.erm_log_run.specs.Saving.{TookPlace}

-- one of these lines tells an answer that acknowledges a place
pub record IsAcknowledged (lines : List Line) (place : ℕ) : Type 0 where
  pub number : ℕ
  pub answer : Answer
  pub told : line.Answer number answer ∈ lines
  pub tells : place_told answer ≡ Some place

-- a flush and a checkpoint tell the very place to which a disk recovers, a commit that is durable one at or below it
abbrev pub EndsAt : Answer → ℕ → ℕ → Type 0
EndsAt (answer.Durable stamp) place end = place ≤ end
EndsAt a place end = end ≡ place

-- the checkpoint that an answer tells is there: it is the best one, of the place, in the place of the one that wasn't the best before
abbrev pub IsSavedAt : (Rows → Type 0) → Answer → Pair → List Step → List Step → Type 0
IsSavedAt sound (answer.Checkpointed place) pair first steps = (best pair ≢ None) × ((base pair).at ≡ place) × ((before : Slots) × TookPlace sound place before (slots_of pair) first steps)
IsSavedAt sound a pair first steps = Unit {0}

-- nothing is pending on a disk, and it recovers to the place that an answer tells, from the checkpoint that it tells, if it tells one, which was taken
-- since the first steps
pub record HoldsTold (sound : Rows → Type 0) (a : Answer) (place : ℕ) (first steps : List Step) : Type 0 where
  pub settled : IsSettled steps
  pub found : State
  pub pair : Pair
  pub there : RecoversTo sound found pair (contents steps)
  pub ends : EndsAt a place found.at
  pub saved : IsSavedAt sound a pair first steps

-- From a moment on at which the disk recovers to the place that an answer tells, up to the last one, each image recovers to a front of these
-- blocks, to all below the place at least.
pub record LastsFrom (sound : Rows → Type 0) (from : State) (blocks : List Block) (a : Answer) (place : ℕ) (old new : List Step) : Type 0 where
  pub mid : List Step
  pub moment : IsMoment old new mid
  pub holds : HoldsTold sound a place old mid
  pub keeps : KeepsBlocks sound from blocks place mid new

-- so it is of each place that these lines acknowledge
abbrev pub AllLast : (Rows → Type 0) → State → List Block → List Line → List Step → List Step → Type 0
AllLast sound from blocks lines old new = (place : ℕ) (is : IsAcknowledged lines place) → LastsFrom sound from blocks is.answer place old new

-- one of these answers tells a place
pub record IsTold (answers : List Answer) (place : ℕ) : Type 0 where
  pub answer : Answer
  pub given : answer ∈ answers
  pub tells : place_told answer ≡ Some place

-- steps go on from others
abbrev pub GoesOnFrom : List Step → List Step → Type 0
GoesOnFrom old new = (more : List Step) × (new ≡ more ++ old)

-- A log is flushed up to the place that an answer tells at least, and was kept from there on since some moment at which the disk recovered to it,
-- at or after that at which the disk told this.
pub record IsKeptTo (sound : Rows → Type 0) (first : Option (List Step)) (k : Keeper) (a : Answer) (place : ℕ) : Type 0 where
  pub start : Option (List Step)
  pub later : Tells GoesOnFrom first start
  pub holds : Tells (HoldsTold sound a place) first start
  pub low : place ≤ k.log.flushed
  pub kept : IsKept sound start place k

-- The log is kept so to each place that the answers tell. Where the disk failed, each image recovers to all below it from some moment on.
abbrev pub KeepsTold : {T : Type 0} → (Rows → Type 0) → Result T LineStop → List Answer → Option (List Step) → Keeper → Type 0
KeepsTold sound (Ok x) answers first k = (place : ℕ) (is : IsTold answers place) → IsKeptTo sound first k is.answer place
KeepsTold sound (Err DiskFault) answers first k = (place : ℕ) (is : IsTold answers place)
    → Tells (LastsFrom sound (state_at k.log []) k.log.gathered is.answer place) first k.told
KeepsTold sound (Err Memory) answers first k = Unit {0}
