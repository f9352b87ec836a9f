-- What a disk holds of a log that goes on, and what each image at each moment recovers to.
use Rattle.std.specs.Prelude.{◌≡◌, ◌+◌, ◌⊎◌, ◌++◌, ℕ, List, []}
use Rattle.erm_model.specs.Rows.{Rows}
use Rattle.erm_model.specs.RowTransaction.{SameRows}
use Rattle.erm_model.specs.declared.limits.TheConstants.{LEAST_BLOCK}
use Rattle.erm_block.specs.declared.block.Block.{Block}
use Rattle.erm_outside.specs.Disk.{Image, Step}
use Rattle.erm_ckpt.specs.declared.slot.Slots.{Slots}
use Rattle.erm_ckpt.specs.Recovered.{Pair, State, base, state_behind}
use Rattle.erm_ckpt.specs.States.{RecoversPast, RecoversTo}
use Rattle.erm_checkpoint.specs.Taken.{HoldsLog, state_at}
use Rattle.erm_recover.specs.Opening.{opened}
use Rattle.erm_world.specs.Log.{Log, place_behind}
use Rattle.erm_world.specs.World.{Finished, IsSession, View}
use Rattle.erm_crash.specs.Moments.{AtMoments, TearsApart}
use Rattle.erm_crash.specs.Stops.{MayStop}

-- At a moment an image recovers to the state behind a front of these blocks, which stand from a state on, to all below a place at least; and what is
-- pending then is what the next opening waits for.
pub record RecoversStopped (sound : Rows → Type 0) (from : State) (blocks : List Block) (place : ℕ) (now : List Step) (image : Image) : Type 0 where
  pub past : RecoversPast sound from blocks place image
  pub stops : MayStop (base past.pair).at (state_behind from past.front).at now

-- at each moment each image does
abbrev pub KeepsBlocks : (Rows → Type 0) → State → List Block → ℕ → List Step → List Step → Type 0
KeepsBlocks sound from blocks place old new = AtMoments (λ now image. TearsApart sound now image → RecoversStopped sound from blocks place now image) old new

-- at each moment of an opening each image recovers to a state, or to the same in the run that is opened, and what is pending is what the next opening
-- waits for
abbrev pub KeepsOpening : (Rows → Type 0) → State → Pair → List Step → List Step → Type 0
KeepsOpening sound state pair old new =
    AtMoments (λ now image. TearsApart sound now image → (RecoversTo sound state pair image ⊎ RecoversTo sound (opened state) pair image) × MayStop (base pair).at state.at now) old new

-- A disk holds a log as far as it is flushed, and at each moment since each image has recovered to a front of what was flushed, from a
-- place on.
pub record KeepsSince (sound : Rows → Type 0) (place : ℕ) (log : Log) (slots : Slots) (old new : List Step) : Type 0 where
  pub holds : HoldsLog sound log slots new
  pub front : List Block
  pub rest : List Block
  pub split : log.gathered ≡ front ++ rest
  pub to : place_behind log.opened.at front ≡ log.flushed
  pub moments : KeepsBlocks sound (state_at log []) front place old new

-- calls of sessions leave what a flusher and a pin say of the log, and the sessions go on
pub record LeavesLog (v t : View) : Type 0 where
  pub opening : t.opening ≡ v.opening
  pub flushed : t.flushed ≡ v.flushed
  pub pinned : t.pinned ≡ v.pinned
  pub over : (seat : ℕ) → IsSession v seat → (more : List Finished) × ((t.session seat).over ≡ (v.session seat).over ++ more)

-- A log was just opened behind the block that opens it: it goes on from the state recovered, as the next run, and nothing is gathered.
pub record IsJustOpened (state : State) (log : Log) : Type 0 where
  pub at : log.opened.at ≡ state.at + LEAST_BLOCK
  pub run : log.opened.run ≡ state.run + 1
  pub rows : SameRows log.opened.rows state.rows
  pub flushed : log.flushed ≡ log.opened.at
  pub none : log.gathered ≡ []
