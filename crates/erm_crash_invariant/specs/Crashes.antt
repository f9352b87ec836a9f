-- What an invariant that each commit keeps gives of a disk that holds the log of a run: of what a crash leaves.
use Rattle.std.specs.Prelude.{ℕ, List, []}
use Rattle.erm_model.specs.Database.{Database}
use Rattle.erm_ckpt.specs.Recovered.{Pair, State}
use Rattle.erm_ckpt.specs.States.{RecoversTo}
use Rattle.erm_checkpoint.specs.Taken.{state_at}
use Rattle.erm_crash.specs.Kept.{KeepsBlocks}
use Rattle.erm_crash.specs.Moments.{AtMoments, TearsApart}
use Rattle.erm_node.specs.Sound.{sound_law}
use Rattle.erm_node.specs.TreeMap.{map_of_rows}
use Rattle.erm_outside.specs.Disk.{Image, Step}
use Rattle.erm_report.specs.declared.answer.Answer.{Answer}
use Rattle.erm_script.specs.declared.script.ScriptLine.{ScriptLine}
use Rattle.erm_world.specs.Log.{IsLog, Log}
use Rattle.erm_world.specs.Whole.{IsLogOf}
use Rattle.erm_world.specs.World.{View}
use Rattle.erm_good_report.specs.GoodReport.{places_of}
use Rattle.erm_good_report.specs.Opening.{Opening}
use Rattle.erm_good_report.specs.Phases.{Closed}
use Rattle.erm_good_report.specs.Transactions.{history_of, transactions_of}
use Rattle.erm_invariant.specs.Commits.{AllKeep}
use Rattle.erm_lines.specs.Executions.{AreClosed, IsCourse, IsOpeningOf}

-- an image recovers to a map with the invariant
pub record RecoversWith (Invariant : Database → Type 0) (image : Image) : Type 0 where
  pub found : State
  pub pair : Pair
  pub there : RecoversTo sound_law.meets found pair image
  pub holds : Invariant (map_of_rows found.rows)

-- so does each image at each moment that shows each block and each slot whole, or none
abbrev pub KeepsInvariant : (Database → Type 0) → List Step → List Step → Type 0
KeepsInvariant Invariant old new = AtMoments (λ now image. TearsApart sound_law.meets now image → RecoversWith Invariant image) old new

-- Where the map that a run starts from has an invariant, and each commit that it tells keeps it: while each image at each moment recovers to
-- the state behind a front of the blocks of its log, each recovers to a map that has the invariant.
abbrev pub CrashesKeep : (Database → Type 0) → Type 0
CrashesKeep Invariant = (v t : View) (script : List ScriptLine) (answers : List Answer) (course : IsCourse v script answers t) (closed : List Closed) (opening : Opening)
    → AreClosed course.closing closed → IsOpeningOf v opening → (log : Log) → IsLogOf t log → IsLog sound_law.meets log
    → Invariant opening.map → AllKeep Invariant (history_of (transactions_of v.opening.sessions (places_of script answers closed)))
    → (place : ℕ) (old new : List Step) → KeepsBlocks sound_law.meets (state_at log []) log.gathered place old new → KeepsInvariant Invariant old new
