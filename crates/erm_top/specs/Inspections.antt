-- How the commands end that tell what is on a disk, and the one that takes a checkpoint of it.
use Rattle.std.specs.Prelude.{◌≡◌, ◌≢◌, ℕ, ◌⊎◌, List, IfSome}
use Rattle.erm_ckpt.specs.Recovered.{State}
use Rattle.erm_node.specs.Sound.{sound_law}
use Rattle.erm_outside.specs.Disk.{Step}
use Rattle.erm_outside.specs.Faults.{Rose}
use Rattle.erm_recover.specs.Recovering.{NoBaseTold}
use Rattle.erm_report.specs.Texts.{text_of}
use Rattle.erm_report.specs.declared.line.Line.{Line}
use Rattle.erm_report.specs.declared.line.Line.TheVariants as line
use Rattle.erm_disk_run.specs.declared.stops.DiskStop.TheVariants as disk
use Rattle.erm_disk_run.specs.Found.{IsFound}
use Rattle.erm_disk_run.specs.Saved.{WasCheckpointed}
use Rattle.erm_disk_run.specs.Stops.{KeepsMap, StopsFor}
use Rattle.erm_top.specs.Around.{Around, LeavesSource, PrintsLine, PutsCut, PutsWhole}
use Rattle.erm_top.specs.Runs.{HasRoom, IsAtEnd, NothingFailed, TellsState}

-- lines tell what a disk holds as it reads, and are of a form, whatever it tells
pub record TellsDisk (Tells : List Step → List Line → Type 0) (HasForm : List Line → Type 0) (a : Around) (text : List ℕ) : Type 0 where
  pub lines : List Line
  pub tells : IfSome a.told_before (λ steps. Tells steps lines)
  pub form : HasForm lines
  pub text_is : text ≡ text_of lines

-- What each status means of a command that tells what is on a disk. It reads no source, and leaves the disk as it was.
pub record InspectionEnds (Tells : List Step → List Line → Type 0) (HasForm : List Line → Type 0) (status : ℕ) (a : Around) : Type 0 where
  pub known : (status ≡ 0) ⊎ (status ≡ 5) ⊎ (status ≡ 6) ⊎ (status ≡ 7) ⊎ (status ≡ 8)
  pub success : status ≡ 0 → (text : List ℕ) × TellsDisk Tells HasForm a text × PutsWhole text a
  pub sink_fault : status ≡ 5 → (text : List ℕ) × TellsDisk Tells HasForm a text × PutsCut text a
  pub disk_fault : status ≡ 6 → Rose a.disk_before a.disk_after × PrintsLine line.DiskFault a
  pub no_base : status ≡ 7 → NoBaseTold sound_law.meets a.told_before × PrintsLine line.NoBase a
  pub no_memory : status ≡ 8 → PrintsLine line.NoMemory a
  pub source : LeavesSource a
  pub still : a.told_after ≡ a.told_before
  pub disk_sound : status ≢ 6 → a.disk_after ≡ a.disk_before
  -- The disk is told of where nothing fails, unless memory runs out or it does not recover.
  pub complete : NothingFailed a → (status ≡ 0) ⊎ (status ≡ 7) ⊎ (status ≡ 8)
  pub recovers : (state : State) → TellsState state a → status ≢ 7

-- lines tell a checkpoint that was taken of a disk
pub record TellsCheckpoint (a : Around) (text : List ℕ) : Type 0 where
  pub state : State
  pub found : IsFound a.told_before state
  pub lines : List Line
  pub was : WasCheckpointed a.told_before a.told_after state lines
  pub text_is : text ≡ text_of lines

-- what each status of `checkpoint` means
pub record CheckpointEnds (status : ℕ) (a : Around) : Type 0 where
  pub known : (status ≡ 0) ⊎ (status ≡ 5) ⊎ (status ≡ 6) ⊎ (status ≡ 7) ⊎ (status ≡ 8) ⊎ (status ≡ 10)
  pub success : status ≡ 0 → (text : List ℕ) × TellsCheckpoint a text × PutsWhole text a
  pub sink_fault : status ≡ 5 → (text : List ℕ) × TellsCheckpoint a text × PutsCut text a
  pub disk_fault : status ≡ 6 → Rose a.disk_before a.disk_after × PrintsLine line.DiskFault a × StopsFor disk.DiskFault a.told_before a.told_after
  pub no_base : status ≡ 7 → PrintsLine line.NoBase a × StopsFor disk.NoBase a.told_before a.told_after
  -- Whether or not the checkpoint was taken before memory ran out, each image at each moment recovers to the map found.
  pub no_memory : status ≡ 8 → PrintsLine line.NoMemory a × KeepsMap a.told_before a.told_after
  pub at_end : status ≡ 10 → IsAtEnd a
  pub source : LeavesSource a
  pub disk_sound : status ≢ 6 → a.disk_after ≡ a.disk_before
  -- It is taken where nothing fails, unless memory runs out or the disk has no room.
  pub complete : NothingFailed a → (status ≡ 0) ⊎ (status ≡ 7) ⊎ (status ≡ 8) ⊎ (status ≡ 10)
  pub room : HasRoom a → (status ≢ 7) × (status ≢ 10)
