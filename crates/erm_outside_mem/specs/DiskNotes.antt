-- What a disk in memory keeps.
use Rattle.std.specs.Prelude.{◌≡◌, ◌<◌, ◌≤◌, ◌⊎◌, ℕ, if◌then◌else◌, List, [], ◌∷◌, length, take, Option, None, Some, IfSome, Vec}
use Rattle.std.specs.BTreeMap.{BTreeMap, get, is_at}
use Rattle.std.specs.Map.{lookup}
use Rattle.std.specs.Ordering.{nat_cmp}
use Rattle.std.specs.declared.alloc.Global.{Global}
use Rattle.erm_outside.specs.declared.disk.File.{File}
use Rattle.erm_outside.specs.contracts.disk.FileOrd.TheImpl as file_order
use Rattle.erm_outside.specs.Faults.{next}
use Rattle.erm_outside.specs.Disk.{Change, Step, Image, same_file, patched, contents, Same}
use Rattle.erm_outside.specs.Disk.Change.{Wrote, Tried, Synced, Removed}
use Rattle.erm_outside_mem.specs.declared.notes.Done.{Done}
use Rattle.erm_outside_mem.specs.declared.notes.Work.{Work}
use Rattle.erm_outside_mem.specs.declared.notes.Work.TheVariants as work
use Rattle.erm_outside_mem.specs.Calls.{CallState, no_calls}

-- what was done, the newest first, and how many steps may be noted in all without more memory; how much of a write that is
-- to fail is left, by the number of the call; the calls; how often memory was refused
pub record DiskState : Type 0 where
  pub steps : List Step
  pub room : ℕ
  pub fronts : List (ℕ × ℕ)
  pub calls : CallState
  pub refused : ℕ

-- how much of a write that is to fail is left, if anything was done of it, by the number of the call
abbrev pub front_of : List (ℕ × ℕ) → ℕ → Option ℕ
front_of fronts call = lookup (is_at (nat_cmp call)) fronts

-- files in memory, by their names
abbrev pub Files : Type 0
Files = BTreeMap File (Vec ℕ Global)

-- the bytes of a file that may not be there
abbrev pub file_bytes : Option (Vec ℕ Global) → List ℕ
file_bytes None = []
file_bytes (Some contents) = contents.items

-- the bytes of each file
abbrev pub image_of : Files → Image
image_of files file = file_bytes (get file_order.ghosts.cmp files file)

-- each file that is there has bytes
abbrev pub HaveBytes : Files → Type 0
HaveBytes files = (file : File) → IfSome (get file_order.ghosts.cmp files file) (λ contents. 0 < length contents.items)

-- an image with bytes written to one file
abbrev pub patched_in : File → ℕ → List ℕ → Image → Image
patched_in file at bytes image other = if same_file file other then patched (image other) at bytes else image other

-- a note as a change of its file
abbrev pub change_of : Work → Change
change_of (work.Wrote at bytes) = Wrote at bytes.items
change_of (work.Tried at bytes left) = Tried at bytes.items (take left bytes.items)
change_of work.Synced = Synced
change_of work.Removed = Removed

-- it is that of a removal
abbrev pub IsRemoval : Work → Type 0
IsRemoval work.Removed = Unit {0}
IsRemoval _ = ⊥

-- a note as a step
abbrev pub step_of : Done → Step
step_of done = record { file = done.file; change = change_of done.work }

-- the steps of notes, of which the oldest is the first, behind others
abbrev pub steps_behind : List Done → List Step → List Step
steps_behind [] steps = steps
steps_behind (done ∷ more) steps = steps_behind more (step_of done ∷ steps)

-- the steps of notes, the newest first
abbrev pub steps_of : List Done → List Step
steps_of all = steps_behind all []

-- files in memory are what the notes say that reads give, and none that is there is empty
pub record IsKept (files : Files) (steps : List Step) : Type 0 where
  pub same : Same (image_of files) (contents steps)
  pub have : HaveBytes files

-- a disk to which nothing was done
abbrev pub empty_disk : DiskState
empty_disk = record { steps = []; room = 0; fronts = []; calls = no_calls; refused = 0 }

-- memory was refused, which was counted, and nothing was done
pub record WantsMemory (old new : DiskState) : Type 0 where
  pub nothing : new.steps ≡ old.steps
  pub counted : new.refused ≡ next old.refused

-- memory for a note was refused, which was counted, as there was no room for it
pub record WantsRoom (old new : DiskState) : Type 0 where
  pub counted : new.refused ≡ next old.refused
  pub full : old.room ≤ length new.steps

-- this was done, without a refusal of memory
pub record DidAll (steps : List Step) (old new : DiskState) : Type 0 where
  pub did : new.steps ≡ steps
  pub fine : new.refused ≡ old.refused

-- What is done by a write that is to fail: nothing, or so many bytes of the front are left; or memory is refused for that.
abbrev pub Leaves : Option ℕ → File → ℕ → List ℕ → DiskState → DiskState → Type 0
Leaves None file at bytes old new = DidAll old.steps old new
Leaves (Some front) file at bytes old new =
    DidAll (record { file = file; change = Tried at bytes (take front bytes) } ∷ old.steps) old new ⊎ WantsMemory old new
