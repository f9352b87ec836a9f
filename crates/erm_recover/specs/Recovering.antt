-- What is recovered of a disk.
use Rattle.std.specs.Prelude.{◌≡◌, ◌≢◌, ℕ, ◌<◌, ◌≤◌, ◌⊎◌, Bool, true, false, List, [], Option, None, Some, IfSome, Result, IfOk}
use Rattle.std.specs.Option.{option_map}
use Rattle.erm_model.specs.Rows.{Rows, rows_of}
use Rattle.erm_model.specs.RowTransaction.{SameRows}
use Rattle.erm_block.specs.declared.block.Block.{Block}
use Rattle.erm_outside.specs.declared.disk.File.{File}
use Rattle.erm_outside.specs.declared.disk.File.TheVariants.{Slot0, Slot1, Segment}
use Rattle.erm_outside.specs.Disk.{Image, Step, contents}
use Rattle.erm_model.specs.declared.history.Commit.{Commit}
use Rattle.erm_ckpt.specs.declared.slot.Slot.{Slot}
use Rattle.erm_ckpt.specs.declared.slot.Slots.{Slots}
use Rattle.erm_ckpt.specs.declared.slot.TheConstants.{LOG_START}
use Rattle.erm_ckpt.specs.Checkpoint.{Checkpoint, IsSlot, rows_of_checkpoint, zero_rows}
use Rattle.erm_ckpt.specs.Recovered.{HasBase, HasNoBase, Pair, Recovers, Shows, State, base, slots_of, state_behind}
use Rattle.erm_ckpt.specs.States.{SameState}
use Rattle.erm_recover.specs.declared.recovered.Recovered.{Recovered}
use Rattle.erm_recover.specs.declared.recovery.Found.{Found}
use Rattle.erm_recover.specs.declared.tail.Tail.{Tail}
use Rattle.erm_recover.specs.Lists.{commits_of, state_with}

-- the state that was recovered
abbrev pub state_recovered : Recovered → State
state_recovered recovered = record { at = recovered.stamp; run = recovered.run; rows = rows_of recovered.rows.items }

-- This is what recovery finds on a disk as it reads, from these checkpoints: what the slots say, the place where it begins, the
-- state at the end of the log list, and the commits on the way.
pub record RecoversAs (sound : Rows → Type 0) (steps : List Step) (said : Slots) (from : ℕ) (end : State) (met : List Commit) (pair : Pair) : Type 0 where
  pub slots : said ≡ slots_of pair
  pub blocks : List Block
  pub recovers : Recovers sound (contents steps) pair blocks
  pub state : SameState (state_behind (base pair) blocks) end
  pub base_is : from ≡ (base pair).at
  pub commits : met ≡ commits_of blocks

-- this was recovered of a disk as it reads, from these checkpoints
abbrev pub IsRecovered : (Rows → Type 0) → List Step → Recovered → Pair → Type 0
IsRecovered sound steps recovered pair = RecoversAs sound steps recovered.slots recovered.base (state_recovered recovered) recovered.commits.items pair

-- a slot's file shows a checkpoint that checks, or none; this is what its slot says, and an array has its rows
pub record ShowsAs (sound : Rows → Type 0) (file : List ℕ) (found : Option Slot) (rows : List (List ℕ)) : Type 0 where
  pub checkpoint : Option Checkpoint
  pub shows : Shows sound file checkpoint
  pub slot : found ≡ option_map (λ c. c.slot) checkpoint
  pub rows_are : IfSome checkpoint (λ c. SameRows (rows_of rows) (rows_of_checkpoint c))

-- the same, as far as the disk tells
abbrev pub SlotTold : (Rows → Type 0) → Option (List Step) → File → Option Slot → List (List ℕ) → Type 0
SlotTold sound told file found rows = IfSome told (λ steps. ShowsAs sound (contents steps file) found rows)

-- the same of what a call answered
abbrev pub SlotRead : {E : Type 0} → (Rows → Type 0) → Result (Option Slot) E → Option (List Step) → File → List (List ℕ) → Type 0
SlotRead sound result told file rows = IfOk result (λ found. SlotTold sound told file found rows)

-- with no slot that checks the log isn't whole: a slot's file has bytes, and the first segment has none
abbrev pub LacksBase : Image → Type 0
LacksBase image = ((image Slot0 ≢ []) ⊎ (image Slot1 ≢ [])) × (image (Segment 0) ≡ [])

-- whether with no slot that checks the log is whole
abbrev pub TellsBase : Bool → Image → Type 0
TellsBase true image = HasBase image
TellsBase false image = LacksBase image

-- the same, as far as the disk tells
abbrev pub BaseTold : Option (List Step) → Bool → Type 0
BaseTold told is = IfSome told (λ steps. TellsBase is (contents steps))

-- where a slot says that the log goes on
abbrev pub tail_of : Slot → Tail
tail_of slot = record { at = slot.stamp; run = slot.run }

-- recovery begins at this place with these rows: those of the first array for the first slot, of the other for the second
abbrev pub Begins : Option Slot → Option Slot → List (List ℕ) → List (List ℕ) → Tail → List (List ℕ) → Type 0
Begins None None first other tail rows = (tail ≡ record { at = LOG_START; run = 0 }) × SameRows (rows_of rows) zero_rows
Begins None (Some b) first other tail rows = (tail ≡ tail_of b) × (rows ≡ other)
Begins (Some a) None first other tail rows = (tail ≡ tail_of a) × (rows ≡ first)
Begins (Some a) (Some b) first other tail rows =
    (a.stamp < b.stamp → (tail ≡ tail_of b) × (rows ≡ other)) × (b.stamp ≤ a.stamp → (tail ≡ tail_of a) × (rows ≡ first))

-- this was recovered of a disk as it reads
abbrev pub RecoveredTold : (Rows → Type 0) → Option (List Step) → Recovered → Type 0
RecoveredTold sound told recovered = IfSome told (λ steps. (pair : Pair) × IsRecovered sound steps recovered pair)

-- nothing can be recovered of a disk as it reads
abbrev pub NoBaseTold : (Rows → Type 0) → Option (List Step) → Type 0
NoBaseTold sound told = IfSome told (λ steps. HasNoBase sound (contents steps))

-- What the slots' files show: this is what the slots say, two arrays have their rows, and where no slot says anything the log is
-- whole.
pub record ShowBoth (sound : Rows → Type 0) (image : Image) (slots : Slots) (first other : List (List ℕ)) : Type 0 where
  pub slot0 : ShowsAs sound (image Slot0) slots.slot0 first
  pub slot1 : ShowsAs sound (image Slot1) slots.slot1 other
  pub based : slots.slot0 ≡ None → slots.slot1 ≡ None → HasBase image

-- what slots say is what they may, and the rows of each, in two arrays, are sound
pub record AreSlots (sound : Rows → Type 0) (slots : Slots) (first other : List (List ℕ)) : Type 0 where
  pub slot0 : IfSome slots.slot0 IsSlot
  pub slot1 : IfSome slots.slot1 IsSlot
  pub rows0 : IfSome slots.slot0 (λ _. sound (rows_of first))
  pub rows1 : IfSome slots.slot1 (λ _. sound (rows_of other))

-- the same, as far as the disk tells
abbrev pub SlotsTold : (Rows → Type 0) → Option (List Step) → Slots → List (List ℕ) → List (List ℕ) → Type 0
SlotsTold sound told slots first other = IfSome told (λ steps. ShowBoth sound (contents steps) slots first other)

-- the same of what a call answered
abbrev pub SlotsRead : {E : Type 0} → (Rows → Type 0) → Result Slots E → Option (List Step) → List (List ℕ) → List (List ℕ) → Type 0
SlotsRead sound result told first other = IfOk result (λ slots. SlotsTold sound told slots first other)

abbrev pub SlotsSound : {E : Type 0} → (Rows → Type 0) → Result Slots E → List (List ℕ) → List (List ℕ) → Type 0
SlotsSound sound result first other = IfOk result (λ slots. AreSlots sound slots first other)

-- The same of what recovery found, as far as the disk tells: what the slots say, where it began, and where it ended, with the rows
-- and commits there.
abbrev pub FoundTold : (Rows → Type 0) → Option (List Step) → Found → List (List ℕ) → List Commit → Type 0
FoundTold sound told found rows commits =
    IfSome told (λ steps. (pair : Pair) × RecoversAs sound steps found.slots found.start.at (state_with found.end rows) commits pair)

-- the same of what a call answered
abbrev pub FoundRead : {E : Type 0} → (Rows → Type 0) → Result Found E → Option (List Step) → List (List ℕ) → List Commit → Type 0
FoundRead sound result told rows commits = IfOk result (λ found. FoundTold sound told found rows commits)

-- where no slot says anything the log is whole, as far as the disk tells
abbrev pub BaseChecked : Slots → Option (List Step) → Type 0
BaseChecked slots told = IfSome told (λ steps. slots.slot0 ≡ None → slots.slot1 ≡ None → HasBase (contents steps))

-- no slot says anything, and the log isn't whole
abbrev pub BaseLacks : Slots → Option (List Step) → Type 0
BaseLacks slots told = (slots.slot0 ≡ None) × (slots.slot1 ≡ None) × IfSome told (λ steps. LacksBase (contents steps))
