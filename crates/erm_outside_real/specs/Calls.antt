-- Calls of the system on a folder, and what of the folder lasts after them.
use Rattle.std.specs.Prelude.{◌≡◌, ◌⊎◌, Bool, true, false, List, [], ◌∷◌, Option, None, Some, Result, Ok, Err}
use Rattle.std.specs.Option.{option_map}
use Rattle.erm_outside.specs.declared.disk.File.{File}
use Rattle.erm_outside.specs.Disk.{same_file}
use Rattle.erm_outside_real.specs.declared.calls.Call.{Call}
use Rattle.erm_outside_real.specs.declared.calls.Call.TheVariants.{FolderMissed, FolderMade, FolderSynced, ParentSynced, Missed, Made, Wrote, Synced, Removed}

-- one call more was done, as far as the system tells
abbrev pub Notes : Call → Option (List Call) → Option (List Call) → Type 0
Notes call old new = new ≡ option_map (λ calls. call ∷ calls) old

-- a call came through; where it failed, it was done or nothing was
abbrev pub Does : {T E : Type 0} → Call → Result T E → Option (List Call) → Option (List Call) → Type 0
Does call (Ok x) old new = Notes call old new
Does call (Err e) old new = (new ≡ old) ⊎ Notes call old new

-- a look notes where nothing is found
abbrev pub Looks : {T E : Type 0} → Call → Result (Option T) E → Option (List Call) → Option (List Call) → Type 0
Looks missed (Ok None) old new = Notes missed old new
Looks missed (Ok (Some x)) old new = new ≡ old
Looks missed (Err e) old new = new ≡ old

-- the bytes of a file change
abbrev pub changes_file : File → Call → Bool
changes_file file (Wrote other) = same_file other file
changes_file file (Removed other) = same_file other file
changes_file file call = false

-- the bytes of a file are waited for, or there are none
abbrev pub syncs_file : File → Call → Bool
syncs_file file (Synced other) = same_file other file
syncs_file file (Missed other) = same_file other file
syncs_file file FolderMissed = true
syncs_file file call = false

-- an entry of the folder is made or removed
abbrev pub changes_entries : Call → Bool
changes_entries (Made file) = true
changes_entries (Removed file) = true
changes_entries FolderMade = true
changes_entries call = false

-- the entries of the folder are waited for, or there are none
abbrev pub syncs_entries : Call → Bool
syncs_entries FolderSynced = true
syncs_entries FolderMissed = true
syncs_entries call = false

-- the entry of the folder itself is made
abbrev pub changes_folder : Call → Bool
changes_folder FolderMade = true
changes_folder call = false

-- the entry of the folder itself is waited for, or there is none
abbrev pub syncs_folder : Call → Bool
syncs_folder ParentSynced = true
syncs_folder FolderMissed = true
syncs_folder call = false

abbrev pub IfLater : Bool → Bool → Type 0 → Type 0
IfLater true changes older = Unit {0}
IfLater false true older = ⊥
IfLater false false older = older

-- Behind the last call that changes something stands one that waits for it. What earlier processes did is unknown, so
-- there is such a call where nothing changes too.
abbrev pub IsSyncedBehind : (Call → Bool) → (Call → Bool) → List Call → Type 0
IsSyncedBehind changes syncs [] = ⊥
IsSyncedBehind changes syncs (call ∷ before) = IfLater (syncs call) (changes call) (IsSyncedBehind changes syncs before)

-- what of a folder lasts: its entries, and its own
pub record EntriesLast (calls : List Call) : Type 0 where
  pub entries : IsSyncedBehind changes_entries syncs_entries calls
  pub folder : IsSyncedBehind changes_folder syncs_folder calls

-- the bytes of a file last
abbrev pub BytesLast : File → List Call → Type 0
BytesLast file calls = IsSyncedBehind (changes_file file) (syncs_file file) calls

-- a file lasts as it is, with its entry and the folder's
pub record Lasts (file : File) (calls : List Call) : Type 0 where
  pub bytes : BytesLast file calls
  pub entry : EntriesLast calls

-- the last call found no folder
abbrev pub IsMissed : List Call → Type 0
IsMissed (FolderMissed ∷ before) = Unit {0}
IsMissed calls = ⊥
