-- How often a file is still to be synced.
use Rattle.std.specs.Prelude.{ℕ, ◌+◌, ◌-◌, List, [], ◌∷◌, Bool, true, false}
use Rattle.erm_outside.specs.declared.disk.File.{File}
use Rattle.erm_outside.specs.Disk.{same_file}
use Rattle.erm_outside_mem.specs.declared.notes.Done.{Done}
use Rattle.erm_outside_mem.specs.declared.notes.Work.{Work}
use Rattle.erm_outside_mem.specs.declared.notes.Work.TheVariants as work

-- whether a note is that of a sync
abbrev pub is_sync : Work → Bool
is_sync (work.Wrote at bytes) = false
is_sync (work.Tried at bytes left) = false
is_sync work.Synced = true
is_sync work.Removed = false

-- one more for a file that is synced
abbrev pub with_sync : Bool → Bool → ℕ → ℕ
with_sync true true n = n + 1
with_sync _ _ n = n

-- one less for a file that is synced
abbrev pub less_sync : Bool → Bool → ℕ → ℕ
less_sync true true n = n - 1
less_sync _ _ n = n

-- how often these notes sync a file
abbrev pub syncs_in : File → List Done → ℕ
syncs_in file [] = 0
syncs_in file (done ∷ more) = with_sync (same_file done.file file) (is_sync done.work) (syncs_in file more)
