-- A disk in a folder, as its callers see it.
use Rattle.std.specs.Prelude.{ℕ, Bool, false, List, Option}
use Rattle.erm_outside_real.specs.declared.calls.Call.{Call}

-- the calls of the system that came through, where it tells them; whether a sync failed; how often a call failed
pub record FolderDiskState : Type 0 where
  pub calls : Option (List Call)
  pub stuck : Bool
  pub faults : ℕ

-- a disk over a system with these calls, of which no call was made
abbrev pub opened : Option (List Call) → FolderDiskState
opened calls = record { calls = calls; stuck = false; faults = 0 }
