-- What is known of a folder.
use Rattle.std.specs.Prelude.{◌≡◌, Bool, true, false, List, Option, IfSome}
use Rattle.erm_outside_real.specs.declared.calls.Call.{Call}
use Rattle.erm_outside_real.specs.Calls.{EntriesLast, IsMissed}
use Rattle.erm_outside_real.specs.declared.folder.Place.{Place}
use Rattle.erm_outside_real.specs.declared.folder.Place.TheVariants.{Unseen, Absent, Lost, Held}

-- the calls that came through, where the system tells them; whether the folder is there and locked; whether a sync failed
pub record FolderState : Type 0 where
  pub calls : Option (List Call)
  pub held : Bool
  pub stuck : Bool

-- the folder is there, and locked
abbrev pub is_held : {F : Type 0} → Place F → Bool
is_held (Held folder) = true
is_held place = false

-- where the folder isn't there, the last call found none
abbrev pub FitsPlace : {F : Type 0} → Place F → List Call → Type 0
FitsPlace Absent calls = IsMissed calls
FitsPlace place calls = Unit {0}

-- what is known agrees with the calls
pub record Knows {F : Type 0} (place : Place F) (changed : Bool) (calls : List Call) : Type 0 where
  pub fits : FitsPlace place calls
  pub clean : changed ≡ false → EntriesLast calls
