-- Clear: what a look at another seat promises.
use Rattle.std.specs.Prelude.{◌≡◌, length, ℕ, ◌<◌, ◌≤◌, slice_index}
use Rattle.erm_machine.specs.declared.limits.TheConstants.{ANNOUNCERS}
use Rattle.erm_machine.specs.declared.part.Part.{Part}
use Rattle.erm_machine.specs.Core.{Shared}

-- no tail seen, and no bound noted, lies above the tail; there is a note for each seat
pub record OwnClear (s : Shared) (x : Part) : Type 0 where
  pub seen : x.seen ≤ s.tail
  pub bounds : (q : ℕ) → slice_index x.clear q ≤ s.tail
  pub notes : length x.clear ≡ ANNOUNCERS

-- a seat that was found clear for a bound has no unfinished range below it
pub record Clear (x : Part) (q : ℕ) (y : Part) : Type 0 where
  pub above : 0 < y.current.stamp → slice_index x.clear q ≤ y.current.stamp
