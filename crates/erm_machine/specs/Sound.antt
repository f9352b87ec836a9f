-- The sound state, by what a fact speaks of: what is shared, one seat, or two.
use Rattle.std.specs.Prelude.{ℕ, ◌≢◌}
use Rattle.erm_machine.specs.declared.part.Part.{Part}
use Rattle.erm_machine.specs.Attached.{OwnAttached}
use Rattle.erm_machine.specs.Back.{OwnBack, OwnRaised, Back}
use Rattle.erm_machine.specs.Begins.{OwnBegins, Begins}
use Rattle.erm_machine.specs.Bounds.{OwnBounds}
use Rattle.erm_machine.specs.Cells.{Cells, OwnCells}
use Rattle.erm_machine.specs.Chains.{Chains, OwnChains}
use Rattle.erm_machine.specs.Claims.{Claims, OwnClaims}
use Rattle.erm_machine.specs.Clear.{OwnClear, Clear}
use Rattle.erm_machine.specs.Core.{Core, Shared}
use Rattle.erm_machine.specs.Decided.{Decided, OwnDecided, DecidedApart}
use Rattle.erm_machine.specs.Lives.{OwnLives}
use Rattle.erm_machine.specs.Log.{Log, OwnLog}
use Rattle.erm_machine.specs.Marks.{Marks, OwnMarks}
use Rattle.erm_machine.specs.Numbers.{Counters, OwnMade, MadeApart}
use Rattle.erm_machine.specs.Ranges.{Ranges, OwnRanges}
use Rattle.erm_machine.specs.Readers.{Readers, OwnReaders}
use Rattle.erm_machine.specs.Snapshot.{OwnSnapshot, Snapshot}
use Rattle.erm_machine.specs.Tasks.{OwnTask}
use Rattle.erm_machine.specs.Written.{Rowed, OwnWritten}

-- facts of what is shared, and sums over the seats
pub record Common (s : Shared) (seats : ℕ → Part) : Type 0 where
  pub ranges : Ranges s seats
  pub counters : Counters s seats
  pub cells : Cells s seats
  pub chains : Chains s
  pub claims : Claims s
  pub marks : Marks s seats
  pub readers : Readers s seats
  pub decided : Decided s seats
  pub rowed : Rowed s
  pub log : Log s seats

-- facts of one seat
pub record Own (s : Shared) (seat : ℕ) (x : Part) : Type 0 where
  pub ranges : OwnRanges s seat x
  pub clear : OwnClear s x
  pub begins : OwnBegins s seat x
  pub task : OwnTask x
  pub bounds : OwnBounds seat x
  pub lives : OwnLives s seat x
  pub made : OwnMade s seat x
  pub cells : OwnCells x
  pub chains : OwnChains s x
  pub attached : OwnAttached s x
  pub claims : OwnClaims s seat x
  pub snapshot : OwnSnapshot s x
  pub marks : OwnMarks s x
  pub readers : OwnReaders s seat x
  pub decided : OwnDecided s x
  pub written : OwnWritten s x
  pub log : OwnLog s seat x
  pub back : OwnBack seat x
  pub raised : OwnRaised x

-- facts of a seat and of another one, of that number
pub record Both (x : Part) (q : ℕ) (y : Part) : Type 0 where
  pub clear : Clear x q y
  pub begins : Begins x q y
  pub made : MadeApart x y
  pub snapshot : Snapshot x q y
  pub decided : DecidedApart x q y
  pub back : Back x q y

-- The sound state, whatever law its rows keep.
pub record Sound (c : Core) : Type 0 where
  pub common : Common c.shared c.seats
  pub own : (p : ℕ) → Own c.shared p (c.seats p)
  pub both : (p q : ℕ) → p ≢ q → Both (c.seats p) q (c.seats q)
