-- The second half of a claim: the chain of its object is cut, it gets a cell of its own, and the row is copied into that.
use Rattle.std.specs.Prelude.{◌≡◌, ◌≢◌, ℕ, ◌-◌, Bool, true, false, length, take, Option, Some, None}
use Rattle.erm_machine.specs.declared.event.Counter.TheVariants.{Cells}
use Rattle.erm_machine.specs.declared.event.Kind.{Kind}
use Rattle.erm_machine.specs.declared.event.Kind.TheVariants as kind
use Rattle.erm_machine.specs.declared.event.TailUse.TheVariants as purpose
use Rattle.erm_machine.specs.declared.part.Part.{Part}
use Rattle.erm_machine.specs.declared.task.Task.{Task}
use Rattle.erm_machine.specs.declared.task.Task.TheVariants as task
use Rattle.erm_machine.specs.declared.version.CellWord.TheVariants as word
use Rattle.erm_machine.specs.Core.{Core}
use Rattle.erm_core_calls.specs.Going.{newest_of, next_copy, next_draw}
use Rattle.erm_core_view.specs.Views.{view_of}
use Rattle.erm_world.specs.Calls.{Works}
use Rattle.erm_world.specs.World.{work_at}

-- the next step of that half, if it isn't done; a claim that is refused a cell has none
abbrev pub finish_step : Part → Task → Option Kind
finish_step x (task.Claimed version) = Some (kind.LoadTail purpose.Horizon)
finish_step x (task.Horizon version least next) = Some (kind.LoadBegin next)
finish_step x (task.CutWalks version horizon) = Some (kind.LoadCell version word.Stamp)
finish_step x (task.CutPassed version horizon) = Some (kind.LoadCell version word.Link)
finish_step x (task.CutFound version horizon) = Some (kind.SwapLink version)
finish_step x (task.Detaches version) = Some (kind.LoadDetached version)
finish_step x task.Draws = Some (next_draw x)
finish_step x task.Pool = Some (kind.AddCounter Cells)
finish_step x task.Fetched = Some (kind.LoadStamp (newest_of x.current) word.ReaderStamp)
finish_step x (task.Copies k) = Some (next_copy x.current k)
finish_step x t = None

-- in that half, or done with it, with a cell or without one
abbrev pub is_finishing : Task → Bool
is_finishing (task.Claimed version) = true
is_finishing (task.Horizon version least next) = true
is_finishing (task.CutWalks version horizon) = true
is_finishing (task.CutPassed version horizon) = true
is_finishing (task.CutFound version horizon) = true
is_finishing (task.Detaches version) = true
is_finishing task.Draws = true
is_finishing task.Pool = true
is_finishing task.Fetched = true
is_finishing (task.Copies k) = true
is_finishing task.Refused = true
is_finishing task.Rest = true
is_finishing t = false

-- the newest claim is dropped
pub record IsDropped (sessions seat : ℕ) (c d : Core) : Type 0 where
  pub others : (q : ℕ) → q ≢ seat → d.seats q ≡ c.seats q
  pub shows : Works (view_of sessions c) seat
      (record (work_at (view_of sessions c) seat) { claims = take (length (work_at (view_of sessions c) seat).claims - 1) (work_at (view_of sessions c) seat).claims })
      (view_of sessions d)
