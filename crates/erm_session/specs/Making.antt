-- What making an object and looking at the place flushed leave of a pass's view.
use Rattle.std.specs.Prelude.{◌≡◌, ◌≢◌, ℕ, ◌≤◌, [], ◌∷◌, ◌++◌}
use Rattle.erm_machine.specs.declared.limits.TheConstants.{OBJECT_LIMIT}
use Rattle.erm_machine.specs.declared.part.Part.{Part}
use Rattle.erm_machine.specs.declared.task.Task.{Task}
use Rattle.erm_machine.specs.declared.task.Task.TheVariants as task
use Rattle.erm_machine.specs.Core.{Core}
use Rattle.erm_machine.specs.Numbers.{made_of}
use Rattle.erm_machine.specs.Seat.{with_task}
use Rattle.erm_machine.specs.Settling.{load_flushed_to_settle}
use Rattle.erm_machine.specs.Sound.{Sound}
use Rattle.erm_model.specs.declared.row_stop.RowStop.{RowStop}
use Rattle.erm_model.specs.declared.row_stop.RowStop.TheVariants as stop
use Rattle.erm_model.specs.Member.{◌∈◌}
use Rattle.erm_rule.specs.declared.view.Book.{Book}
use Rattle.erm_rule.specs.declared.view.View.{View}
use Rattle.erm_rule.specs.Books.{IsBookOf}
use Rattle.erm_rule.specs.Hands.{IsKnown}
use Rattle.erm_rule.specs.Views.{IsView, part_of, with_part}

-- the part of a seat that has made one object more
abbrev pub made_part : ℕ → Part → Part
made_part oid x = record x { task = task.Rest; current = record x.current { made = x.current.made ++ oid ∷ [] } }

-- FRESH. An object was made, from the opening's first number on, which the seat hadn't made before and no other seat has made.
pub record MakesObject (v : View) (who oid : ℕ) (w : View) : Type 0 where
  pub view_is : w ≡ with_part who (made_part oid (part_of v who)) v
  pub known : IsKnown w
  pub above : known.core.shared.first ≤ oid
  pub new : oid ∈ made_of (part_of v who) → ⊥
  pub alone : (q : ℕ) → q ≢ who → oid ∈ made_of (known.core.seats q) → ⊥

-- There was none: in some sound state with the view's parts, but for the seat's task, so many objects were drawn, all that there may be.
pub record HasNoObject (v : View) (who drawn : ℕ) (w : View) : Type 0 where
  pub view_is : w ≡ with_part who (with_task task.Rest (part_of v who)) v
  pub known : IsKnown w
  pub counting : Task
  pub state : Core
  pub sound : Sound state
  pub is_view : IsView (with_part who (with_task counting (part_of v who)) v) state
  pub counted : state.shared.objects_drawn ≡ drawn
  pub all_drawn : OBJECT_LIMIT ≤ drawn

abbrev pub RefusesObject : View → ℕ → RowStop → View → Type 0
RefusesObject v who (stop.OidsFull drawn) w = HasNoObject v who drawn w
RefusesObject v who why w = ⊥

-- DURABLE. The place flushed is this one, or lies behind it, in whatever state the book is one of.
abbrev pub IsFlushedTo : ℕ → Book → Type 0
IsFlushedTo place e = (c : Core) → IsBookOf e c → place ≤ c.shared.flushed

-- The place flushed was loaded. Nothing is changed of a seat that isn't sealed; a sealed one may have begun a settle, or begun it anew.
pub record LooksAtFlushed (v : View) (who : ℕ) (w : View) : Type 0 where
  pub found : ℕ
  pub view_is : w ≡ with_part who (load_flushed_to_settle found (part_of v who)) v
