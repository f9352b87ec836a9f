-- A session's list of spare cells: what the draw of a cell and the load of the reader stamp leave.
use Rattle.std.specs.Prelude.{◌≡◌, ℕ, ◌<◌, ◌≤◌, true, ◌==◌, if◌then◌else◌, List, [], ◌∷◌, ◌++◌, length, map}
use Rattle.erm_model.specs.declared.limits.TheConstants.{TABLE_CELLS}
use Rattle.erm_machine.specs.declared.attempt.OwnCell.{OwnCell}
use Rattle.erm_machine.specs.declared.part.Part.{Part}
use Rattle.erm_machine.specs.declared.task.Task.{Task}
use Rattle.erm_machine.specs.declared.task.Task.TheVariants as task
use Rattle.erm_machine.specs.Core.{Core, claim_at}
use Rattle.erm_machine.specs.Reading.{rated_claim, with_spare, with_cell}
use Rattle.erm_machine.specs.Seat.{with_task, last_claim, is_own}
use Rattle.erm_machine.specs.Sound.{Sound}
use Rattle.erm_machine.specs.Words.{blank_cell}
use Rattle.erm_rule.specs.declared.view.View.{View}
use Rattle.erm_rule.specs.Hands.{IsKnown}
use Rattle.erm_rule.specs.Views.{IsView, part_of, with_part}

-- the numbers of a seat's spare cells, in order
abbrev pub spare_cells : Part → List ℕ
spare_cells x = map (λ (own : OwnCell). own.cell) x.spare

-- these are the seat's spare cells
abbrev pub SpareIs : List ℕ → Part → Type 0
SpareIs cells x = cells ≡ spare_cells x

-- the newest claim has this cell
abbrev pub NewestOwns : ℕ → Part → Type 0
NewestOwns cell x = is_own cell (claim_at x.current (last_claim x.current)).own ≡ true

-- A cell is drawn, and these are left. A spare one is the last of the seat's part until the reader stamp is loaded; one from the
-- counter is the newest claim's at once.
abbrev pub HasDrawn : List ℕ → ℕ → Part → Task → Type 0
HasDrawn cells cell x task.Draws = cells ++ cell ∷ [] ≡ spare_cells x
HasDrawn cells cell x task.Fetched = SpareIs cells x × NewestOwns cell x
HasDrawn cells cell x t = ⊥

-- the part of a seat whose newest claim has drawn this cell from the counter
abbrev pub drawn_part : ℕ → Part → Part
drawn_part cell x = record x { task = task.Fetched; current = with_cell (record { cell = cell; words = blank_cell }) x.current }

-- a spare cell is drawn without a step, and one from the counter only where there is no spare one
abbrev pub part_drawn : ℕ → Part → Part
part_drawn cell x = if length x.spare == 0 then drawn_part cell x else x

-- A cell was drawn, and these are left.
pub record DidDraw (v : View) (who : ℕ) (cells : List ℕ) (cell : ℕ) (w : View) : Type 0 where
  pub view_is : w ≡ with_part who (part_drawn cell (part_of v who)) v
  pub drawn : HasDrawn cells cell (part_of w who) (part_of w who).task
  pub small : cell < TABLE_CELLS
  pub known : IsKnown w

-- one was drawn from the counter
pub record DidCount (v : View) (who cell : ℕ) (w : View) : Type 0 where
  pub view_is : w ≡ with_part who (drawn_part cell (part_of v who)) v
  pub small : cell < TABLE_CELLS
  pub known : IsKnown w

-- There was none: the seat has no spare cell, and in some sound state with the view's parts, but for the seat's task, so many cells were
-- drawn, all that there are.
pub record DidRefuse (v : View) (who seen : ℕ) (w : View) : Type 0 where
  pub view_is : w ≡ with_part who (with_task task.Refused (part_of v who)) v
  pub known : IsKnown w
  pub counting : Task
  pub state : Core
  pub sound : Sound state
  pub is_view : IsView (with_part who (with_task counting (part_of v who)) v) state
  pub limit : state.shared.cell_limit ≡ TABLE_CELLS
  pub counted : state.shared.cells_drawn ≡ seen
  pub all_drawn : TABLE_CELLS ≤ seen
  pub bare : (part_of v who).spare ≡ []

-- the reader stamp of the version that the newest claim overwrites may be loaded
abbrev pub MayRate : Part → Task → Type 0
MayRate x task.Draws = 0 < length x.spare
MayRate x task.Fetched = Unit {0}
MayRate x t = ⊥

-- the part with the newest claim's cell, where that is a spare one
abbrev pub with_drawn : Part → Task → Part
with_drawn x task.Draws = with_spare x
with_drawn x t = x

-- the part once that stamp is loaded
abbrev pub rated_part : ℕ → Part → Part
rated_part stamp x = rated_claim stamp (with_drawn x x.task)

-- The stamp was loaded: the cell that was drawn is the newest claim's, and the seat's spare cells are those that were left.
pub record DidRate (v : View) (who stamp : ℕ) (w : View) : Type 0 where
  pub view_is : w ≡ with_part who (rated_part stamp (part_of v who)) v
  pub known : IsKnown w
  pub left : (cells : List ℕ) (cell : ℕ) → HasDrawn cells cell (part_of v who) (part_of v who).task → SpareIs cells (part_of w who) × NewestOwns cell (part_of w who)
