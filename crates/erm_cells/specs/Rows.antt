-- Rows: what loading the row of a version, and storing one into an own cell, leave of a pass's view.
use Rattle.std.specs.Prelude.{◌≡◌, ℕ, Bool, true, false, not, List, Option, Some, None}
use Rattle.erm_model.specs.Member.{◌∈◌}
use Rattle.erm_machine.specs.declared.attempt.OwnCell.{OwnCell}
use Rattle.erm_machine.specs.declared.attempt.Read.{Read}
use Rattle.erm_machine.specs.declared.part.Part.{Part}
use Rattle.erm_machine.specs.declared.task.Task.{Task}
use Rattle.erm_machine.specs.declared.task.Task.TheVariants as task
use Rattle.erm_machine.specs.Core.{claim_at}
use Rattle.erm_machine.specs.Decided.{IsRead}
use Rattle.erm_machine.specs.Seat.{may_start, with_claim, last_claim}
use Rattle.erm_rule.specs.declared.view.View.{View}
use Rattle.erm_rule.specs.Hands.{IsKnown, in_hand}
use Rattle.erm_rule.specs.Views.{part_of, with_part}
use Rattle.erm_cells.specs.Placed.{Owns, place_of}
use Rattle.erm_cells.specs.Spare.{NewestOwns}

-- the version in hand is registered: its row may be loaded
abbrev pub MayLoadRow : Task → Type 0
MayLoadRow (task.Registered version) = Unit {0}
MayLoadRow (task.Overtaken version overwriter) = Unit {0}
MayLoadRow (task.Rated version) = Unit {0}
MayLoadRow t = ⊥

-- The row of the version in hand was loaded, which is that of its read. The view stays.
pub record DidLoadRow (v : View) (who : ℕ) (row : List ℕ) (w : View) : Type 0 where
  pub view_is : w ≡ v
  pub known : IsKnown w
  pub read : IsRead (part_of v who).current (in_hand (part_of v who).task)
  pub row_is : (r : Read) → r ∈ (part_of v who).current.reads → r.version ≡ in_hand (part_of v who).task → row ≡ r.row

-- the newest claim's row is copied
abbrev pub is_copying : Task → Bool
is_copying (task.Copies word) = true
is_copying t = false

-- The row that the newest claim overwrites was loaded. The view stays.
pub record DidLoadBase (v : View) (who : ℕ) (row : List ℕ) (w : View) : Type 0 where
  pub view_is : w ≡ v
  pub known : IsKnown w
  pub row_is : row ≡ (claim_at (part_of v who).current (last_claim (part_of v who).current)).base

-- A row may be stored into the cell: the one overwritten into the newest claim's, before any word of it is copied, or any row into
-- a claim's where a call may start.
abbrev pub MayStoreRow : ℕ → List ℕ → Part → Task → Type 0
MayStoreRow cell row x (task.Copies word) = (word ≡ 0) × NewestOwns cell x × (row ≡ (claim_at x.current (last_claim x.current)).base)
MayStoreRow cell row x t = (may_start t ≡ true) × Owns cell x

-- an own cell with this row
abbrev pub with_own_row : List ℕ → Option OwnCell → Option OwnCell
with_own_row row None = None
with_own_row row (Some own) = Some (record own { words = record own.words { row = row } })

-- the claim at a place, and its cell, with these rows
abbrev pub part_with_rows : ℕ → List ℕ → List ℕ → Bool → Task → Part → Part
part_with_rows place row own_row is_set t x = record x {
  task = t;
  current = with_claim place (record (claim_at x.current place) { row = row; own = with_own_row own_row (claim_at x.current place).own; is_set = is_set }) x.current;
}

-- The row was stored: the claim that has the cell has it, and so has the cell. It is set, but where it is the one overwritten.
pub record DidStoreRow (v : View) (who cell : ℕ) (row : List ℕ) (w : View) : Type 0 where
  pub view_is : w ≡ with_part who
      (part_with_rows (place_of cell (part_of v who)) row row (not (is_copying (part_of v who).task)) task.Rest (part_of v who)) v
  pub known : IsKnown w

-- the row that the newest claim overwrites
abbrev pub newest_base : Part → List ℕ
newest_base x = (claim_at x.current (last_claim x.current)).base

-- That row was copied: the claim and its cell have it, and no write has set it.
pub record DidCopyRow (v : View) (who cell : ℕ) (w : View) : Type 0 where
  pub view_is : w ≡ with_part who
      (part_with_rows (place_of cell (part_of v who)) (newest_base (part_of v who)) (newest_base (part_of v who)) false task.Rest (part_of v who)) v
  pub known : IsKnown w
