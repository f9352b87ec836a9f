-- A world on rows that were recovered.
use Rattle.std.specs.Prelude.{◌≡◌, ℕ, ◌-◌, ◌<◌, ◌≤◌, true, false, [], None}
use Rattle.erm_model.specs.declared.limits.TheConstants.{MOST_CELLS, OID_LIMIT, TABLES}
use Rattle.erm_model.specs.Rows.{Rows}
use Rattle.erm_model.specs.RowTransaction.{SameRows}
use Rattle.erm_node.specs.Sound.{reached}
use Rattle.erm_world.specs.Log.{Log}
use Rattle.erm_world.specs.World.{View}
use Rattle.erm_lines.specs.Executions.{IsOpened, is_zero}

-- The number is one above the greatest object below a bound whose row isn't of zeros, or that of the first behind the tables,
-- whichever is greater.
pub record IsFirstBelow (rows : Rows) (bound first : ℕ) : Type 0 where
  pub tables : TABLES ≤ first
  pub within : first ≤ bound
  pub zeros : (oid : ℕ) → first ≤ oid → oid < bound → is_zero (rows oid) ≡ true
  pub used : TABLES < first → is_zero (rows (first - 1)) ≡ false

-- it is the first object that a world on these rows makes
abbrev pub IsFirstObject : Rows → ℕ → Type 0
IsFirstObject rows first = IsFirstBelow rows OID_LIMIT first

-- A world of so many sessions that was just opened on these rows, whose log goes on at this place, and is written as this run. The
-- rows reach none of the objects that it makes, it has so many cells, and a call cuts off so many versions at most.
pub record IsOpenedWith (found : Rows) (place number many room most : ℕ) (v : View) : Type 0 where
  pub opened : IsOpened v
  pub rows : SameRows v.opening.rows found
  pub tail : v.opening.tail ≡ place
  pub run : v.opening.run ≡ number
  pub sessions : v.opening.sessions ≡ many
  pub first : IsFirstObject found v.opening.first
  pub cells : v.opening.cells ≡ room
  pub cuts : v.opening.cuts ≡ most
  pub unreached : (oid : ℕ) → v.opening.first ≤ oid → reached v.opening.rows oid ≡ 0

-- one that has as many cells as there may be, and cuts off no versions
abbrev pub IsOpenedOn : Rows → (place number many : ℕ) → View → Type 0
IsOpenedOn found place number many v = IsOpenedWith found place number many MOST_CELLS 0 v

-- a log that was just opened on these rows: it goes on at this place, as this run, all is synced, nothing is gathered, and it has no pin
pub record IsOpenedLog (found : Rows) (place number : ℕ) (log : Log) : Type 0 where
  pub at : log.opened.at ≡ place
  pub run : log.opened.run ≡ number
  pub rows : SameRows log.opened.rows found
  pub tail : log.tail ≡ place
  pub flushed : log.flushed ≡ place
  pub gathered : log.gathered ≡ []
  pub pinned : log.pinned ≡ None
