-- What a table is told when it is made, and the state that it stands for then.
use Rattle.std.specs.Prelude.{ℕ, List, [], replicate, slice_index_or}
use Rattle.erm_model.specs.declared.limits.TheConstants.{TABLE_CELLS}
use Rattle.erm_model.specs.Rows.{Rows}
use Rattle.erm_machine.specs.Core.{Core, opening_state}
use Rattle.erm_rule.specs.declared.view.Opening.{Opening}
use Rattle.erm_rule.specs.declared.view.Start.{Start}

-- what the table is told
abbrev pub start_of : Opening → Start
start_of o = record { sessions = o.sessions; tail = o.tail; run = o.run; first = o.first; rows = o.rows.items }

-- the start of no table
abbrev pub no_start : Start
no_start = record { sessions = 0; tail = 0; run = 0; first = 0; rows = [] }

-- these rows, and zeros for numbers above those of the objects
abbrev pub start_rows : List (List ℕ) → Rows
start_rows rows oid = slice_index_or rows oid (replicate 16 0)

-- the state, with the table's cells
abbrev pub start_core : Start → Core
start_core s = opening_state s.sessions (start_rows s.rows) s.tail s.run s.first TABLE_CELLS
