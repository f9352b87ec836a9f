use Rattle.erm_cells.proofs.Copied.{copy_active, copy_may, did_copy}
use Rattle.erm_cells.proofs.rows.copy_row.Goals as goal

pub store_row-requires-clause-known : goal.store_row-requires-clause-known
store_row-requires-clause-known g c = c.load_base-row.ensures.loaded.known

pub store_row-requires-clause-active : goal.store_row-requires-clause-active
store_row-requires-clause-active g c = copy_active c.args.p.now.me.0.view c.args.who c.args.own c.requires.copies c.load_base-row.result c.load_base-row.new.p.me.0.view c.load_base-row.ensures.loaded c.requires.active

pub store_row-requires-clause-may : goal.store_row-requires-clause-may
store_row-requires-clause-may g c = copy_may c.args.p.now.me.0.view c.args.who c.args.own c.requires.copies c.load_base-row.result c.load_base-row.new.p.me.0.view c.load_base-row.ensures.loaded c.requires.own

pub returns-clause-copied : goal.returns-clause-copied
returns-clause-copied g c =
    did_copy c.args.p.now.me.0.view c.args.who c.args.own c.requires.copies c.load_base-row.result c.load_base-row.new.p.me.0.view c.load_base-row.ensures.loaded c.store_row.new.p.me.0.view c.store_row.ensures.stored

pub returns-clause-row : goal.returns-clause-row
returns-clause-row g c = c.load_base-row.ensures.loaded.row_is

pub returns-clause-took : goal.returns-clause-took
returns-clause-took g c = (c.load_base-row.new.p.me.0, c.load_base-row.ensures.loads, c.store_row.ensures.stores)
