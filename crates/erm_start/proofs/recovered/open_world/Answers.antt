use Rattle.std.proofs.Common.{sym, subst, arith}
use Rattle.erm_model.specs.Rows.{rows_of}
use Rattle.erm_start.specs.Recovered.{IsFirstObject}
use Rattle.erm_start.proofs.First.{new_unreached}
use Rattle.erm_start.proofs.Opened.{opened_log, opened_on}
use Rattle.erm_start.proofs.recovered.open_world.Goals as goal

pub open-requires-clause-first : goal.open-requires-clause-first
open-requires-clause-first c = let within = c.first_object-first.ensures.within in omega (arith, within, c.from.ensures)

pub open-requires-clause-unreached : goal.open-requires-clause-unreached
open-requires-clause-unreached c oid above =
    new_unreached c.zero_rows_are_not_reached.ensures (rows_of c.args.rows.now) c.first_object-first.result c.requires.meets c.first_object-first.ensures oid (omega (arith, above, c.from.ensures))

pub returns-clause-opened : goal.returns-clause-opened
returns-clause-opened c =
    opened_on c.args.sessions (rows_of c.args.rows.now) c.args.tail c.args.run c.from.result c.open.result
    (subst (IsFirstObject (rows_of c.args.rows.now)) (sym c.from.ensures) c.first_object-first.ensures) c.open.ensures.world c.open.ensures.opened c.open.ensures.sessions

pub returns-clause-log : goal.returns-clause-log
returns-clause-log c = opened_log c.args.sessions (rows_of c.args.rows.now) c.args.tail c.args.run c.from.result c.open.result c.open.ensures.opened c.open.ensures.sessions
