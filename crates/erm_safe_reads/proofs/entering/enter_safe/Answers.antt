use Rattle.erm_rule.proofs.Telling.{is_held}
use Rattle.erm_cells.proofs.Heads.{has}
use Rattle.erm_safe_reads.proofs.Entered.{did_enter, enter_ready}
use Rattle.erm_safe_reads.proofs.entering.enter_safe.Goals as goal

pub load_entry-entry-requires-clause-held : goal.load_entry-entry-requires-clause-held
load_entry-entry-requires-clause-held g c = is_held c.args.p.now.me.0.view c.args.who _ (has c.args.p.now.me.0.view c.args.who c.requires.active)

pub load_entry-entry-requires-clause-ready : goal.load_entry-entry-requires-clause-ready
load_entry-entry-requires-clause-ready g c = enter_ready c.args.p.now.me.0.view c.args.who c.args.oid c.requires.active c.requires.safe

pub returns-clause-entered : goal.returns-clause-entered
returns-clause-entered g c =
    did_enter c.args.p.now.me.0.view c.args.who c.args.oid c.requires.active c.requires.safe c.load_entry-entry.result c.head_of.result _ c.head_of.ensures c.load_entry-entry.ensures.told.told

pub returns-clause-booked : goal.returns-clause-booked
returns-clause-booked g c = (c.load_entry-entry.result, c.load_entry-entry.ensures.booked)
