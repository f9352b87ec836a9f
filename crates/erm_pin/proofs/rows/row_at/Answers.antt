use Rattle.erm_entries.proofs.Took.{reach_loads, wait_loads}
use Rattle.erm_machine.specs.declared.limits.TheConstants.{FLUSH_SEAT}
use Rattle.erm_rule.specs.Went.{IsLoadStep}
use Rattle.erm_rule.proofs.Wents.{went_more}
use Rattle.erm_pin.proofs.Looking.{found_active, found_cell, found_there, looked_row, looked_wait, took_row, unclaimed, walks_active, walks_below, walks_from}
use Rattle.erm_pin.proofs.rows.row_at.Goals as goal

pub enter-requires-clause-unclaimed : goal.enter-requires-clause-unclaimed
enter-requires-clause-unclaimed g c = unclaimed c.args.p.now.me.0.view c.requires.pinned c.args.oid

pub returns-in_err-entry-clause-looked : goal.returns-in_err-entry-clause-looked
returns-in_err-entry-clause-looked g c = looked_wait c.args.p.now.me.0.view c.requires.pinned c.args.oid _ _ c.in_err-entry.ensures.waits

pub returns-in_err-entry-clause-loads : goal.returns-in_err-entry-clause-loads
returns-in_err-entry-clause-loads g c = wait_loads _ _ _ _ _ _ _ c.in_err-entry.ensures.took_wait

pub walk-found-requires-clause-active : goal.walk-found-requires-clause-active
walk-found-requires-clause-active g c = walks_active c.args.p.now.me.0.view c.requires.pinned c.args.oid c.in_ok-entry.entry _ c.in_ok-entry.ensures.spelled c.in_ok-entry.ensures.reached

pub walk-found-requires-clause-walks : goal.walk-found-requires-clause-walks
walk-found-requires-clause-walks g c = walks_from c.args.p.now.me.0.view c.requires.pinned c.args.oid c.in_ok-entry.entry _ c.in_ok-entry.ensures.spelled c.in_ok-entry.ensures.reached

pub walk-found-requires-clause-begin : goal.walk-found-requires-clause-begin
walk-found-requires-clause-begin g c = walks_below c.args.p.now.me.0.view c.requires.pinned c.args.oid c.in_ok-entry.entry _ c.in_ok-entry.ensures.spelled c.in_ok-entry.ensures.reached c.args.place c.requires.place

pub load_pinned-requires-clause-active : goal.load_pinned-requires-clause-active
load_pinned-requires-clause-active g c =
    found_active c.args.p.now.me.0.view c.requires.pinned c.args.oid c.in_ok-entry.entry _ c.in_ok-entry.ensures.spelled c.in_ok-entry.ensures.reached _ _ _ c.walk-found.ensures.found

pub load_pinned-requires-clause-found : goal.load_pinned-requires-clause-found
load_pinned-requires-clause-found g c =
    found_there c.args.p.now.me.0.view c.requires.pinned c.args.oid c.in_ok-entry.entry _ c.in_ok-entry.ensures.spelled c.in_ok-entry.ensures.reached _ _ _ c.walk-found.ensures.found

pub load_pinned-requires-clause-cell : goal.load_pinned-requires-clause-cell
load_pinned-requires-clause-cell g c =
    found_cell c.args.p.now.me.0.view c.requires.pinned c.args.oid c.in_ok-entry.entry _ c.in_ok-entry.ensures.spelled c.in_ok-entry.ensures.reached _ _ _ c.walk-found.ensures.found

pub returns-clause-looked : goal.returns-clause-looked
returns-clause-looked g c =
    looked_row c.args.p.now.me.0.view c.requires.pinned c.args.oid c.in_ok-entry.entry _ c.in_ok-entry.ensures.spelled c.in_ok-entry.ensures.reached _ _ _ c.walk-found.ensures.found _ c.load_pinned.ensures.same

pub returns-clause-row : goal.returns-clause-row
returns-clause-row g c =
    took_row c.args.p.now.me.0.view c.requires.pinned c.args.oid c.in_ok-entry.entry _ c.in_ok-entry.ensures.spelled c.in_ok-entry.ensures.reached _ _ _ c.walk-found.ensures.found
    g.L.RowLaw.law c.args.place c.load_pinned.result c.args.p.now.me.0 c.enter.new.p.me.0 c.load_pinned.new.p.me.0 c.load_pinned.ensures.same c.in_ok-entry.ensures.took
    (went_more g.L.RowLaw.law FLUSH_SEAT IsLoadStep _ _ _ c.walk-found.ensures.loads c.load_pinned.ensures.loads) c.load_pinned.ensures.row

pub returns-clause-loads : goal.returns-clause-loads
returns-clause-loads g c =
    went_more g.L.RowLaw.law FLUSH_SEAT IsLoadStep _ _ _ (reach_loads _ _ _ _ _ _ _ c.in_ok-entry.ensures.took)
    (went_more g.L.RowLaw.law FLUSH_SEAT IsLoadStep _ _ _ c.walk-found.ensures.loads c.load_pinned.ensures.loads)
