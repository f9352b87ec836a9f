use Rattle.std.proofs.Common.{refl}
use Rattle.erm_rule.proofs.Wents.{went_more, went_one}
use Rattle.erm_rows.proofs.Safe.{active_entered, active_reached, begin_entered, did_read_safe, found_reached, walks_entered}
use Rattle.erm_rows.proofs.safe_reading.safe_read.Goals as goal

pub walk_safe-cell-requires-clause-known : goal.walk_safe-cell-requires-clause-known
walk_safe-cell-requires-clause-known g c = c.enter_safe-head.ensures.entered.known

pub walk_safe-cell-requires-clause-active : goal.walk_safe-cell-requires-clause-active
walk_safe-cell-requires-clause-active g c = active_entered c.args.p.now.me.0 c.args.who c.args.oid c.requires.active c.enter_safe-head.result _ c.enter_safe-head.ensures.entered

pub walk_safe-cell-requires-clause-walks : goal.walk_safe-cell-requires-clause-walks
walk_safe-cell-requires-clause-walks g c = walks_entered c.args.p.now.me.0 c.args.who c.args.oid c.requires.active c.enter_safe-head.result _ c.enter_safe-head.ensures.entered

pub walk_safe-cell-requires-clause-begin : goal.walk_safe-cell-requires-clause-begin
walk_safe-cell-requires-clause-begin g c =
    begin_entered c.args.p.now.me.0 c.args.who c.args.oid c.requires.active c.enter_safe-head.result _ c.enter_safe-head.ensures.entered c.args.begin c.requires.begin

pub load_safe_row-requires-clause-known : goal.load_safe_row-requires-clause-known
load_safe_row-requires-clause-known g c = c.walk_safe-cell.ensures.found.known

pub load_safe_row-requires-clause-active : goal.load_safe_row-requires-clause-active
load_safe_row-requires-clause-active g c =
    active_reached c.args.p.now.me.0 c.args.who c.args.oid c.requires.active c.enter_safe-head.result _ c.enter_safe-head.ensures.entered c.walk_safe-cell.result _ c.walk_safe-cell.ensures.found

pub load_safe_row-requires-clause-found : goal.load_safe_row-requires-clause-found
load_safe_row-requires-clause-found g c =
    found_reached c.args.p.now.me.0 c.args.who c.args.oid c.requires.active c.enter_safe-head.result _ c.enter_safe-head.ensures.entered c.walk_safe-cell.result _ c.walk_safe-cell.ensures.found

pub returns-clause-read : goal.returns-clause-read
returns-clause-read g c =
    did_read_safe c.args.p.now.me.0 c.args.who c.args.oid c.requires.active c.enter_safe-head.result _ c.enter_safe-head.ensures.entered c.walk_safe-cell.result _ c.walk_safe-cell.ensures.found
    c.walk_safe-cell.new.p.me.0 refl c.load_safe_row.result c.load_safe_row.new.p.me.0 c.load_safe_row.ensures.loaded

pub returns-clause-loads : goal.returns-clause-loads
returns-clause-loads g c =
    went_more _ _ _ _ _ _ (went_more _ _ _ _ _ _ (went_one _ _ _ _ _ _ _ tt c.enter_safe-head.ensures.booked.1) c.walk_safe-cell.ensures.loads) c.load_safe_row.ensures.loads
