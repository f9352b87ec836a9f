use Rattle.erm_readers.proofs.Took.{rate_loads}
use Rattle.erm_rows.proofs.FromHead.{active_found, active_rated, active_registered, cell_rated, did_read, is_registered, keeps, may_load, room_found, to_be_read, unnoted}
use Rattle.erm_rows.proofs.reading.read_version.Goals as goal
use Rattle.erm_rule.specs.Hands.{in_hand}
use Rattle.erm_rule.specs.Views.{part_of}
use Rattle.erm_rule.proofs.Wents.{went_more}

pub register-requires-clause-active : goal.register-requires-clause-active
register-requires-clause-active g c = active_found c.args.p.now.me.0.view c.args.who c.args.oid c.requires.active c.requires.object c.requires.unread c.walk-found.result.cell c.walk-found.result.stamp _ c.walk-found.ensures.found

pub register-requires-clause-room : goal.register-requires-clause-room
register-requires-clause-room g c = room_found c.args.p.now.me.0.view c.args.who c.args.oid c.requires.active c.requires.object c.requires.unread c.walk-found.result.cell c.walk-found.result.stamp _ c.walk-found.ensures.found _ c.requires.kept.read_count c.requires.room

pub register-requires-clause-found : goal.register-requires-clause-found
register-requires-clause-found g c = to_be_read c.args.p.now.me.0.view c.args.who c.args.oid c.requires.active c.requires.object c.requires.unread c.walk-found.result.cell c.walk-found.result.stamp _ c.walk-found.ensures.found

pub rate_read-succ-requires-clause-active : goal.rate_read-succ-requires-clause-active
rate_read-succ-requires-clause-active g c = active_registered c.args.p.now.me.0.view c.args.who c.args.oid c.requires.active c.requires.object c.requires.unread c.walk-found.result.cell c.walk-found.result.stamp _ c.walk-found.ensures.found _ c.register.ensures.registered

pub rate_read-succ-requires-clause-registered : goal.rate_read-succ-requires-clause-registered
rate_read-succ-requires-clause-registered g c = is_registered c.args.p.now.me.0.view c.args.who c.args.oid c.requires.active c.requires.object c.requires.unread c.walk-found.result.cell c.walk-found.result.stamp _ c.walk-found.ensures.found _ c.register.ensures.registered

pub load_row-row-requires-clause-active : goal.load_row-row-requires-clause-active
load_row-row-requires-clause-active g c = active_rated c.args.p.now.me.0.view c.args.who c.args.oid c.requires.active c.requires.object c.requires.unread c.walk-found.result.cell c.walk-found.result.stamp _ c.walk-found.ensures.found _ c.register.ensures.registered c.rate_read-succ.result _ c.rate_read-succ.ensures.rated

pub load_row-row-requires-clause-registered : goal.load_row-row-requires-clause-registered
load_row-row-requires-clause-registered g c = may_load c.args.p.now.me.0.view c.args.who c.args.oid c.requires.active c.requires.object c.requires.unread c.walk-found.result.cell c.walk-found.result.stamp _ c.walk-found.ensures.found _ c.register.ensures.registered c.rate_read-succ.result _ c.rate_read-succ.ensures.rated

pub load_row-row-requires-clause-cell : goal.load_row-row-requires-clause-cell
load_row-row-requires-clause-cell g c = cell_rated c.args.p.now.me.0.view c.args.who c.args.oid c.requires.active c.requires.object c.requires.unread c.walk-found.result.cell c.walk-found.result.stamp _ c.walk-found.ensures.found _ c.register.ensures.registered c.rate_read-succ.result _ c.rate_read-succ.ensures.rated

pub returns-clause-read : goal.returns-clause-read
returns-clause-read g c = did_read c.args.p.now.me.0.view c.args.who c.args.oid c.requires.active c.requires.object c.requires.unread c.walk-found.result.cell c.walk-found.result.stamp _ c.walk-found.ensures.found _ c.register.ensures.registered c.rate_read-succ.result _ c.rate_read-succ.ensures.rated c.load_row-row.result _ c.load_row-row.ensures.loaded

pub returns-clause-unnoted : goal.returns-clause-unnoted
returns-clause-unnoted g c = unnoted c.args.p.now.me.0.view c.args.who c.args.oid c.requires.active c.requires.object c.requires.unread c.walk-found.result.cell c.walk-found.result.stamp _ c.walk-found.ensures.found _ c.register.ensures.registered c.rate_read-succ.result _ c.rate_read-succ.ensures.rated c.load_row-row.result _ c.load_row-row.ensures.loaded

pub returns-clause-kept : goal.returns-clause-kept
returns-clause-kept g c = keeps c.args.p.now.me.0.view c.args.who c.args.oid c.requires.active c.requires.object c.requires.unread c.walk-found.result.cell c.walk-found.result.stamp _ c.walk-found.ensures.found _ c.register.ensures.registered c.rate_read-succ.result _ c.rate_read-succ.ensures.rated c.load_row-row.result _ c.load_row-row.ensures.loaded c.args.txn.now _ c.requires.kept c.add_read.ensures

pub returns-clause-took : goal.returns-clause-took
returns-clause-took g c = record {
  found = c.walk-found.new.p.me.0;
  walk = c.walk-found.ensures.loads;
  version = in_hand (part_of c.walk-found.new.p.me.0.view c.args.who).task;
  word = c.register.ensures.booked.0;
  registered = c.register.new.p.me.0;
  step = c.register.ensures.booked.1;
  rest = went_more _ _ _ _ _ _ (rate_loads g.L.RowLaw.law c.args.who _ c.rate_read-succ.result c.register.new.p.me.0 c.rate_read-succ.new.p.me.0 c.rate_read-succ.ensures.took) c.load_row-row.ensures.loads;
}
