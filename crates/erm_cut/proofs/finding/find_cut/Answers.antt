use Rattle.erm_rule.proofs.Telling.{is_held}
use Rattle.erm_cut.proofs.Walk.{starts_walking, has_walks, object_walked, cell_walked, ready_stamp, did_find, has_passed, known_passed, object_passed, cell_passed, ready_link, did_find_none, goes_less, goes_on}
use Rattle.erm_cut.proofs.finding.find_cut.Goals as goal
use Rattle.erm_rule.proofs.Wents.{went_none, went_step}

pub walk-init : goal.walk-init
walk-init g c = record { fits = c.requires.fits; walking = starts_walking c.args.p.now.me.0.view c.args.who c.requires.active c.args.horizon c.args.head c.requires.known c.requires.at; loads = went_none _ _ _ _ }

pub load_walked-stamp-requires-clause-held : goal.load_walked-stamp-requires-clause-held
load_walked-stamp-requires-clause-held g c = is_held c.walk.p.me.0.view c.args.who _ (has_walks c.args.p.now.me.0.view c.args.who c.requires.active c.args.horizon c.walk.cell c.walk.p.me.0.view c.walk.invariant.walking)

pub load_walked-stamp-requires-clause-known : goal.load_walked-stamp-requires-clause-known
load_walked-stamp-requires-clause-known g c = c.walk.invariant.walking.known

pub load_walked-stamp-requires-clause-object : goal.load_walked-stamp-requires-clause-object
load_walked-stamp-requires-clause-object g c = object_walked c.args.p.now.me.0.view c.args.who c.requires.active c.args.horizon c.walk.cell c.walk.p.me.0.view c.walk.invariant.walking

pub load_walked-stamp-requires-clause-cell : goal.load_walked-stamp-requires-clause-cell
load_walked-stamp-requires-clause-cell g c = cell_walked c.args.p.now.me.0.view c.args.who c.requires.active c.args.horizon c.walk.cell c.walk.p.me.0.view c.walk.invariant.walking

pub load_walked-stamp-requires-clause-ready : goal.load_walked-stamp-requires-clause-ready
load_walked-stamp-requires-clause-ready g c = ready_stamp c.args.p.now.me.0.view c.args.who c.requires.active c.args.horizon c.walk.cell c.walk.p.me.0.view c.walk.invariant.walking

pub returns-then-stamp-horizon-clause-found : goal.returns-then-stamp-horizon-clause-found
returns-then-stamp-horizon-clause-found g c = did_find c.args.p.now.me.0.view c.args.who c.requires.active c.args.horizon c.walk.cell c.walk.p.me.0.view c.walk.invariant.walking c.load_walked-stamp.result c.load_walked-stamp.new.p.me.0.view c.load_walked-stamp.ensures.told.told c.if-stamp-horizon.true

pub load_walked-link-requires-clause-held : goal.load_walked-link-requires-clause-held
load_walked-link-requires-clause-held g c = is_held c.load_walked-stamp.new.p.me.0.view c.args.who _ (has_passed c.args.p.now.me.0.view c.args.who c.requires.active c.args.horizon c.walk.cell c.walk.p.me.0.view c.walk.invariant.walking c.load_walked-stamp.result c.load_walked-stamp.new.p.me.0.view c.load_walked-stamp.ensures.told.told c.if-stamp-horizon.false)

pub load_walked-link-requires-clause-known : goal.load_walked-link-requires-clause-known
load_walked-link-requires-clause-known g c = known_passed c.args.p.now.me.0.view c.args.who c.requires.active c.args.horizon c.walk.cell c.walk.p.me.0.view c.walk.invariant.walking c.load_walked-stamp.result c.load_walked-stamp.new.p.me.0.view c.load_walked-stamp.ensures.told.told c.if-stamp-horizon.false

pub load_walked-link-requires-clause-object : goal.load_walked-link-requires-clause-object
load_walked-link-requires-clause-object g c = object_passed c.args.p.now.me.0.view c.args.who c.requires.active c.args.horizon c.walk.cell c.walk.p.me.0.view c.walk.invariant.walking c.load_walked-stamp.result c.load_walked-stamp.new.p.me.0.view c.load_walked-stamp.ensures.told.told c.if-stamp-horizon.false

pub load_walked-link-requires-clause-cell : goal.load_walked-link-requires-clause-cell
load_walked-link-requires-clause-cell g c = cell_passed c.args.p.now.me.0.view c.args.who c.requires.active c.args.horizon c.walk.cell c.walk.p.me.0.view c.walk.invariant.walking c.load_walked-stamp.result c.load_walked-stamp.new.p.me.0.view c.load_walked-stamp.ensures.told.told c.if-stamp-horizon.false

pub load_walked-link-requires-clause-ready : goal.load_walked-link-requires-clause-ready
load_walked-link-requires-clause-ready g c = ready_link c.args.p.now.me.0.view c.args.who c.requires.active c.args.horizon c.walk.cell c.walk.p.me.0.view c.walk.invariant.walking c.load_walked-stamp.result c.load_walked-stamp.new.p.me.0.view c.load_walked-stamp.ensures.told.told c.if-stamp-horizon.false

pub returns-then-link-eq0-clause-found : goal.returns-then-link-eq0-clause-found
returns-then-link-eq0-clause-found g c = did_find_none c.args.p.now.me.0.view c.args.who c.requires.active c.args.horizon c.walk.cell c.walk.p.me.0.view c.walk.invariant.walking c.load_walked-stamp.result c.load_walked-stamp.new.p.me.0.view c.load_walked-stamp.ensures.told.told c.if-stamp-horizon.false c.load_walked-link.result c.load_walked-link.new.p.me.0.view c.load_walked-link.ensures.told.told c.if-link-eq0.true

pub walk-smaller : goal.walk-smaller
walk-smaller g c = goes_less c.args.p.now.me.0.view c.args.who c.requires.active c.args.horizon c.walk.cell c.walk.p.me.0.view c.walk.invariant.walking c.load_walked-stamp.result c.load_walked-stamp.new.p.me.0.view c.load_walked-stamp.ensures.told.told c.if-stamp-horizon.false c.load_walked-link.result c.load_walked-link.new.p.me.0.view c.load_walked-link.ensures.told.told c.if-link-eq0.false

pub walk-preserved : goal.walk-preserved
walk-preserved g c = record {
  fits = c.load_walked-link.ensures.fits;
  walking = goes_on c.args.p.now.me.0.view c.args.who c.requires.active c.args.horizon c.walk.cell c.walk.p.me.0.view c.walk.invariant.walking c.load_walked-stamp.result c.load_walked-stamp.new.p.me.0.view c.load_walked-stamp.ensures.told.told c.if-stamp-horizon.false c.load_walked-link.result c.load_walked-link.new.p.me.0.view c.load_walked-link.ensures.told.told c.linked_cell-cell.result c.if-link-eq0.false c.linked_cell-cell.ensures;
  loads = went_step _ _ _ _ _ _ _ _ (went_step _ _ _ _ _ _ _ _ c.walk.invariant.loads tt c.load_walked-stamp.ensures.booked) tt c.load_walked-link.ensures.booked;
}

pub returns-then-stamp-horizon-clause-loads : goal.returns-then-stamp-horizon-clause-loads
returns-then-stamp-horizon-clause-loads g c = went_step _ _ _ _ _ _ _ _ c.walk.invariant.loads tt c.load_walked-stamp.ensures.booked

pub returns-then-link-eq0-clause-loads : goal.returns-then-link-eq0-clause-loads
returns-then-link-eq0-clause-loads g c = went_step _ _ _ _ _ _ _ _ (went_step _ _ _ _ _ _ _ _ c.walk.invariant.loads tt c.load_walked-stamp.ensures.booked) tt c.load_walked-link.ensures.booked
