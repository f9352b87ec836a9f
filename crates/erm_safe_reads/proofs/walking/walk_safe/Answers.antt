use Rattle.erm_rule.proofs.Telling.{is_held}
use Rattle.erm_safe_reads.proofs.Walked.{cell_passed, cell_walked, did_reach, falls, has_passed, has_walking, known_passed, link_positive, object_passed, object_walked, ready_link, ready_stamp, starts, walks_on}
use Rattle.erm_safe_reads.proofs.walking.walk_safe.Goals as goal
use Rattle.erm_rule.proofs.Wents.{went_none, went_step}

pub loop-who-init : goal.loop-who-init
loop-who-init g c = (c.requires.fits, starts c.args.p.now.me.0.view c.args.who c.args.begin c.requires.active c.requires.begin c.args.cell c.requires.known c.requires.walks, went_none _ _ _ _)

pub load_walked-stamp-requires-clause-held : goal.load_walked-stamp-requires-clause-held
load_walked-stamp-requires-clause-held g c = is_held _ c.args.who _ (has_walking c.args.p.now.me.0.view c.args.who c.args.begin c.requires.active c.requires.begin c.loop-who.at c.loop-who.p.me.0.view c.loop-who.invariant.1)

pub load_walked-stamp-requires-clause-known : goal.load_walked-stamp-requires-clause-known
load_walked-stamp-requires-clause-known g c = c.loop-who.invariant.1.known

pub load_walked-stamp-requires-clause-object : goal.load_walked-stamp-requires-clause-object
load_walked-stamp-requires-clause-object g c = object_walked c.args.p.now.me.0.view c.args.who c.args.begin c.requires.active c.requires.begin c.loop-who.at c.loop-who.p.me.0.view c.loop-who.invariant.1

pub load_walked-stamp-requires-clause-cell : goal.load_walked-stamp-requires-clause-cell
load_walked-stamp-requires-clause-cell g c = cell_walked c.args.p.now.me.0.view c.args.who c.args.begin c.requires.active c.requires.begin c.loop-who.at c.loop-who.p.me.0.view c.loop-who.invariant.1

pub load_walked-stamp-requires-clause-ready : goal.load_walked-stamp-requires-clause-ready
load_walked-stamp-requires-clause-ready g c = ready_stamp c.args.p.now.me.0.view c.args.who c.args.begin c.requires.active c.requires.begin c.loop-who.at c.loop-who.p.me.0.view c.loop-who.invariant.1

pub returns-then-stamp-begin-clause-found : goal.returns-then-stamp-begin-clause-found
returns-then-stamp-begin-clause-found g c = did_reach c.args.p.now.me.0.view c.args.who c.args.begin c.requires.active c.requires.begin c.loop-who.at c.loop-who.p.me.0.view c.loop-who.invariant.1 c.load_walked-stamp.result _ c.load_walked-stamp.ensures.told.told c.if-stamp-begin.true

pub load_walked-link-requires-clause-held : goal.load_walked-link-requires-clause-held
load_walked-link-requires-clause-held g c = is_held _ c.args.who _ (has_passed c.args.p.now.me.0.view c.args.who c.args.begin c.requires.active c.requires.begin c.loop-who.at c.loop-who.p.me.0.view c.loop-who.invariant.1 c.load_walked-stamp.result _ c.load_walked-stamp.ensures.told.told c.if-stamp-begin.false)

pub load_walked-link-requires-clause-known : goal.load_walked-link-requires-clause-known
load_walked-link-requires-clause-known g c = known_passed c.args.p.now.me.0.view c.args.who c.args.begin c.requires.active c.requires.begin c.loop-who.at c.loop-who.p.me.0.view c.loop-who.invariant.1 c.load_walked-stamp.result _ c.load_walked-stamp.ensures.told.told c.if-stamp-begin.false

pub load_walked-link-requires-clause-object : goal.load_walked-link-requires-clause-object
load_walked-link-requires-clause-object g c = object_passed c.args.p.now.me.0.view c.args.who c.args.begin c.requires.active c.requires.begin c.loop-who.at c.loop-who.p.me.0.view c.loop-who.invariant.1 c.load_walked-stamp.result _ c.load_walked-stamp.ensures.told.told c.if-stamp-begin.false

pub load_walked-link-requires-clause-cell : goal.load_walked-link-requires-clause-cell
load_walked-link-requires-clause-cell g c = cell_passed c.args.p.now.me.0.view c.args.who c.args.begin c.requires.active c.requires.begin c.loop-who.at c.loop-who.p.me.0.view c.loop-who.invariant.1 c.load_walked-stamp.result _ c.load_walked-stamp.ensures.told.told c.if-stamp-begin.false

pub load_walked-link-requires-clause-ready : goal.load_walked-link-requires-clause-ready
load_walked-link-requires-clause-ready g c = ready_link c.args.p.now.me.0.view c.args.who c.args.begin c.requires.active c.requires.begin c.loop-who.at c.loop-who.p.me.0.view c.loop-who.invariant.1 c.load_walked-stamp.result _ c.load_walked-stamp.ensures.told.told c.if-stamp-begin.false

pub linked-at-requires : goal.linked-at-requires
linked-at-requires g c = link_positive c.args.p.now.me.0.view c.args.who c.args.begin c.requires.active c.requires.begin c.loop-who.at c.loop-who.p.me.0.view c.loop-who.invariant.1 c.load_walked-stamp.result _ c.load_walked-stamp.ensures.told.told c.if-stamp-begin.false c.load_walked-link.result _ c.load_walked-link.ensures.told.told

pub loop-who-preserved : goal.loop-who-preserved
loop-who-preserved g c = (c.load_walked-link.ensures.fits, walks_on c.args.p.now.me.0.view c.args.who c.args.begin c.requires.active c.requires.begin c.loop-who.at c.loop-who.p.me.0.view c.loop-who.invariant.1 c.load_walked-stamp.result _ c.load_walked-stamp.ensures.told.told c.if-stamp-begin.false c.load_walked-link.result _ c.load_walked-link.ensures.told.told c.linked-at.result c.linked-at.ensures, went_step _ _ _ _ _ _ _ _ (went_step _ _ _ _ _ _ _ _ c.loop-who.invariant.2 tt c.load_walked-stamp.ensures.booked) tt c.load_walked-link.ensures.booked)

pub loop-who-smaller : goal.loop-who-smaller
loop-who-smaller g c = falls c.args.p.now.me.0.view c.args.who c.args.begin c.requires.active c.requires.begin c.loop-who.at c.loop-who.p.me.0.view c.loop-who.invariant.1 c.load_walked-stamp.result _ c.load_walked-stamp.ensures.told.told c.if-stamp-begin.false c.load_walked-link.result _ c.load_walked-link.ensures.told.told

pub returns-then-stamp-begin-clause-loads : goal.returns-then-stamp-begin-clause-loads
returns-then-stamp-begin-clause-loads g c = went_step _ _ _ _ _ _ _ _ c.loop-who.invariant.2 tt c.load_walked-stamp.ensures.booked
