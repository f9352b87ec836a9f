use Rattle.erm_precommit.proofs.Overwritten.{creator_object, creator_cell, creator_ready, creator_went, creator_stands, creator_made}
use Rattle.erm_precommit.proofs.Standing.{held}
use Rattle.erm_precommit.proofs.writes.rate_creator.Goals as goal
use Rattle.erm_rule.proofs.Wents.{went_one}

pub load_stamp-creator-requires-clause-held : goal.load_stamp-creator-requires-clause-held
load_stamp-creator-requires-clause-held g c = held c.args.p.now.me.0.view c.args.who c.requires.stands.sealed

pub load_stamp-creator-requires-clause-known : goal.load_stamp-creator-requires-clause-known
load_stamp-creator-requires-clause-known g c = c.requires.stands.known

pub load_stamp-creator-requires-clause-object : goal.load_stamp-creator-requires-clause-object
load_stamp-creator-requires-clause-object g c = creator_object c.args.pre.now c.args.p.now.me.0.view c.args.who c.requires.stands c.args.place c.claim_at-claim.result c.claim_at-claim.ensures c.requires.task

pub load_stamp-creator-requires-clause-cell : goal.load_stamp-creator-requires-clause-cell
load_stamp-creator-requires-clause-cell g c = creator_cell c.args.pre.now c.args.p.now.me.0.view c.args.who c.requires.stands c.args.place c.claim_at-claim.result c.claim_at-claim.ensures c.requires.task

pub load_stamp-creator-requires-clause-ready : goal.load_stamp-creator-requires-clause-ready
load_stamp-creator-requires-clause-ready g c = creator_ready c.args.pre.now c.args.p.now.me.0.view c.args.who c.requires.stands c.args.place c.claim_at-claim.result c.claim_at-claim.ensures c.requires.task

pub returns-clause-went : goal.returns-clause-went
returns-clause-went g c = creator_went c.args.pre.now c.args.p.now.me.0.view c.args.who c.requires.stands c.args.place c.claim_at-claim.result c.claim_at-claim.ensures c.requires.task c.load_stamp-creator.result _ c.load_stamp-creator.ensures.told.told

pub returns-clause-stands : goal.returns-clause-stands
returns-clause-stands g c = creator_stands c.args.pre.now c.args.p.now.me.0.view c.args.who c.requires.stands c.args.place c.claim_at-claim.result c.claim_at-claim.ensures c.requires.task c.load_stamp-creator.result _ c.load_stamp-creator.ensures.told.told _ c.find_pred.ensures

pub returns-clause-made : goal.returns-clause-made
returns-clause-made g c = creator_made c.args.pre.now c.args.p.now.me.0.view c.args.who c.requires.stands c.args.place c.claim_at-claim.result c.claim_at-claim.ensures c.requires.task c.load_stamp-creator.result _ c.load_stamp-creator.ensures.told.told

pub returns-clause-loads : goal.returns-clause-loads
returns-clause-loads g c = went_one _ _ _ _ _ _ _ tt c.load_stamp-creator.ensures.booked
