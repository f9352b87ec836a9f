use Rattle.erm_precommit.proofs.Overwritten.{made_object, made_cell, made_ready, made_went, made_stands, made_passed}
use Rattle.erm_precommit.proofs.Standing.{held}
use Rattle.erm_precommit.proofs.writes.rate_readers.Goals as goal
use Rattle.erm_rule.proofs.Wents.{went_one}

pub load_stamp-reader-requires-clause-held : goal.load_stamp-reader-requires-clause-held
load_stamp-reader-requires-clause-held g c = held c.args.p.now.me.0.view c.args.who c.requires.stands.sealed

pub load_stamp-reader-requires-clause-known : goal.load_stamp-reader-requires-clause-known
load_stamp-reader-requires-clause-known g c = c.requires.stands.known

pub load_stamp-reader-requires-clause-object : goal.load_stamp-reader-requires-clause-object
load_stamp-reader-requires-clause-object g c = made_object c.args.pre.now c.args.p.now.me.0.view c.args.who c.requires.stands c.args.place c.claim_at-claim.result c.claim_at-claim.ensures c.requires.task

pub load_stamp-reader-requires-clause-cell : goal.load_stamp-reader-requires-clause-cell
load_stamp-reader-requires-clause-cell g c = made_cell c.args.pre.now c.args.p.now.me.0.view c.args.who c.requires.stands c.args.place c.claim_at-claim.result c.claim_at-claim.ensures c.requires.task

pub load_stamp-reader-requires-clause-ready : goal.load_stamp-reader-requires-clause-ready
load_stamp-reader-requires-clause-ready g c = made_ready c.args.pre.now c.args.p.now.me.0.view c.args.who c.requires.stands c.args.place c.claim_at-claim.result c.claim_at-claim.ensures c.requires.task

pub returns-clause-went : goal.returns-clause-went
returns-clause-went g c = made_went c.args.pre.now c.args.p.now.me.0.view c.args.who c.requires.stands c.args.place c.claim_at-claim.result c.claim_at-claim.ensures c.requires.task c.load_stamp-reader.result _ c.load_stamp-reader.ensures.told.told

pub returns-clause-stands : goal.returns-clause-stands
returns-clause-stands g c = made_stands c.args.pre.now c.args.p.now.me.0.view c.args.who c.requires.stands c.args.place c.claim_at-claim.result c.claim_at-claim.ensures c.requires.task c.load_stamp-reader.result _ c.load_stamp-reader.ensures.told.told _ c.find_pred.ensures

pub returns-clause-passed : goal.returns-clause-passed
returns-clause-passed g c = made_passed c.args.pre.now c.args.p.now.me.0.view c.args.who c.requires.stands c.args.place c.claim_at-claim.result c.claim_at-claim.ensures c.requires.task c.load_stamp-reader.result _ c.load_stamp-reader.ensures.told.told _ c.find_pred.ensures

pub returns-clause-loads : goal.returns-clause-loads
returns-clause-loads g c = went_one _ _ _ _ _ _ _ tt c.load_stamp-reader.ensures.booked
