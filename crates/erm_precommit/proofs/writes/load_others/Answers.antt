use Rattle.erm_precommit.proofs.Overwritten.{readers_object, readers_cell, readers_ready, readers_went, readers_stands, readers_left, readers_are}
use Rattle.erm_precommit.proofs.Standing.{held, seat_fits}
use Rattle.erm_precommit.proofs.writes.load_others.Goals as goal
use Rattle.erm_rule.proofs.Wents.{went_one}

pub load_readers-readers-requires-clause-held : goal.load_readers-readers-requires-clause-held
load_readers-readers-requires-clause-held g c = held c.args.p.now.me.0.view c.args.who c.requires.stands.sealed

pub load_readers-readers-requires-clause-known : goal.load_readers-readers-requires-clause-known
load_readers-readers-requires-clause-known g c = c.requires.stands.known

pub load_readers-readers-requires-clause-object : goal.load_readers-readers-requires-clause-object
load_readers-readers-requires-clause-object g c =
    readers_object c.args.pre.now c.args.p.now.me.0.view c.args.who c.requires.stands c.args.place c.claim_at-claim.result c.claim_at-claim.ensures c.requires.task c.requires.place

pub load_readers-readers-requires-clause-cell : goal.load_readers-readers-requires-clause-cell
load_readers-readers-requires-clause-cell g c =
    readers_cell c.args.pre.now c.args.p.now.me.0.view c.args.who c.requires.stands c.args.place c.claim_at-claim.result c.claim_at-claim.ensures c.requires.task c.requires.place

pub load_readers-readers-requires-clause-ready : goal.load_readers-readers-requires-clause-ready
load_readers-readers-requires-clause-ready g c =
    readers_ready c.args.pre.now c.args.p.now.me.0.view c.args.who c.requires.stands c.args.place c.claim_at-claim.result c.claim_at-claim.ensures c.requires.task c.requires.place

pub without_bit-requires : goal.without_bit-requires
without_bit-requires g c = seat_fits c.args.p.now.me.0.view c.args.who c.requires.stands.sealed c.requires.stands.known

pub returns-clause-went : goal.returns-clause-went
returns-clause-went g c =
    readers_went c.args.pre.now c.args.p.now.me.0.view c.args.who c.requires.stands c.args.place c.claim_at-claim.result c.claim_at-claim.ensures c.requires.task c.requires.place c.load_readers-readers.result _ c.load_readers-readers.ensures.told.told

pub returns-clause-stands : goal.returns-clause-stands
returns-clause-stands g c =
    readers_stands c.args.pre.now c.args.p.now.me.0.view c.args.who c.requires.stands c.args.place c.claim_at-claim.result c.claim_at-claim.ensures c.requires.task c.requires.place c.load_readers-readers.result _ c.load_readers-readers.ensures.told.told

pub returns-clause-task : goal.returns-clause-task
returns-clause-task g c =
    readers_left c.args.pre.now c.args.p.now.me.0.view c.args.who c.requires.stands c.args.place c.claim_at-claim.result c.claim_at-claim.ensures c.requires.task c.requires.place c.load_readers-readers.result _ c.load_readers-readers.ensures.told.told
    c.without_bit.result c.without_bit.ensures

pub returns-clause-readers : goal.returns-clause-readers
returns-clause-readers g c =
    readers_are c.args.pre.now c.args.p.now.me.0.view c.args.who c.requires.stands c.args.place c.claim_at-claim.result c.claim_at-claim.ensures c.requires.task c.requires.place c.load_readers-readers.result _ c.load_readers-readers.ensures.told.told
    c.without_bit.result c.without_bit.ensures

pub returns-clause-loads : goal.returns-clause-loads
returns-clause-loads g c = went_one _ _ _ _ _ _ _ tt c.load_readers-readers.ensures.booked
