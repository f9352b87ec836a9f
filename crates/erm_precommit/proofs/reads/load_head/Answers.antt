use Rattle.erm_precommit.proofs.Choices.{some_then, none_then}
use Rattle.erm_precommit.proofs.Read.{head_object, head_ready, head_went, head_stands, head_owned, head_owner, head_clear}
use Rattle.erm_precommit.proofs.Standing.{held}
use Rattle.erm_precommit.proofs.reads.load_head.Goals as goal
use Rattle.erm_rule.proofs.Wents.{went_one}

pub load_entry-entry-requires-clause-held : goal.load_entry-entry-requires-clause-held
load_entry-entry-requires-clause-held g c = held c.args.p.now.me.0.view c.args.who c.requires.stands.sealed

pub load_entry-entry-requires-clause-object : goal.load_entry-entry-requires-clause-object
load_entry-entry-requires-clause-object g c =
    head_object c.args.pre.now c.args.p.now.me.0.view c.args.who c.requires.stands c.args.place c.read_at-read.result c.read_at-read.ensures c.requires.task c.requires.place

pub load_entry-entry-requires-clause-ready : goal.load_entry-entry-requires-clause-ready
load_entry-entry-requires-clause-ready g c =
    head_ready c.args.pre.now c.args.p.now.me.0.view c.args.who c.requires.stands c.args.place c.read_at-read.result c.read_at-read.ensures c.requires.task c.requires.place

pub returns-clause-went : goal.returns-clause-went
returns-clause-went g c =
    head_went c.args.pre.now c.args.p.now.me.0.view c.args.who c.requires.stands c.args.place c.read_at-read.result c.read_at-read.ensures c.requires.task c.requires.place c.load_entry-entry.result _ c.load_entry-entry.ensures.told.told

pub returns-clause-stands : goal.returns-clause-stands
returns-clause-stands g c =
    head_stands c.args.pre.now c.args.p.now.me.0.view c.args.who c.requires.stands c.args.place c.read_at-read.result c.read_at-read.ensures c.requires.task c.requires.place c.load_entry-entry.result _ c.load_entry-entry.ensures.told.told

pub returns-clause-owned : goal.returns-clause-owned
returns-clause-owned g c =
    some_then _ _ _ c.other_owner.result c.other_owner.ensures
    (head_owned c.args.pre.now c.args.p.now.me.0.view c.args.who c.requires.stands c.args.place c.read_at-read.result c.read_at-read.ensures c.requires.task c.requires.place c.load_entry-entry.result _ c.load_entry-entry.ensures.told.told)

pub returns-clause-owner : goal.returns-clause-owner
returns-clause-owner g c =
    some_then _ _ _ c.other_owner.result c.other_owner.ensures
    (head_owner c.args.pre.now c.args.p.now.me.0.view c.args.who c.requires.stands c.args.place c.read_at-read.result c.read_at-read.ensures c.requires.task c.requires.place c.load_entry-entry.result _ c.load_entry-entry.ensures.told.told)

pub returns-clause-clear : goal.returns-clause-clear
returns-clause-clear g c =
    none_then _ _ _ c.other_owner.result c.other_owner.ensures
    (head_clear c.args.pre.now c.args.p.now.me.0.view c.args.who c.requires.stands c.args.place c.read_at-read.result c.read_at-read.ensures c.requires.task c.requires.place c.load_entry-entry.result _ c.load_entry-entry.ensures.told.told)

pub returns-clause-loads : goal.returns-clause-loads
returns-clause-loads g c = went_one _ _ _ _ _ _ _ tt c.load_entry-entry.ensures.booked
