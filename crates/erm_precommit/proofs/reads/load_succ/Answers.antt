use Rattle.erm_precommit.proofs.Read.{succ_object, succ_cell, succ_ready, succ_went, succ_stands, succ_passed}
use Rattle.erm_precommit.proofs.Standing.{held}
use Rattle.erm_precommit.proofs.reads.load_succ.Goals as goal
use Rattle.erm_rule.proofs.Wents.{went_one}

pub load_stamp-succ-requires-clause-held : goal.load_stamp-succ-requires-clause-held
load_stamp-succ-requires-clause-held g c = held c.args.p.now.me.0.view c.args.who c.requires.stands.sealed

pub load_stamp-succ-requires-clause-known : goal.load_stamp-succ-requires-clause-known
load_stamp-succ-requires-clause-known g c = c.requires.stands.known

pub load_stamp-succ-requires-clause-object : goal.load_stamp-succ-requires-clause-object
load_stamp-succ-requires-clause-object g c = succ_object c.args.pre.now c.args.p.now.me.0.view c.args.who c.requires.stands c.args.place c.read_at-read.result c.read_at-read.ensures c.requires.task

pub load_stamp-succ-requires-clause-cell : goal.load_stamp-succ-requires-clause-cell
load_stamp-succ-requires-clause-cell g c = succ_cell c.args.pre.now c.args.p.now.me.0.view c.args.who c.requires.stands c.args.place c.read_at-read.result c.read_at-read.ensures c.requires.task

pub load_stamp-succ-requires-clause-ready : goal.load_stamp-succ-requires-clause-ready
load_stamp-succ-requires-clause-ready g c = succ_ready c.args.pre.now c.args.p.now.me.0.view c.args.who c.requires.stands c.args.place c.read_at-read.result c.read_at-read.ensures c.requires.task

pub returns-clause-went : goal.returns-clause-went
returns-clause-went g c =
    succ_went c.args.pre.now c.args.p.now.me.0.view c.args.who c.requires.stands c.args.place c.read_at-read.result c.read_at-read.ensures c.requires.task c.load_stamp-succ.result _ c.load_stamp-succ.ensures.told.told

pub returns-clause-stands : goal.returns-clause-stands
returns-clause-stands g c =
    succ_stands c.args.pre.now c.args.p.now.me.0.view c.args.who c.requires.stands c.args.place c.read_at-read.result c.read_at-read.ensures c.requires.task c.load_stamp-succ.result _ c.load_stamp-succ.ensures.told.told
    _ c.find_succ.ensures

pub returns-clause-passed : goal.returns-clause-passed
returns-clause-passed g c =
    succ_passed c.args.pre.now c.args.p.now.me.0.view c.args.who c.requires.stands c.args.place c.read_at-read.result c.read_at-read.ensures c.requires.task c.load_stamp-succ.result _ c.load_stamp-succ.ensures.told.told

pub returns-clause-loads : goal.returns-clause-loads
returns-clause-loads g c = went_one _ _ _ _ _ _ _ tt c.load_stamp-succ.ensures.booked
