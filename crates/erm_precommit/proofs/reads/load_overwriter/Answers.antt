use Rattle.std.proofs.Common.{sym, ◌∙◌}
use Rattle.erm_precommit.proofs.Read.{clear_object, clear_cell, clear_ready, clear_went, clear_stands, clear_counts, clear_passed}
use Rattle.erm_precommit.proofs.Standing.{held}
use Rattle.erm_precommit.proofs.reads.load_overwriter.Goals as goal
use Rattle.erm_rule.proofs.Wents.{went_one}

pub load_stamp-overwriter-requires-clause-held : goal.load_stamp-overwriter-requires-clause-held
load_stamp-overwriter-requires-clause-held g c = held c.args.p.now.me.0.view c.args.who c.requires.stands.sealed

pub load_stamp-overwriter-requires-clause-known : goal.load_stamp-overwriter-requires-clause-known
load_stamp-overwriter-requires-clause-known g c = c.requires.stands.known

pub load_stamp-overwriter-requires-clause-object : goal.load_stamp-overwriter-requires-clause-object
load_stamp-overwriter-requires-clause-object g c = clear_object c.args.pre.now c.args.p.now.me.0.view c.args.who c.requires.stands c.args.place c.read_at-read.result c.read_at-read.ensures c.requires.task

pub load_stamp-overwriter-requires-clause-cell : goal.load_stamp-overwriter-requires-clause-cell
load_stamp-overwriter-requires-clause-cell g c = clear_cell c.args.pre.now c.args.p.now.me.0.view c.args.who c.requires.stands c.args.place c.read_at-read.result c.read_at-read.ensures c.requires.task

pub load_stamp-overwriter-requires-clause-ready : goal.load_stamp-overwriter-requires-clause-ready
load_stamp-overwriter-requires-clause-ready g c = clear_ready c.args.pre.now c.args.p.now.me.0.view c.args.who c.requires.stands c.args.place c.read_at-read.result c.read_at-read.ensures c.requires.task

pub returns-clause-went : goal.returns-clause-went
returns-clause-went g c =
    clear_went c.args.pre.now c.args.p.now.me.0.view c.args.who c.requires.stands c.args.place c.read_at-read.result c.read_at-read.ensures c.requires.task c.load_stamp-overwriter.result _ c.load_stamp-overwriter.ensures.told.told

pub returns-clause-stands : goal.returns-clause-stands
returns-clause-stands g c =
    clear_stands c.args.pre.now c.args.p.now.me.0.view c.args.who c.requires.stands c.args.place c.read_at-read.result c.read_at-read.ensures c.requires.task c.load_stamp-overwriter.result _ c.load_stamp-overwriter.ensures.told.told

pub returns-clause-counts : goal.returns-clause-counts
returns-clause-counts g c e =
    clear_counts c.args.pre.now c.args.p.now.me.0.view c.args.who c.requires.stands c.args.place c.read_at-read.result c.read_at-read.ensures c.requires.task c.load_stamp-overwriter.result _ c.load_stamp-overwriter.ensures.told.told (sym c.counts.ensures ∙ e)

pub returns-clause-none : goal.returns-clause-none
returns-clause-none g c e =
    clear_passed c.args.pre.now c.args.p.now.me.0.view c.args.who c.requires.stands c.args.place c.read_at-read.result c.read_at-read.ensures c.requires.task c.load_stamp-overwriter.result _ c.load_stamp-overwriter.ensures.told.told (sym c.counts.ensures ∙ e)

pub returns-clause-loads : goal.returns-clause-loads
returns-clause-loads g c = went_one _ _ _ _ _ _ _ tt c.load_stamp-overwriter.ensures.booked
