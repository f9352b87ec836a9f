use Rattle.erm_table_world.proofs.TurnGathers.{gathers, may_gather}
use Rattle.erm_table_world.proofs.turns.gather.Goals as goal

pub gather-requires-clause-may : goal.gather-requires-clause-may
gather-requires-clause-may g c = may_gather g.L.RowLaw.law c.requires.stands.0 c.args.p.now.me.0 c.requires.stands.1

pub returns-clause-turned : goal.returns-clause-turned
returns-clause-turned g c sessions at =
    (gathers g.L.RowLaw.law sessions c.args.p.now.me.0 c.gather.new.p.me.0 at c.gather.new.words c.gather.ensures.room c.blocks_are_a_log_list.ensures c.logs_go_on.ensures.more c.gather.result
    c.gather.ensures.took c.gather.ensures.gathers).turned

pub returns-clause-task : goal.returns-clause-task
returns-clause-task g c =
    let stands = c.requires.stands in
    (gathers g.L.RowLaw.law stands.0 c.args.p.now.me.0 c.gather.new.p.me.0 stands.1 c.gather.new.words c.gather.ensures.room c.blocks_are_a_log_list.ensures c.logs_go_on.ensures.more c.gather.result
    c.gather.ensures.took c.gather.ensures.gathers).task

pub returns-clause-gathers : goal.returns-clause-gathers
returns-clause-gathers g c sessions at =
    (gathers g.L.RowLaw.law sessions c.args.p.now.me.0 c.gather.new.p.me.0 at c.gather.new.words c.gather.ensures.room c.blocks_are_a_log_list.ensures c.logs_go_on.ensures.more c.gather.result
    c.gather.ensures.took c.gather.ensures.gathers).gathers
