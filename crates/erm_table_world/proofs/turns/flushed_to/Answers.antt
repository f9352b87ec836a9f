use Rattle.erm_table_world.proofs.TurnClears.{flushed, may_clear}
use Rattle.erm_table_world.proofs.turns.flushed_to.Goals as goal

pub clear-requires-clause-may : goal.clear-requires-clause-may
clear-requires-clause-may g c =
    let stands = c.requires.stands in
    may_clear g.L.RowLaw.law c.blocks_are_a_log_list.ensures stands.0 c.args.p.now.me.0 c.args.p.now.me.0 stands.1 c.args.end c.requires.end c.requires.above

pub returns-clause-turned : goal.returns-clause-turned
returns-clause-turned g c sessions at =
    (flushed g.L.RowLaw.law c.blocks_are_a_log_list.ensures sessions c.args.p.now.me.0 c.clear.new.p.me.0 at c.args.end c.requires.end c.requires.above c.clear.ensures.took).turned

pub returns-clause-task : goal.returns-clause-task
returns-clause-task g c =
    let stands = c.requires.stands in
    (flushed g.L.RowLaw.law c.blocks_are_a_log_list.ensures stands.0 c.args.p.now.me.0 c.clear.new.p.me.0 stands.1 c.args.end c.requires.end c.requires.above c.clear.ensures.took).task

pub returns-clause-flushed : goal.returns-clause-flushed
returns-clause-flushed g c sessions at =
    (flushed g.L.RowLaw.law c.blocks_are_a_log_list.ensures sessions c.args.p.now.me.0 c.clear.new.p.me.0 at c.args.end c.requires.end c.requires.above c.clear.ensures.took).log_is
