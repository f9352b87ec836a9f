use Rattle.std.proofs.Common.{ap, is_some}
use Rattle.erm_rule.specs.Went.{core_of}
use Rattle.erm_table_world.proofs.TurnPins.{begin_in_view, begins_at, pin_in_view}
use Rattle.erm_table_world.proofs.TurnRows.{log_kept, looks, newest_place, row_at, unwaited, wait_told, waited}
use Rattle.erm_table_world.proofs.turns.row_at.Goals as goal

pub row_at-requires-clause-pinned : goal.row_at-requires-clause-pinned
row_at-requires-clause-pinned g c =
    let stands = c.requires.stands in
    pin_in_view g.L.RowLaw.law stands.0 c.args.p.now.me.0 c.args.p.now.me.0 stands.1 (ap is_some c.requires.pinned)

pub row_at-requires-clause-place : goal.row_at-requires-clause-place
row_at-requires-clause-place g c = begin_in_view g.L.RowLaw.law c.args.p.now.me.0 c.args.place c.requires.stands.1.state c.requires.pinned

pub returns-in-Ok-clause-turned : goal.returns-in-Ok-clause-turned
returns-in-Ok-clause-turned g c sessions at = looks g.L.RowLaw.law sessions c.args.p.now.me.0 at c.row_at.new.p.me.0 (ap is_some c.requires.pinned) c.in-Ok.ensures.loads c.in-Ok.ensures.looked

pub returns-in-Ok-clause-same : goal.returns-in-Ok-clause-same
returns-in-Ok-clause-same g c sessions at = log_kept g.L.RowLaw.law sessions c.args.p.now.me.0 at c.row_at.new.p.me.0 (ap is_some c.requires.pinned) c.in-Ok.ensures.loads c.in-Ok.ensures.looked

pub returns-in-Ok-clause-row : goal.returns-in-Ok-clause-row
returns-in-Ok-clause-row g c sessions at =
    let turned = looks g.L.RowLaw.law sessions c.args.p.now.me.0 at c.row_at.new.p.me.0 (ap is_some c.requires.pinned) c.in-Ok.ensures.loads c.in-Ok.ensures.looked in
    row_at g.L.RowLaw.law sessions c.args.p.now.me.0 at c.row_at.new.p.me.0 (ap is_some c.requires.pinned) c.in-Ok.ensures.loads c.in-Ok.ensures.looked c.args.oid c.args.place c.in-Ok.row
    c.in-Ok.ensures.row c.blocks_are_a_log_list.ensures c.logs_go_on.ensures.more (c.views_are_serializable.ensures sessions (core_of c.row_at.new.p.me.0) turned.at.state.sound turned.at.quiet)

pub returns-in-Ok-clause-newest : goal.returns-in-Ok-clause-newest
returns-in-Ok-clause-newest g c sessions at =
    let turned = looks g.L.RowLaw.law sessions c.args.p.now.me.0 at c.row_at.new.p.me.0 (ap is_some c.requires.pinned) c.in-Ok.ensures.loads c.in-Ok.ensures.looked in
    newest_place g.L.RowLaw.law sessions c.args.p.now.me.0 at c.row_at.new.p.me.0 (ap is_some c.requires.pinned) c.in-Ok.ensures.loads c.in-Ok.ensures.looked c.args.oid c.args.place c.in-Ok.row
    c.in-Ok.ensures.row c.blocks_are_a_log_list.ensures c.logs_go_on.ensures.more (c.views_are_serializable.ensures sessions (core_of c.row_at.new.p.me.0) turned.at.state.sound turned.at.quiet)
    c.args.place c.requires.pinned

pub returns-in-Ok-clause-clear : goal.returns-in-Ok-clause-clear
returns-in-Ok-clause-clear g c sessions at =
    unwaited g.L.RowLaw.law sessions c.args.p.now.me.0 at c.blocks_are_a_log_list.ensures c.logs_go_on.ensures.more
    (c.views_are_serializable.ensures sessions (core_of c.args.p.now.me.0) at.state.sound at.quiet) (ap is_some c.requires.pinned) c.args.oid c.requires.object c.args.place
    c.in-Ok.ensures.row.entry c.in-Ok.ensures.row.entered (begins_at c.args.p.now.me.0 c.args.place c.requires.pinned) c.in-Ok.ensures.row.reach

pub returns-in-Err-clause-turned : goal.returns-in-Err-clause-turned
returns-in-Err-clause-turned g c sessions at = looks g.L.RowLaw.law sessions c.args.p.now.me.0 at c.row_at.new.p.me.0 (ap is_some c.requires.pinned) c.in-Err.ensures.loads c.in-Err.ensures.looked

pub returns-in-Err-clause-same : goal.returns-in-Err-clause-same
returns-in-Err-clause-same g c sessions at = log_kept g.L.RowLaw.law sessions c.args.p.now.me.0 at c.row_at.new.p.me.0 (ap is_some c.requires.pinned) c.in-Err.ensures.loads c.in-Err.ensures.looked

pub returns-in-Err-clause-wait : goal.returns-in-Err-clause-wait
returns-in-Err-clause-wait g c sessions at =
    wait_told _ c.args.oid c.wait_of.result c.in-Err.wait.seat c.in-Err.wait.seen c.wait_of.ensures.seat c.wait_of.ensures.seen
    (waited g.L.RowLaw.law sessions c.args.p.now.me.0 at c.blocks_are_a_log_list.ensures c.logs_go_on.ensures.more
    (c.views_are_serializable.ensures sessions (core_of c.args.p.now.me.0) at.state.sound at.quiet) (ap is_some c.requires.pinned) c.args.oid c.requires.object c.args.place
    c.in-Err.wait c.row_at.new.p.me.0 (begins_at c.args.p.now.me.0 c.args.place c.requires.pinned) c.in-Err.ensures.wait)
