use Rattle.std.proofs.Common.{Err, refl}
use Rattle.erm_top.specs.Running.{running_at_once}
use Rattle.erm_top.proofs.Ran.{ran_ends, unread_ends}
use Rattle.erm_top.proofs.threads.threads.Goals as goal

pub run_at_once-answered-requires-clause-spelled : goal.run_at_once-answered-requires-clause-spelled
run_at_once-answered-requires-clause-spelled g c κs within = (c.in-Ok.ensures.script.0, rw c.threads_grammar.ensures at c.in-Ok.ensures.script.2)

pub returns-in-Ok : goal.returns-in-Ok
returns-in-Ok g c =
    let is = rw c.threads_grammar.ensures at c.in-Ok.ensures.script.2 in
    ran_ends c.one_recovery.ensures running_at_once c.put_told-status.result _ c.read_script.ensures.taken c.run_at_once-answered.result.told c.in-Ok.ensures.script.0 c.in-Ok.script.names.items c.in-Ok.script.lines.items
    c.in-Ok.ensures.script.1 is c.run_at_once-answered.ensures c.put_told-status.ensures c.in-Ok.ensures.sound

pub returns-in-Err : goal.returns-in-Err
returns-in-Err g c =
    let unread = rw c.threads_grammar.ensures at c.in-Err.ensures.stop in
    unread_ends c.one_recovery.ensures running_at_once c.put_told-status-in-Err.result _ c.read_script.ensures.taken (Err c.in-Err.stop) unread c.put_told-status-in-Err.ensures refl refl
