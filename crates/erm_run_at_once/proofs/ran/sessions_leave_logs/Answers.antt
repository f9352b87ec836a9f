use Rattle.erm_model.specs.declared.limits.TheConstants.{SESSIONS}
use Rattle.erm_run_at_once.proofs.Logs.{leaves_log}
use Rattle.erm_run_at_once.proofs.ran.sessions_leave_logs.Goals as goal

pub returns : goal.returns
returns c o began faults d parts works desk ran =
    leaves_log c.closed_tables_have_logs.ensures.log (λ core under quiet. c.ranges_of_closed_tables_stand_apart.ensures SESSIONS core under quiet) o d.book ran.tail ran.core desk.blocks desk.tried
    ran.closed desk.knows_all desk.flushed
