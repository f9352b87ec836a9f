use Rattle.std.proofs.Common.{subst}
use Rattle.erm_disk_run.specs.declared.stops.DiskStop.{DiskStop}
use Rattle.erm_disk_run.specs.Stops.{CountsStop, StopsFor, StopsRun}
use Rattle.erm_top.proofs.Stopping.{not_saved, tells_log_end, tells_runs_end}
use Rattle.erm_top.proofs.texts.not_opened.Goals as goal

pub returns-in-RunsEnd-clause-run : goal.returns-in-RunsEnd-clause-run
returns-in-RunsEnd-clause-run c = λ before after faults now stops counts.
    tells_runs_end c.at_end.result before after faults now (subst (λ (s : DiskStop). CountsStop s faults now) c.in-RunsEnd.is counts) _ c.at_end.ensures
    (subst (λ (s : DiskStop). StopsRun s before after) c.in-RunsEnd.is stops)

pub returns-in-RunsEnd-clause-checkpoint : goal.returns-in-RunsEnd-clause-checkpoint
returns-in-RunsEnd-clause-checkpoint c = λ before after faults now stops counts.
    not_saved c.at_end.result before after faults now
    (tells_runs_end c.at_end.result before after faults now (subst (λ (s : DiskStop). CountsStop s faults now) c.in-RunsEnd.is counts) _ c.at_end.ensures
    (subst (λ (s : DiskStop). StopsFor s before after) c.in-RunsEnd.is stops))

pub returns-in-LogEnd-clause-run : goal.returns-in-LogEnd-clause-run
returns-in-LogEnd-clause-run c = λ before after faults now stops counts.
    tells_log_end c.at_end-in-LogEnd.result before after faults now (subst (λ (s : DiskStop). CountsStop s faults now) c.in-LogEnd.is counts) c.in-LogEnd.tail c.at_end-in-LogEnd.ensures
    (subst (λ (s : DiskStop). StopsRun s before after) c.in-LogEnd.is stops)

pub returns-in-LogEnd-clause-checkpoint : goal.returns-in-LogEnd-clause-checkpoint
returns-in-LogEnd-clause-checkpoint c = λ before after faults now stops counts.
    not_saved c.at_end-in-LogEnd.result before after faults now
    (tells_log_end c.at_end-in-LogEnd.result before after faults now (subst (λ (s : DiskStop). CountsStop s faults now) c.in-LogEnd.is counts) c.in-LogEnd.tail c.at_end-in-LogEnd.ensures
    (subst (λ (s : DiskStop). StopsFor s before after) c.in-LogEnd.is stops))
