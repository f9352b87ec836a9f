use Rattle.erm_told.proofs.Runs.{phases}
use Rattle.erm_told.proofs.Stamping.{stamps}
use Rattle.erm_told_order.proofs.Ends.{snapshots}
use Rattle.erm_causes.proofs.Ended.{end_causes}
use Rattle.erm_causes.proofs.Shown.{with_cause}
use Rattle.erm_disk_run.proofs.laws.courses_owe_to_answers.Goals as goal

pub returns : goal.returns
returns c = λ v t script answers course closed opening are of.
    let tell = c.executions_tell_sessions.ensures in
    let go = c.executions_go_on.ensures in
    record {
      phases = phases tell go v t script answers course closed opening are of;
      stamps = stamps tell go v t script answers course closed opening are of;
      snapshots = snapshots tell go c.told_worlds_have_snapshots.ensures v t script answers course closed opening are of;
      causes = end_causes c.runs_touch_tables.ensures tell v t script answers course closed opening are of;
      refusals = with_cause c.runs_refuse_for_others.ensures c.full_has_cause.ensures c.end_has_cause.ensures c.runs_tell_log.ensures c.runs_tell_saves.ensures c.stamps_are_in_reach.ensures c.runs_draw_in_reach.ensures v t script answers course closed opening are of;
      safe = c.courses_have_safe_snapshots.ensures v t script answers course closed opening are of;
    }
