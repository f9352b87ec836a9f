use Rattle.erm_good_report.specs.Opening.{InTurn}
use Rattle.erm_good_report.specs.Refusals.{HasCauses}
use Rattle.erm_told.proofs.Courses.{of_runs}
use Rattle.erm_causes.proofs.Shown.{with_cause}
use Rattle.erm_causes.proofs.runs_refuse_with_cause.Goals as goal

pub returns : goal.returns
returns c = of_runs (λ opening script answers closed told. HasCauses InTurn opening script answers told)
    (with_cause c.runs_refuse_for_others.ensures c.full_has_cause.ensures c.end_has_cause.ensures c.runs_tell_log.ensures c.runs_tell_saves.ensures c.stamps_are_in_reach.ensures c.runs_draw_in_reach.ensures)
