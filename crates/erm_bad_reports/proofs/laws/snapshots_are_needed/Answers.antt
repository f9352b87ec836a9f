use Rattle.erm_bad_reports.proofs.OfSafeBegins.{fall_breaks, flushed_breaks}
use Rattle.erm_bad_reports.proofs.OfSnapshots.{at_commit_breaks, early_breaks, idle_breaks, look_breaks, moves_breaks, now_breaks, safe_far_breaks, safe_stop_breaks, turn_breaks}
use Rattle.erm_bad_reports.proofs.OfWentBack.{again_breaks, back_breaks}
use Rattle.erm_bad_reports.proofs.laws.snapshots_are_needed.Goals as goal

pub returns-clause-looks : goal.returns-clause-looks
returns-clause-looks c = look_breaks

pub returns-clause-idle : goal.returns-clause-idle
returns-clause-idle c = idle_breaks

pub returns-clause-reach : goal.returns-clause-reach
returns-clause-reach c = safe_far_breaks

pub returns-clause-stop : goal.returns-clause-stop
returns-clause-stop c = safe_stop_breaks

pub returns-clause-commit : goal.returns-clause-commit
returns-clause-commit c = at_commit_breaks

pub returns-clause-replies : goal.returns-clause-replies
returns-clause-replies c = now_breaks

pub returns-clause-turn : goal.returns-clause-turn
returns-clause-turn c = turn_breaks

pub returns-clause-early : goal.returns-clause-early
returns-clause-early c = early_breaks

pub returns-clause-moves : goal.returns-clause-moves
returns-clause-moves c = moves_breaks

pub returns-clause-back : goal.returns-clause-back
returns-clause-back c = back_breaks

pub returns-clause-again : goal.returns-clause-again
returns-clause-again c = again_breaks

pub returns-clause-fall : goal.returns-clause-fall
returns-clause-fall c = fall_breaks

pub returns-clause-flushed : goal.returns-clause-flushed
returns-clause-flushed c = flushed_breaks
