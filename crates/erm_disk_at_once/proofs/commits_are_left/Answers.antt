use Rattle.erm_disk_at_once.proofs.Ends as ends
use Rattle.erm_disk_at_once.proofs.commits_are_left.Goals as goal

pub returns : goal.returns
returns c = ends.commits_are_left c.kept_images_may_open.ensures c.serial_order_is_unique.ensures.unique_for_sessions
    record { meet = c.recovery_meets_the_run.ensures; audit = c.audits_tell_the_commits.ensures; earlier = c.recovery_meets_earlier_blocks.ensures }
