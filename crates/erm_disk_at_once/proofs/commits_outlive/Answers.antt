use Rattle.erm_disk_at_once.proofs.Ends as ends
use Rattle.erm_disk_at_once.proofs.commits_outlive.Goals as goal

pub returns : goal.returns
returns c = ends.commits_outlive c.kept_images_may_open.ensures
