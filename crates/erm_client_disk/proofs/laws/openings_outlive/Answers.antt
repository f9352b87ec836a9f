use Rattle.erm_client_disk.proofs.Unrun.{unrun}
use Rattle.erm_client_disk.proofs.laws.openings_outlive.Goals as goal

pub returns : goal.returns
returns c = unrun c.kept_images_may_open.ensures
