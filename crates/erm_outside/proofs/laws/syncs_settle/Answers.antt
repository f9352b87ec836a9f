use Rattle.erm_outside.specs.Disk.{changes_of}
use Rattle.erm_outside.specs.Disk.Change.{Synced}
use Rattle.erm_outside.proofs.Images.{changes-same, synced_is_settled}
use Rattle.erm_outside.proofs.laws.syncs_settle.Goals as goal

pub returns : goal.returns
returns c = record {
  one = λ steps file. rw (changes-same file Synced steps) (λ left may. may);
  all = λ steps synced file. synced_is_settled (changes_of file steps) (synced file);
  image = λ steps image settled is file. settled file (image file) (is file);
}
