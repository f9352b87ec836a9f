use Rattle.erm_outside.specs.Disk.{changes_of}
use Rattle.erm_outside.proofs.Images.{reads_may_be}
use Rattle.erm_outside.proofs.laws.reads_are_an_image.Goals as goal

pub returns : goal.returns
returns c = λ steps file. reads_may_be (changes_of file steps)
