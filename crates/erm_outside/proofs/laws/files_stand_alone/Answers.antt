use Rattle.erm_outside.specs.Disk.{changes_of}
use Rattle.erm_outside.proofs.Images.{images_of_older, mixed}
use Rattle.erm_outside.proofs.laws.files_stand_alone.Goals as goal

pub returns : goal.returns
returns c = record {
  older = λ more steps image file none is. images_of_older file more steps (image file) none (is file);
  mixed = λ steps one other test is_one is_other file. mixed (test file) (changes_of file steps) (one file) (other file) (is_one file) (is_other file);
}
