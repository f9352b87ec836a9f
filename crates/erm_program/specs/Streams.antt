-- How the program ends on standard input and standard output.
use Rattle.std.specs.Prelude.{◌≡◌, ℕ, List, Option, None, String}
use Rattle.std.specs.declared.alloc.Global.{Global}
use Rattle.erm_outside.specs.Disk.{Step}
use Rattle.erm_top.specs.Around.{Around}
use Rattle.erm_top.specs.Outcomes.{Ends}

-- The program ends so by its words, its status and what its disk told before. Standard input and output tell nothing of the bytes that they held and got,
-- and they had not failed before; how often they or the disk failed is said by nobody.
pub record EndsOnStreams (words : List (String Global)) (status : ℕ) (told : Option (List Step)) (faults : ℕ) : Type 0 where
  pub around : Around
  pub left : around.left_before ≡ None
  pub source : around.source_before ≡ 0
  pub written : around.written_before ≡ None
  pub sink : around.sink_before ≡ 0
  pub disk : around.told_before ≡ told
  pub disk_faults : around.disk_before ≡ faults
  pub ends : Ends words status around
