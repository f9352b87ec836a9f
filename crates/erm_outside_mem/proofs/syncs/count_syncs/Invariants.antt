use Rattle.std.proofs.Common.{◌≡◌, ◌+◌, drop}
use Rattle.std.specs.BTreeMap.{get}
use Rattle.std.specs.Map.{count_at}
use Rattle.erm_outside.specs.declared.disk.File.{File}
use Rattle.erm_outside.specs.contracts.disk.FileOrd.TheImpl as file_order
use Rattle.erm_outside_mem.specs.Syncs.{syncs_in}
use Rattle.erm_outside_mem.proofs.syncs.count_syncs.Given as goal

-- with those of the notes that are left, each file's count is that of all
abbrev pub invariant-loop-note : goal.invariant-loop-note
invariant-loop-note l = (file : File) → count_at (get file_order.ghosts.cmp l.counts) file + syncs_in file (drop l.note-index l.done) ≡ syncs_in file l.done
