use Rattle.std.proofs.Common.{◌==◌, length, take}
use Rattle.std.specs.List.{slice_split}
use Rattle.erm_script.specs.Script.{AreScript}
use Rattle.erm_script.proofs.Scripts.{kept_from}
use Rattle.erm_script.proofs.parser.parse.Given as goal

abbrev pub invariant-loop-index : goal.invariant-loop-index
invariant-loop-index l =
    AreScript l.grammar (kept_from 1 (take (length l.yielded) (slice_split (λ b. b == 10) l.bytes))) l.read.sessions l.read.lines.items
