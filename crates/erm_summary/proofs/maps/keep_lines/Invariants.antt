use Rattle.std.proofs.Common.{◌≡◌, take}
use Rattle.erm_model.specs.Staying.{staying_from}
use Rattle.erm_summary.specs.Told.{op_at}
use Rattle.erm_summary.proofs.maps.keep_lines.Given as goal

-- what stays with the lines so far
abbrev pub invariant-loop-place : goal.invariant-loop-place
invariant-loop-place l = l.kept ≡ staying_from (op_at l.script l.answers) (take l.place-index l.places) l.initial.kept
