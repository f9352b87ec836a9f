use Rattle.std.proofs.Common.{◌≡◌, take}
use Rattle.std.specs.List.{filter_map}
use Rattle.erm_model.specs.Run.{change_all}
use Rattle.erm_summary.specs.Told.{op_at}
use Rattle.erm_summary.proofs.maps.write_kept.Given as goal

-- the map after the lines so far
abbrev pub invariant-loop-place : goal.invariant-loop-place
invariant-loop-place l = l.map ≡ change_all (filter_map (op_at l.script l.answers) (take l.place-index l.places)) l.initial.map
