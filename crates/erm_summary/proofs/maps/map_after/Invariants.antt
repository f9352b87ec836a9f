use Rattle.std.proofs.Common.{◌≡◌, take}
use Rattle.erm_model.specs.Committed.{state_after}
use Rattle.erm_summary.specs.Told.{history_told}
use Rattle.erm_summary.specs.Summary.{at_places}
use Rattle.erm_summary.proofs.maps.map_after.Given as goal

-- the map after the commits so far
abbrev pub invariant-loop-place : goal.invariant-loop-place
invariant-loop-place l = l.map ≡ state_after (at_places (history_told l.script l.answers l.commits) (take l.place-index l.order)) l.initial.map
