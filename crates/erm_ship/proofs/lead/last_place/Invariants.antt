use Rattle.std.proofs.Common.{◌-◌}
use Rattle.erm_ship.specs.Leads.{Going}
use Rattle.erm_ship.proofs.lead.last_place.Given as goal

-- blocks lead up to here
abbrev pub invariant-loop-next : goal.invariant-loop-next
invariant-loop-next l = Going l.words l.start l.end l.place

abbrev pub decreases-loop-next : goal.decreases-loop-next
decreases-loop-next l = l.end - l.place.at
