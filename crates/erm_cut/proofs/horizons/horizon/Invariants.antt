use Rattle.erm_rule.specs.Steps.{Fits}
use Rattle.erm_cut.specs.Calls.{HasLoaded}
use Rattle.erm_cut.proofs.horizons.horizon.Given as goal
use Rattle.erm_cut.specs.Took.{TookHorizon}

abbrev pub invariant-loop-seat : goal.invariant-loop-seat
invariant-loop-seat g l = record { fits : Fits l.t.words.shared.table_id l.p; loaded : HasLoaded l.fn.p.me.0.view l.who l.seat l.least l.p.me.0.view; took : TookHorizon g.L.RowLaw.law l.who l.seat l.least l.fn.p.me.0 l.p.me.0 }
