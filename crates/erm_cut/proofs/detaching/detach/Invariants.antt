use Rattle.std.proofs.Common.{◌-◌}
use Rattle.erm_model.specs.declared.limits.TheConstants.{TABLE_CELLS}
use Rattle.erm_rule.specs.Steps.{Fits}
use Rattle.erm_cut.proofs.OffChain.{IsDetaching}
use Rattle.erm_cut.proofs.detaching.detach.Given as goal
use Rattle.erm_cut.proofs.Swaps.{HasSwapTaken}

abbrev pub invariant-loop-link : goal.invariant-loop-link
invariant-loop-link g l = record { fits : Fits l.t.words.shared.table_id l.p; walk : IsDetaching l.fn.p.me.0.view l.who l.link l.count l.spare l.p.me.0.view; took : HasSwapTaken g.L.RowLaw.law l.who l.fn.p.me.0 l.p.me.0 }

abbrev pub decreases-loop-link : goal.decreases-loop-link
decreases-loop-link g l = TABLE_CELLS - l.count
