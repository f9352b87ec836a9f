use Rattle.erm_crash_invariant.proofs.Fronts.{keeps}
use Rattle.erm_crash_invariant.proofs.crashes_keep_invariants.Goals as goal

pub returns : goal.returns
returns g c invariant v t script answers course closed opening closes of log log_of is holds keep place old new each =
    keeps (g.I.Invariant.holds invariant) log (c.logs_keep_invariants.ensures invariant v t script answers course closed opening closes of log log_of is holds keep) place old new each
