use Rattle.erm_model.specs.declared.outcome.Phase.TheVariants as phase
use Rattle.erm_ring.specs.Turns.{MayGather}
use Rattle.erm_rule.specs.Steps.{Fits}
use Rattle.erm_rule.specs.Views.{view}
use Rattle.erm_session.specs.Opening.{StandsAt}
use Rattle.erm_session_bench.proofs.transactions.commit_all.Given as goal

-- the session stands between two transactions, and the flush seat between two turns
abbrev pub invariant-loop-committed : goal.invariant-loop-committed
invariant-loop-committed l =
    Fits l.t.words.shared.table_id l.pass × StandsAt l.session (view l.pass) phase.Idle × Fits l.t.words.shared.table_id l.rest × MayGather (view l.rest)
