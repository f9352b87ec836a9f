-- What a call of a flusher leaves of the world.
use Rattle.std.proofs.Common.{◌≡◌, ℕ, sym, ap, ◌∙◌, subst}
use Rattle.erm_core.specs.Cores.{core_of}
use Rattle.erm_core_steps.proofs.Lasting.{sessions_kept}
use Rattle.erm_core_turns.specs.Turns.{Flushes, log_of}
use Rattle.erm_core_view.specs.Views.{IsQuiet, view_of}
use Rattle.erm_model.specs.RowTransaction.{Law}
use Rattle.erm_lists.specs.declared.lists.Lists.{Lists}
use Rattle.erm_lists.specs.Logs.{KeepsSessions, lists_log}
use Rattle.erm_lists.specs.Stands.{Stands, lists_view}
use Rattle.erm_world.specs.Log.{Log}
use Rattle.erm_world.specs.Whole as whole

pub turned_keeps : {L : Type 0} (law : Law) (p q : Lists L) → q.sessions ≡ p.sessions → IsQuiet p.sessions (core_of p.state) → Flushes (core_of p.state) (core_of q.state)
    → Stands law q → KeepsSessions law p q
turned_keeps law p q same quiet stays stands = record {
  stands = λ _. stands;
  sessions =
      subst (λ (n : ℕ). whole.KeepsSessions (lists_view p) (view_of n (core_of q.state))) (sym same)
      (sessions_kept p.sessions (core_of p.state) (core_of q.state) quiet stays);
}

pub turned_log : {L : Type 0} (p q : Lists L) (log : Log) → q.sessions ≡ p.sessions → log_of p.sessions (core_of q.state) ≡ log → lists_log q ≡ log
turned_log p q log same is = ap (λ (n : ℕ). log_of n (core_of q.state)) same ∙ is
