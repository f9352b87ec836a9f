-- Sessions of a world whose transactions are runs of tree calls.
use Rattle.std.specs.Prelude.{◌≡◌, ℕ, List, [], ◌∷◌, ◌++◌}
use Rattle.erm_model.specs.declared.operation.Op.{Op}
use Rattle.erm_model.specs.declared.operation.Reply.{Reply}
use Rattle.erm_model.specs.declared.outcome.Phase.TheVariants.{Active}
use Rattle.erm_model.specs.RowTransaction.{Face}
use Rattle.erm_model.specs.Run.{Step}
use Rattle.erm_tree.specs.Operations.{AreCalled, Call, answered_steps}
use Rattle.erm_world.specs.World.{IsSession, View, phase_at}
use Rattle.erm_maps.specs.Runs.{IsRunOf, kept_at}

-- each transaction in progress is the run of some operations
abbrev pub AllRun : View → Type 0
AllRun v = (seat : ℕ) → IsSession v seat → phase_at v seat ≡ Active → (steps : List Step) × IsRunOf (kept_at v seat) steps

-- some tree calls in turn, of which these operations were answered, lead from one state to the other
abbrev pub Leads : {S : Type 0} → Face S → S → List Step → S → Type 0
Leads {S} face s steps t = (calls : List Call) × AreCalled face s calls t × (answered_steps calls ≡ steps)

-- whatever operations the session's transaction was the run of, it is the run of these and of some more
abbrev pub RunsOn : View → ℕ → List Step → View → Type 0
RunsOn v seat more t = (steps : List Step) → IsRunOf (kept_at v seat) steps → IsRunOf (kept_at t seat) (steps ++ more)

-- The reply is that of the operation: the session's transaction goes on, and is the run of one operation more, answered so.
abbrev pub IsReplyTo : View → ℕ → Op → Reply → View → Type 0
IsReplyTo v seat op reply t = (phase_at t seat ≡ Active) × RunsOn v seat (record { op = op; reply = reply } ∷ []) t

-- Where a refusal doesn't end the session's transaction, it is the run of the operations answered before.
pub record KeepsRun (v : View) (seat : ℕ) (t : View) : Type 0 where
  pub kept : phase_at t seat ≡ Active → RunsOn v seat [] t
