-- The lines of one session.
use Rattle.std.specs.Prelude.{◌≡◌, ℕ, List}
use Rattle.erm_model.specs.Member.{◌∈◌}
use Rattle.erm_script.specs.declared.script.ScriptLine.{ScriptLine}
use Rattle.erm_worker.specs.Work.{MayBeAsked}

-- a line of the session
pub record IsOf (seat : ℕ) (l : ScriptLine) : Type 0 where
  pub session : l.session ≡ seat
  pub may : MayBeAsked l.command

abbrev pub AreOf : ℕ → List ScriptLine → Type 0
AreOf seat lines = (l : ScriptLine) → l ∈ lines → IsOf seat l
