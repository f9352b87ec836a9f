-- A command that its session's phase allows, answered; and what lines keep.
use Rattle.std.specs.Prelude.{◌≡◌, ℕ, Bool, true, false, List}
use Rattle.erm_model.specs.declared.outcome.Phase.{Phase}
use Rattle.erm_model.specs.declared.outcome.Phase.TheVariants.{Active, Idle, Sealed, Pending, Safe}
use Rattle.erm_model.specs.Run.{Step}
use Rattle.erm_report.specs.declared.answer.Answer.{Answer}
use Rattle.erm_script.specs.declared.script.Command.{Command}
use Rattle.erm_world.specs.World.{IsSession, View, phase_at}
use Rattle.erm_maps.specs.Runs.{IsRunOf, kept_at}
use Rattle.erm_good_report.specs.Phases.{IsAnswerTo}
use Rattle.erm_lines.specs.Answers.{DidCommand, DidOfSnapshot}

-- the command was answered, by an answer that it may have, in a session without a snapshot
pub record WasAnswered (v : View) (seat : ℕ) (c : Command) (a : Answer) (t : View) : Type 0 where
  pub fits : IsAnswerTo c a
  pub did : DidCommand v seat c a t

-- and in one with a snapshot
pub record WasWatched (v : View) (seat : ℕ) (c : Command) (a : Answer) (t : View) : Type 0 where
  pub fits : IsAnswerTo c a
  pub did : DidOfSnapshot v seat c a t

-- whether a phase is that of a snapshot
abbrev pub is_snapshot : Phase → Bool
is_snapshot Idle = false
is_snapshot Active = false
is_snapshot Sealed = false
is_snapshot Pending = true
is_snapshot Safe = true

-- each transaction in progress is the run of some operations
abbrev pub AreRunsNow : View → Type 0
AreRunsNow v = (seat : ℕ) → IsSession v seat → phase_at v seat ≡ Active → (steps : List Step) × IsRunOf (kept_at v seat) steps
