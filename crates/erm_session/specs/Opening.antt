-- A session beside its pass.
use Rattle.std.specs.Prelude.{◌≡◌}
use Rattle.erm_model.specs.declared.outcome.Phase.{Phase}
use Rattle.erm_rule.specs.declared.view.View.{View}
use Rattle.erm_rule.specs.Views.{part_of}
use Rattle.erm_session.specs.declared.session.Session.{Session}
use Rattle.erm_session.specs.Session.{IsSession, phase_of}

-- the session stands as its seat does in this view, and is in this phase
abbrev pub StandsAt : Session → View → Phase → Type 0
StandsAt s v phase = IsSession s (part_of v s.seat) × (phase_of s.stage ≡ phase)
