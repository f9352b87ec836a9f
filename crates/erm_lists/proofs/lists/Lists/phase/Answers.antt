use Rattle.std.proofs.Common.{◌≡◌, ◌≤◌, ℕ, ap, leb, ltb, refl, sym, ◌∙◌, arith}
use Rattle.std.proofs.lemmas.Bool.{and_parts, leb-true}
use Rattle.erm_core.specs.Cores.{core_of}
use Rattle.erm_core_view.specs.Views.{stand_of}
use Rattle.erm_core_steps.proofs.Quiet.{session_of_few}
use Rattle.erm_machine.specs.declared.attempt.Attempt.{Attempt}
use Rattle.erm_machine.specs.declared.limits.TheConstants.{SESSIONS}
use Rattle.erm_machine.specs.declared.part.Part.{Part}
use Rattle.erm_machine.specs.declared.place.Place.{Place}
use Rattle.erm_machine.specs.declared.place.Place.TheVariants.{Active, Sealed}
use Rattle.erm_machine.specs.declared.task.Task.{Task}
use Rattle.erm_model.specs.declared.outcome.Phase.{Phase}
use Rattle.erm_model.specs.declared.outcome.Phase.TheVariants as phase
use Rattle.erm_seat.specs.Parts.{part_of}
use Rattle.erm_world.specs.World.{phase_of}
use Rattle.erm_lists.proofs.lists.Lists.phase.Goals as goal

pub seat-state-requires : goal.seat-state-requires
seat-state-requires g c =
    let seat = c.args.seat in
    let session = session_of_few c.args.self.now.sessions seat (core_of c.args.self.now.state) c.requires.stands.quiet c.requires.session.0 c.requires.session.1 in
    let low : seat ≤ SESSIONS = leb-true seat SESSIONS (and_parts (ltb 0 seat) (leb seat SESSIONS) session).1 in
    omega (arith, low)

-- a session that is neither active nor sealed is idle
idle_elsewhere : (pl : Place) (u : Task) (t : Attempt) → ((tail : ℕ) → pl ≡ Active tail → ⊥) → ((tail stamp : ℕ) → pl ≡ Sealed tail stamp → ⊥) → phase.Idle ≡ phase_of (stand_of pl u t)
idle_elsewhere (Active tail) u t active sealed = absurd (active tail refl)
idle_elsewhere (Sealed tail stamp) u t active sealed = absurd (sealed tail stamp refl)
idle_elsewhere _ u t active sealed = refl

abbrev phase_shown : Part → Phase
phase_shown x = phase_of (stand_of x.place x.task x.current)

pub returns-in-Active : goal.returns-in-Active
returns-in-Active g c =
    let x = part_of c.seat-state.result.now in
    c.active_phase.ensures x.current ∙ ap (λ (pl : Place). phase_of (stand_of pl x.task x.current)) (sym c.in-Active.is) ∙ ap phase_shown c.seat-state.ensures

pub returns-in_default : goal.returns-in_default
returns-in_default g c =
    let x = part_of c.seat-state.result.now in
    idle_elsewhere x.place x.task x.current c.in_default.not-Active c.in_default.not-Sealed ∙ ap phase_shown c.seat-state.ensures
