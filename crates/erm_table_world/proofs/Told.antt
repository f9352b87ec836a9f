-- The savepoints of a session, where a view shows its part of a table: its transaction has still what it had claimed at them.
use Rattle.std.proofs.Common.{◌≡◌, ◌≤◌, Bool, List, [], length, map, refl, sym, ap, ◌∙◌, subst}
use Rattle.std.specs.List.{slice_get}
use Rattle.std.specs.Prelude.{◌==◌, if◌then◌else◌}
use Rattle.std.proofs.lemmas.Bool.{eq-eqb}
use Rattle.erm_core_view.specs.Views.{session_of, work_of}
use Rattle.erm_core_view.proofs.Shown.{shows_work}
use Rattle.erm_core_view.proofs.Snapshots.{starts_plain}
use Rattle.erm_machine.specs.declared.part.Part.{Part}
use Rattle.erm_machine.specs.Decided.{written_of}
use Rattle.erm_model.specs.declared.history.VersionWritten.{VersionWritten}
use Rattle.erm_model.specs.declared.limits.TheConstants.{SAVES}
use Rattle.erm_model.specs.declared.outcome.Phase.TheVariants as phase
use Rattle.erm_session.specs.declared.session.Session.{Session}
use Rattle.erm_session.specs.Saves.{saves_of}
use Rattle.erm_session.specs.Session.{IsSession, phase_of}
use Rattle.erm_session.proofs.Backs.{has_active, seat_active, seat_starts}
use Rattle.erm_session.proofs.Shown.{shown_claimed, shown_few}
use Rattle.erm_world.specs.Saves.{AreSavesOf, HasClaimed}
use Rattle.erm_world.specs.World.{View, Work, phase_at, work_at}
use Rattle.erm_world.specs.World as world
use Rattle.erm_table_world.proofs.Sessions.{anew_starts, phase_shown}

module _ (s : Session) (x : Part) (is : IsSession s x) (v : View) (shown : v.session s.seat ≡ session_of x) (active : phase_at v s.seat ≡ phase.Active) where
  on : phase_of s.stage ≡ phase.Active
  on = phase_shown s.stage x is.kept.stage ∙ sym (ap (λ (r : world.Session). world.phase_of r.stand) shown) ∙ active

  pub work_told : work_at v s.seat ≡ work_of x.current
  work_told =
      ap (λ (r : world.Session). world.work_of r.stand)
      (shown ∙ (shows_work x (work_of x.current) x refl (seat_active s x is on) (starts_plain x.task (anew_starts x.task (seat_starts s x is on))) refl).shows)

  pub claims_told : (work_at v s.seat).claims ≡ map written_of x.current.writes
  claims_told = ap (λ (w : Work). w.claims) work_told

  -- they are told at its seat
  here : (if s.seat == s.seat then saves_of s x else []) ≡ saves_of s x
  here = ap (λ (b : Bool). if b then saves_of s x else []) (eq-eqb s.seat s.seat refl)

  pub told_claimed : AreSavesOf (work_at v s.seat) (if s.seat == s.seat then saves_of s x else [])
  told_claimed j saved at =
      subst (λ (cs : List VersionWritten). HasClaimed saved cs) (sym claims_told)
      (shown_claimed s.stage s.saves.points x j saved (ap (λ (l : List (List VersionWritten)). slice_get l j) (sym here) ∙ at))

  pub told_few : length (if s.seat == s.seat then saves_of s x else []) ≤ SAVES
  told_few =
      subst (λ (l : List (List VersionWritten)). length l ≤ SAVES) (sym here)
      (shown_few s.stage s.saves.points x on (has_active s.stage s.saves x on is.saves).few)
