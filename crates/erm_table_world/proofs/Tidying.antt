-- A tidy: the chain of an object that is claimed already is cut once more, or the object is claimed.
use Rattle.std.proofs.Common.{◌≡◌, ⊎_elim, ℕ, ◌<◌, true, false, refl, ap, ◌∙◌, subst}
use Rattle.erm_model.specs.declared.outcome.Phase.TheVariants as phase
use Rattle.erm_model.specs.RowTransaction.{Law}
use Rattle.erm_machine.specs.declared.event.Kind.TheVariants as kind
use Rattle.erm_machine.specs.declared.limits.TheConstants.{OBJECT_LIMIT}
use Rattle.erm_machine.specs.declared.part.Part.{Part}
use Rattle.erm_machine.specs.declared.task.Task.TheVariants as task
use Rattle.erm_machine.specs.Core.{no_claim}
use Rattle.erm_machine.specs.Words.{is_seat, owner_of}
use Rattle.erm_machine.proofs.Holders.{holds_at}
use Rattle.erm_core_view.specs.Views.{session_of, view_of}
use Rattle.erm_core_view.proofs.Calm.{plain_if, plainly}
use Rattle.erm_core_view.proofs.Snapshots.{starts_plain}
use Rattle.erm_core_steps.specs.Claiming.{is_cleared}
use Rattle.erm_core_steps.proofs.Aborts.{no_flusher}
use Rattle.erm_core_steps.proofs.Stored.{claimed_from}
use Rattle.erm_rows.specs.Claims.{tidied_part}
use Rattle.erm_rows.specs.Tidies.{DidTidy, HasClaim, TookTidy}
use Rattle.erm_rule.specs.declared.view.Book.{Book}
use Rattle.erm_rule.specs.Views.{part_of}
use Rattle.erm_rule.specs.Went.{core_of}
use Rattle.erm_session.specs.Calls.{IsUnclaimed, TidiesObject, again_tidied, now_claimed}
use Rattle.erm_session.specs.Took.{TookAnyClaim, TookAnyTidy}
use Rattle.erm_world.specs.Calls.{DidClaim}
use Rattle.erm_world.specs.Calls as calls
use Rattle.erm_world.specs.Works.{is_claimed}
use Rattle.erm_world.specs.World.{IsSession, Work, phase_at}
use Rattle.erm_table_world.specs.Stands.{StandsAt}
use Rattle.erm_table_world.proofs.Claiming.{did_claim}
use Rattle.erm_table_world.proofs.Reading.{at_seat, same_world, work}
use Rattle.erm_table_world.proofs.Still.{Stayed}
use Rattle.erm_table_world.proofs.Wholly.{Ran, part_is, part_set, runs}

module _ (law : Law) (sessions seat : ℕ) (b e : Book) (at : StandsAt law sessions b) (session : IsSession (view_of sessions (core_of b)) seat) (active : phase_at (view_of sessions (core_of b)) seat ≡ phase.Active)
    (seated : is_seat seat ≡ true) (oid : ℕ) (known : oid < OBJECT_LIMIT) where
  abbrev own : Part
  own = (core_of b).seats seat

  -- the chain of an object that is claimed was cut
  tidied : (count : ℕ) → Ran law sessions seat b e → Stayed sessions seat (core_of b) (core_of e) → HasClaim (part_of b.view seat) oid → DidTidy b.view seat count e.view
      → DidClaim (view_of sessions (core_of b)) seat oid (view_of sessions (core_of e))
  tidied count ran stayed has did =
      let y : Part → Part = λ x. tidied_part did.cut.found.tail did.cut.done.cut x in
      let set : (core_of e).seats seat ≡ y own = part_set law b e seat (y (part_of b.view seat)) at.state ran.state seated did.view_is ∙ ap y (part_is law b seat at.state seated) in
      let plain = starts_plain own.task (at_seat law sessions seat b e at session active seated).starts in
      let shows : session_of (y own) ≡ session_of own = (plainly own.task own (y own) plain (plain_if _ task.Draws task.Rest refl refl) refl refl refl).same in
      let mine : HasClaim own oid = subst (λ (x : Part). HasClaim x oid) (part_is law b seat at.state seated) has in
      calls.before (same_world law sessions seat b e (no_flusher seat (at_seat law sessions seat b e at session active seated).session) ran stayed (ap session_of set ∙ shows))
      (ap (λ (w : Work). is_claimed w.claims oid) (work law sessions seat b e at session active seated) ∙ claimed_from own.current.writes mine.0 no_claim oid mine.1 mine.2)

  -- an object whose entry the seat owns is claimed
  never_owned : (count : ℕ) → IsUnclaimed (part_of b.view seat) oid → TookTidy law seat oid count b e → ⊥
  never_owned count none took =
      let run = runs law b seat (kind.LoadEntry oid) took.entry took.at took.step at.state in
      let holds = (at.state.sound.sound.own seat).claims.owned oid session.0 known (ap owner_of run.met ∙ took.owner_is) in
      let held = holds_at (core_of b) seat oid holds in
      let free : IsUnclaimed own oid = subst (λ (x : Part). IsUnclaimed x oid) (part_is law b seat at.state seated) none in
      free held.place held.within held.oid_is

  pub did_tidy : (count : ℕ) → is_cleared own.task ≡ false → Ran law sessions seat b e → Stayed sessions seat (core_of b) (core_of e) → TidiesObject b.view seat oid count e.view
      → TookAnyTidy law seat oid count b e → DidClaim (view_of sessions (core_of b)) seat oid (view_of sessions (core_of e))
  did_tidy count left ran stayed (again_tidied has did) took = tidied count ran stayed has did
  did_tidy count left ran stayed (now_claimed none claims) took =
      ⊎_elim (λ (t : TookTidy law seat oid count b e). absurd (never_owned count none t))
      (λ (t : IsUnclaimed (part_of b.view seat) oid × TookAnyClaim law seat oid count b e). did_claim law sessions seat b e at session active seated oid count left ran stayed claims t.1) took
