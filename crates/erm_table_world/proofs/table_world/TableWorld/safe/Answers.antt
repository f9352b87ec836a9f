use Rattle.std.proofs.Common.{ℕ, IfErr, ◌∙◌, subst}
use Rattle.std.specs.Prelude.{OnOk}
use Rattle.erm_core_steps.proofs.Results.{both_err, both_on_ok}
use Rattle.erm_rule.specs.Books.{book}
use Rattle.erm_rule.specs.Went.{IsLoadStep, Went, core_of}
use Rattle.erm_seats.specs.Safe.{DidSurvey}
use Rattle.erm_session.specs.Safe as session
use Rattle.erm_session.specs.Safe.{TookNoSafe}
use Rattle.erm_table_world.proofs.SafeReading.{not_safe_shows, pending_of}
use Rattle.erm_table_world.proofs.Held.{keeps_saves, past_safe}
use Rattle.erm_table_world.proofs.Sessions.{here, still_call}
use Rattle.erm_table_world.proofs.Surveying.{survey_shows}
use Rattle.erm_table_world.proofs.table_world.TableWorld.safe.Goals as goal

pub safe-requires : goal.safe-requires
safe-requires g c =
    let at = here g.L.RowLaw.law c.args.self.now c.args.seat c.index_mut.result.now c.requires.stands c.requires.session c.index_mut.ensures.value in
    record { fits = c.requires.stands.fits; known = at.known; stands = at.stands; pending = at.phase ∙ c.requires.pending }

pub returns : goal.returns
returns g c =
    let law = g.L.RowLaw.law in
    let w = c.args.self.now in
    let seat = c.args.seat in
    let s = c.index_mut.result.now in
    let stands = c.requires.stands in
    let at = here law w seat s stands c.requires.session c.index_mut.ensures.value in
    let b = book w.pass in
    let e = book c.safe.new.p in
    let r = c.safe.result in
    let pends = pending_of s.stage ((core_of b).seats seat) at.is.kept.stage (at.phase ∙ c.requires.pending) in
    let call = still_call law w seat s c.safe.new.self c.safe.new.p stands c.requires.session c.index_mut.ensures.value c.safe.ensures.fits c.safe.ensures.seat c.safe.ensures.stands c.safe.ensures.still in
    let loads = subst (λ (n : ℕ). OnOk r (Went law n IsLoadStep b e)) at.seat c.safe.ensures.loads in
    let surveys = subst (λ (n : ℕ). OnOk r (DidSurvey b.view n e.view)) at.seat c.safe.ensures.safe in
    let refused = subst (λ (n : ℕ). IfErr r (λ why. session.DidNotSafe b.view n why e.view)) at.seat c.safe.ensures.refused in
    let none = subst (λ (n : ℕ). IfErr r (λ why. TookNoSafe law n why b e)) at.seat c.safe.ensures.took_none in
    record {
      stands = call.stands;
      saves = keeps_saves law w seat s stands c.requires.session c.index_mut.ensures.value c.safe.new.p call.ran c.safe.new.self c.safe.ensures.stands (λ on. absurd (past_safe r _ c.safe.ensures.safe_phase c.safe.ensures.phase on));
      ok =
          both_on_ok r (Went law seat IsLoadStep b e) (DidSurvey b.view seat e.view) _
          (λ went did. survey_shows law w.count seat b stands.at at.session at.seated pends.active pends.next pends.looks e went did call.stands.at.quiet) loads surveys;
      err =
          both_err r (λ why. session.DidNotSafe b.view seat why e.view) (λ why. TookNoSafe law seat why b e) _
          (λ why did took. not_safe_shows law w.count seat b stands.at at.session at.seated pends why e did took) refused none;
    }
