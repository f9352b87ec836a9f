use Rattle.std.proofs.Common.{ℕ, IfErr, IfOk, ◌∙◌, subst}
use Rattle.erm_model.specs.declared.row_stop.RowStop.TheVariants as stop
use Rattle.erm_rule.specs.Books.{book}
use Rattle.erm_rule.specs.Went.{core_of}
use Rattle.erm_session.specs.Calls.{RefusesClaim, TidiesObject}
use Rattle.erm_session.specs.Took.{TookAnyTidy, TookClaimStop}
use Rattle.erm_table_world.proofs.NotClaiming.{left_of, not_claim}
use Rattle.erm_core_steps.proofs.Results.{both_err, both_if_ok, never, ok_to}
use Rattle.erm_table_world.proofs.Held.{keeps_saves}
use Rattle.erm_table_world.proofs.Sessions.{here, still_call}
use Rattle.erm_table_world.proofs.Taking.{any_few}
use Rattle.erm_table_world.proofs.Tidying.{did_tidy}
use Rattle.erm_table_world.proofs.table_world.TableWorld.tidy.Goals as goal

pub tidy-requires : goal.tidy-requires
tidy-requires g c =
    let at = here g.L.RowLaw.law c.args.self.now c.args.seat c.index_mut.result.now c.requires.stands c.requires.session c.index_mut.ensures.value in
    record { fits = c.requires.stands.fits; known = at.known; stands = at.stands; active = at.phase ∙ c.requires.active; object = c.requires.object }

pub returns : goal.returns
returns g c =
    let law = g.L.RowLaw.law in
    let w = c.args.self.now in
    let seat = c.args.seat in
    let oid = c.args.oid in
    let s = c.index_mut.result.now in
    let stands = c.requires.stands in
    let at = here law w seat s stands c.requires.session c.index_mut.ensures.value in
    let b = book w.pass in
    let e = book c.tidy.new.p in
    let call = still_call law w seat s c.tidy.new.self c.tidy.new.p stands c.requires.session c.index_mut.ensures.value c.tidy.ensures.fits c.tidy.ensures.seat c.tidy.ensures.stands c.tidy.ensures.still in
    let left = left_of s.stage ((core_of b).seats seat) (at.phase ∙ c.requires.active) at.is.kept.stage in
    let r = c.tidy.result in
    let tidies = subst (λ (n : ℕ). IfOk r (λ cut. TidiesObject b.view n oid cut e.view)) at.seat c.tidy.ensures.tidied in
    let took = subst (λ (n : ℕ). IfOk r (λ cut. TookAnyTidy law n oid cut b e)) at.seat c.tidy.ensures.took in
    let refused = subst (λ (n : ℕ). IfErr r (λ why. RefusesClaim b.view n oid why e.view)) at.seat c.tidy.ensures.refused in
    let none = subst (λ (n : ℕ). IfErr r (λ why. TookClaimStop law n oid why b e)) at.seat c.tidy.ensures.took_none in
    record {
      stands = call.stands;
      saves = keeps_saves law w seat s stands c.requires.session c.index_mut.ensures.value c.tidy.new.p call.ran c.tidy.new.self c.tidy.ensures.stands c.tidy.ensures.saves;
      ok =
          both_if_ok r (λ cut. TidiesObject b.view seat oid cut e.view) (λ cut. TookAnyTidy law seat oid cut b e) _
          (λ cut did steps. did_tidy law w.count seat b e stands.at c.requires.session c.requires.active at.seated oid c.requires.object cut left call.ran call.stayed did steps) tidies took;
      took = took;
      count =
          ok_to r (λ cut. TookAnyTidy law seat oid cut b e) _
          (λ cut steps. any_few c.spare_lists_fit.ensures law seat oid cut b e stands.at.state call.ran.state at.seated steps) took;
      err =
          both_err r (λ why. RefusesClaim b.view seat oid why e.view) (λ why. TookClaimStop law seat oid why b e) _
          (λ why refuses took. not_claim law w.count seat b stands.at c.requires.session c.requires.active at.seated oid c.requires.object left why e call.ran call.stayed refuses took) refused none;
      memory = never r (λ why. TookClaimStop law seat oid why b e) stop.Memory (λ took. took.1) none;
    }
