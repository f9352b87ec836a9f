use Rattle.std.proofs.Common.{ℕ, IfErr, ◌∙◌, subst}
use Rattle.std.specs.Prelude.{OnOk}
use Rattle.erm_model.specs.declared.row_stop.RowStop.TheVariants as stop
use Rattle.erm_rule.specs.Books.{book}
use Rattle.erm_rule.specs.Went.{core_of}
use Rattle.erm_session.specs.Calls.{RefusesClaim, WritesRow}
use Rattle.erm_session.specs.Took.{TookClaimStop, TookWrite}
use Rattle.erm_table_world.proofs.NotClaiming.{left_of, not_claim}
use Rattle.erm_core_steps.proofs.Results.{both_err, both_on_ok, never}
use Rattle.erm_table_world.proofs.Held.{keeps_saves}
use Rattle.erm_table_world.proofs.Sessions.{here, still_call}
use Rattle.erm_table_world.proofs.Writing.{did_write}
use Rattle.erm_table_world.proofs.table_world.TableWorld.write.Goals as goal

pub write-requires : goal.write-requires
write-requires g c =
    let at = here g.L.RowLaw.law c.args.self.now c.args.seat c.index_mut.result.now c.requires.stands c.requires.session c.index_mut.ensures.value in
    record { fits = c.requires.stands.fits; known = at.known; stands = at.stands; active = at.phase ∙ c.requires.active; object = c.requires.object }

pub returns : goal.returns
returns g c =
    let law = g.L.RowLaw.law in
    let w = c.args.self.now in
    let seat = c.args.seat in
    let oid = c.args.oid in
    let s = c.index_mut.result.now in
    let stands = c.requires.stands in
    let at = here law w seat s stands c.requires.session c.index_mut.ensures.value in
    let b = book w.pass in
    let e = book c.write.new.p in
    let call = still_call law w seat s c.write.new.self c.write.new.p stands c.requires.session c.index_mut.ensures.value c.write.ensures.fits c.write.ensures.seat c.write.ensures.stands c.write.ensures.still in
    let left = left_of s.stage ((core_of b).seats seat) (at.phase ∙ c.requires.active) at.is.kept.stage in
    let r = c.write.result in
    let writes = subst (λ (n : ℕ). OnOk r (WritesRow b.view n oid c.args.row.now e.view)) at.seat c.write.ensures.written in
    let took = subst (λ (n : ℕ). OnOk r (TookWrite law n oid c.args.row.now b e)) at.seat c.write.ensures.took in
    let refused = subst (λ (n : ℕ). IfErr r (λ why. RefusesClaim b.view n oid why e.view)) at.seat c.write.ensures.refused in
    let none = subst (λ (n : ℕ). IfErr r (λ why. TookClaimStop law n oid why b e)) at.seat c.write.ensures.took_none in
    record {
      stands = call.stands;
      saves = keeps_saves law w seat s stands c.requires.session c.index_mut.ensures.value c.write.new.p call.ran c.write.new.self c.write.ensures.stands c.write.ensures.saves;
      ok =
          both_on_ok r (WritesRow b.view seat oid c.args.row.now e.view) (TookWrite law seat oid c.args.row.now b e) _
          (λ did steps. did_write law w.count seat b e stands.at c.requires.session c.requires.active at.seated call.ran call.stayed oid c.args.row.now left did steps) writes took;
      err =
          both_err r (λ why. RefusesClaim b.view seat oid why e.view) (λ why. TookClaimStop law seat oid why b e) _
          (λ why refuses took. not_claim law w.count seat b stands.at c.requires.session c.requires.active at.seated oid c.requires.object left why e call.ran call.stayed refuses took) refused none;
      memory = never r (λ why. TookClaimStop law seat oid why b e) stop.Memory (λ took. took.1) none;
    }
