use Rattle.std.proofs.Common.{ℕ, IfErr, IfOk, ◌∙◌, subst}
use Rattle.erm_model.specs.declared.row_stop.RowStop.TheVariants as stop
use Rattle.erm_rule.specs.Books.{book}
use Rattle.erm_session.specs.Calls.{ReadsRow, RefusesRead}
use Rattle.erm_session.specs.Took.{TookReadStop}
use Rattle.erm_table_world.proofs.NotReading.{not_read}
use Rattle.erm_table_world.proofs.Reading.{did_read}
use Rattle.erm_core_steps.proofs.Results.{both_err, never, ok_to}
use Rattle.erm_table_world.proofs.Held.{keeps_saves}
use Rattle.erm_table_world.proofs.Sessions.{here, still_call}
use Rattle.erm_table_world.proofs.table_world.TableWorld.read.Goals as goal

pub read-requires : goal.read-requires
read-requires g c =
    let at = here g.L.RowLaw.law c.args.self.now c.args.seat c.index_mut.result.now c.requires.stands c.requires.session c.index_mut.ensures.value in
    record { fits = c.requires.stands.fits; known = at.known; stands = at.stands; active = at.phase ∙ c.requires.active; object = c.requires.object }

pub returns : goal.returns
returns g c =
    let law = g.L.RowLaw.law in
    let w = c.args.self.now in
    let seat = c.args.seat in
    let oid = c.args.oid in
    let s = c.index_mut.result.now in
    let stands = c.requires.stands in
    let at = here law w seat s stands c.requires.session c.index_mut.ensures.value in
    let b = book w.pass in
    let e = book c.read.new.p in
    let r = c.read.result in
    let call = still_call law w seat s c.read.new.self c.read.new.p stands c.requires.session c.index_mut.ensures.value c.read.ensures.fits c.read.ensures.seat c.read.ensures.stands c.read.ensures.still in
    let reads = subst (λ (n : ℕ). IfOk r (λ row. ReadsRow b.view n oid row e.view)) at.seat c.read.ensures.read in
    let refused = subst (λ (n : ℕ). IfErr r (λ why. RefusesRead b.view n oid why e.view)) at.seat c.read.ensures.refused in
    let none = subst (λ (n : ℕ). IfErr r (λ why. TookReadStop law n oid why b e)) at.seat c.read.ensures.took_none in
    record {
      stands = call.stands;
      saves = keeps_saves law w seat s stands c.requires.session c.index_mut.ensures.value c.read.new.p call.ran c.read.new.self c.read.ensures.stands c.read.ensures.saves;
      ok =
          ok_to r (λ row. ReadsRow b.view seat oid row e.view) _
          (λ row did. did_read law w.count seat b e stands.at c.requires.session c.requires.active at.seated oid row call.ran call.stayed did) reads;
      err =
          both_err r (λ why. RefusesRead b.view seat oid why e.view) (λ why. TookReadStop law seat oid why b e) _
          (λ why refuses took. not_read law w.count seat b stands.at c.requires.session c.requires.active at.seated oid c.requires.object why e call.ran call.stayed refuses took) refused none;
      memory = never r (λ why. TookReadStop law seat oid why b e) stop.Memory (λ took. took.0) none;
    }
