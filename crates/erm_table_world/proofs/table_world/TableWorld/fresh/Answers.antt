use Rattle.std.proofs.Common.{◌≡◌, ◌≤◌, ℕ, Result, Ok, Err, IfErr, IfOk, ◌∙◌, subst}
use Rattle.erm_machine.specs.declared.limits.TheConstants.{OBJECT_LIMIT}
use Rattle.erm_model.specs.declared.row_stop.RowStop.{RowStop}
use Rattle.erm_model.specs.declared.row_stop.RowStop.TheVariants as stop
use Rattle.erm_rule.specs.declared.view.View.{View}
use Rattle.erm_rule.specs.Books.{book}
use Rattle.erm_session.specs.Making.{RefusesObject}
use Rattle.erm_session.specs.Took.{TookNoObject, TookObject}
use Rattle.erm_table_world.proofs.Making.{made}
use Rattle.erm_core_steps.proofs.Results.{never}
use Rattle.erm_table_world.proofs.Held.{keeps_saves}
use Rattle.erm_table_world.proofs.Sessions.{called, here, is_now}
use Rattle.erm_table_world.proofs.table_world.TableWorld.fresh.Goals as goal

-- an object is refused where all are drawn
all_drawn : (v w : View) (who : ℕ) (r : Result ℕ RowStop) → IfErr r (λ why. RefusesObject v who why w) → IfErr r (λ why. (drawn : ℕ) → why ≡ stop.OidsFull drawn → OBJECT_LIMIT ≤ drawn)
all_drawn v w who (Ok oid) refused = tt
all_drawn v w who (Err (stop.OidsFull n)) refused = λ drawn is. let full : stop.OidsFull n ≡ stop.OidsFull drawn = is in let same : n ≡ drawn = cc in subst (λ (m : ℕ). OBJECT_LIMIT ≤ m) same refused.all_drawn
all_drawn v w who (Err _) refused = absurd refused

pub fresh-requires : goal.fresh-requires
fresh-requires g c =
    let at = here g.L.RowLaw.law c.args.self.now c.args.seat c.index_mut.result.now c.requires.stands c.requires.session c.index_mut.ensures.value in
    record { fits = c.requires.stands.fits; stands = at.stands; active = at.phase ∙ c.requires.active }

pub returns : goal.returns
returns g c =
    let law = g.L.RowLaw.law in
    let w = c.args.self.now in
    let seat = c.args.seat in
    let s = c.index_mut.result.now in
    let stands = c.requires.stands in
    let at = here law w seat s stands c.requires.session c.index_mut.ensures.value in
    let b = book w.pass in
    let e = book c.fresh.new.p in
    let r = c.fresh.result in
    let took = subst (λ (n : ℕ). IfOk r (λ oid. TookObject law n oid b e)) at.seat c.fresh.ensures.took in
    let none = subst (λ (n : ℕ). IfErr r (λ why. TookNoObject law n why b e)) at.seat c.fresh.ensures.took_none in
    let many = all_drawn b.view e.view s.seat r c.fresh.ensures.refused in
    let done =
    made c.steps_show_what_they_do.ensures.makes c.drawn_objects_are_made.ensures law w.count seat b e stands.at c.requires.session c.requires.active r took none many
    in
    record {
      stands =
          called law w seat c.fresh.new.p c.fresh.new.self stands c.requires.session
          (record {
            fits = c.fresh.ensures.fits;
            ran = done.ran;
            quiet = done.quiet;
            seat = c.fresh.ensures.seat ∙ at.seat;
            is = is_now law e seat s.seat c.fresh.new.self done.ran.state at.seated at.seat c.fresh.ensures.stands;
          });
      saves = keeps_saves law w seat s stands c.requires.session c.index_mut.ensures.value c.fresh.new.p done.ran c.fresh.new.self c.fresh.ensures.stands c.fresh.ensures.saves;
      object = c.fresh.ensures.object;
      ok = done.ok;
      err = done.err;
      memory = never r (λ why. TookNoObject law seat why b e) stop.Memory (λ none. none) none;
    }
