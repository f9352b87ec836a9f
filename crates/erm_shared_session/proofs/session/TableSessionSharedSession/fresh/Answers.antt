use Rattle.std.proofs.Common.{◌≡◌, ℕ, IfErr, IfOk, ◌∙◌, sym, subst, arith}
use Rattle.erm_beside.specs.Calls.{After, NotMadeBeside}
use Rattle.erm_beside.specs.Ends.{MetBeside}
use Rattle.erm_model.specs.declared.row_stop.RowStop.TheVariants as stop
use Rattle.erm_model.specs.RowTransaction.{asked_make}
use Rattle.erm_own_view.specs.Own.{EndsIn, own_view}
use Rattle.erm_own_view.proofs.Along.{took_start}
use Rattle.erm_rule.specs.Books.{book}
use Rattle.erm_rule.proofs.Wents.{took_goes}
use Rattle.erm_session.specs.Took.{TookNoObject}
use Rattle.erm_world.specs.Calls.{DidMake}
use Rattle.erm_world.specs.World.{View}
use Rattle.erm_shared_session.specs.Stands.{bare_of}
use Rattle.erm_shared_session.proofs.Lifts.{did_make, not_made, met_beside}
use Rattle.erm_core_steps.proofs.Results.{err_to, ok_to}
use Rattle.erm_shared_session.proofs.Saved.{keeps_own}
use Rattle.erm_shared_session.specs.Stands.{own_saves}
use Rattle.erm_shared_session.proofs.Making.{made, met_make, steps_of}
use Rattle.erm_shared_session.proofs.Results.{never}
use Rattle.erm_shared_session.proofs.Standing.{Rise, goes_onward, own_active, own_at, own_phase, session_held, stands_again}
use Rattle.erm_shared_session.proofs.session.TableSessionSharedSession.fresh.Goals as goal

pub fresh-requires : goal.fresh-requires
fresh-requires g c =
    let s = c.args.self.now in
    record { fits = c.requires.stands.fits; stands = c.requires.stands.session; active = own_phase s c.requires.stands.session ∙ c.requires.active }

pub returns : goal.returns
returns g c =
    let law = g.L.RowLaw.law in
    let s = c.args.self.now in
    let seat = s.session.seat in
    let t = record s { session = c.fresh.new.self; pass = c.fresh.new.p } in
    let b = book s.pass in
    let e = book c.fresh.new.p in
    let r = c.fresh.result in
    let same = c.fresh.ensures.seat in
    let held = session_held s.session b seat c.requires.stands.session in
    let rises : Rise = λ first second q k sound event. c.numbers_rise.ensures.event first second q k sound event in
    let taken = steps_of law seat b e rises r c.fresh.ensures.took c.fresh.ensures.took_none in
    let goes = took_goes law seat taken.0 b e taken.1 in
    let start = took_start law seat taken.0 b e taken.1 in
    let done = made law seat s.tail s.flushed b e start held r c.requires.active (own_active s c.requires.active) c.fresh.ensures.made c.fresh.ensures.refused in
    let own = own_view seat s.tail s.flushed b in
    let next = own_view seat s.tail s.flushed e in
    let now : next ≡ bare_of t = sym (own_at s t same) in
    let keeps = keeps_own s t same c.requires.stands.session c.fresh.ensures.stands c.fresh.ensures.saves in
    record {
      stands =
          stands_again law (λ at tails flush then_tail then_flushed list first last may steps_taken between seen_then.
          c.own_views_go_on.ensures.again at tails flush then_tail then_flushed list first last may steps_taken between seen_then) c.args.shared.now s t taken.0 c.requires.stands c.fresh.ensures.fits same
          c.fresh.ensures.stands c.fresh.ensures.known taken.1 (c.own_views_go_on.ensures.seen seat s.tail s.flushed b e c.requires.stands.may goes);
      onward =
          goes_onward law (λ at tails flush then_tail then_flushed first last f goes_on starts more_tail more_flushed is_later ends.
          c.own_views_go_on.ensures.onward at tails flush then_tail then_flushed first last f goes_on starts more_tail more_flushed is_later ends) s t same goes start (omega arith) (omega arith) done.later;
      object = c.fresh.ensures.object;
      ok = ok_to r _ _ (λ oid did. did_make s t keeps c.requires.active oid did) (subst (λ (v : View). IfOk r (λ oid. After seat (λ u z. DidMake u seat oid z) own v)) now done.ok);
      err = err_to r _ _ (λ why did. not_made s t keeps why did) (subst (λ (v : View). IfErr r (λ stop. After seat (NotMadeBeside seat stop) own v)) now done.err);
      memory = never r (λ why. TookNoObject law seat why b e) stop.Memory (λ none. none) c.fresh.ensures.took_none;
      met =
          err_to r _ _ (λ why met f end. met_beside (own_saves s) (own_saves t) f seat own (bare_of t) asked_make why (met f end))
          (subst (λ (n : ℕ). IfErr r (λ stop. (f : View) → EndsIn law n e (own_view n s.tail s.flushed e) f → MetBeside f seat asked_make stop own (own_view n s.tail s.flushed e))) (sym same)
          (met_make law seat b e rises r own next next (λ f end was. c.ends_have_what_was.ensures.made seat e next f end was) c.fresh.ensures.took_none c.fresh.ensures.refused));
      looked = c.fresh.ensures.took_none;
    }
