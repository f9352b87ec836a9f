use Rattle.std.proofs.Common.{◌≡◌, ℕ, ◌≤◌, IfErr, IfOk, ap, sym, subst, ◌∙◌, arith}
use Rattle.erm_beside.specs.Calls.{After, NotReadBeside}
use Rattle.erm_beside.specs.Ends.{MetBeside}
use Rattle.erm_beside.specs.Later.{IsLater}
use Rattle.erm_model.specs.declared.limits.TheConstants.{SESSIONS}
use Rattle.erm_model.specs.declared.row_stop.RowStop.TheVariants as stop
use Rattle.erm_model.specs.RowTransaction.{asked_read}
use Rattle.erm_own_view.specs.Own.{EndsIn, own_view}
use Rattle.erm_own_view.proofs.Along.{took_start}
use Rattle.erm_rule.specs.Books.{book}
use Rattle.erm_rule.proofs.Wents.{took_goes}
use Rattle.erm_session.specs.Took.{TookReadStop}
use Rattle.erm_world.specs.Calls.{DidRead}
use Rattle.erm_world.specs.World.{View}
use Rattle.erm_shared_session.specs.Seen.{tail_met}
use Rattle.erm_shared_session.specs.Stands.{bare_of}
use Rattle.erm_shared_session.proofs.Lifts.{did_read, not_read, met_beside}
use Rattle.erm_core_steps.proofs.Results.{err_to, ok_to}
use Rattle.erm_shared_session.proofs.Saved.{keeps_own}
use Rattle.erm_shared_session.specs.Stands.{own_saves}
use Rattle.erm_shared_session.proofs.Meeting.{Shows}
use Rattle.erm_shared_session.proofs.Reading.{low_stop, told}
use Rattle.erm_shared_session.proofs.Results.{never}
use Rattle.erm_shared_session.proofs.Standing.{IsSeen, Rise, SeenThen, goes_onward, own_active, own_at, own_phase, session_held, stands_again}
use Rattle.erm_shared_session.proofs.session.TableSessionSharedSession.read.Goals as goal

pub read-answer-requires : goal.read-answer-requires
read-answer-requires g c =
    let s = c.args.self.now in
    record {
      fits = c.requires.stands.fits;
      known = c.requires.stands.may.known;
      stands = c.requires.stands.session;
      active = own_phase s c.requires.stands.session ∙ c.requires.active;
      object = c.requires.object;
    }

pub tail_met-self-requires : goal.tail_met-self-requires
tail_met-self-requires g c =
    let law = g.L.RowLaw.law in
    let s = c.args.self.now in
    let seat = s.session.seat in
    let b = book s.pass in
    let e = book c.read-answer.new.p in
    let r = c.read-answer.result in
    record { low = low_stop law seat c.args.oid b e r c.read-answer.ensures.took_none }

pub returns : goal.returns
returns g c =
    let law = g.L.RowLaw.law in
    let s = c.args.self.now in
    let seat = s.session.seat in
    let oid = c.args.oid in
    let tail = c.tail_met-self.result in
    let t = record s { session = c.read-answer.new.self; pass = c.read-answer.new.p; tail = tail } in
    let b = book s.pass in
    let e = book c.read-answer.new.p in
    let r = c.read-answer.result in
    let same = c.read-answer.ensures.seat in
    let held = session_held s.session b seat c.requires.stands.session in
    let steps = c.read-answer.ensures.still.steps in
    let took = c.read-answer.ensures.still.took in
    let goes = took_goes law seat steps b e took in
    let start = took_start law seat steps b e took in
    let rises : Rise = λ first second q k sound event. c.numbers_rise.ensures.event first second q k sound event in
    let seen_at : SeenThen s.tail s.flushed b = λ z goes_on. c.own_views_go_on.ensures.seen seat s.tail s.flushed b z c.requires.stands.may goes_on in
    let shows : Shows = λ core sound only. c.states_show_the_history.ensures.history SESSIONS core sound only in
    let done =
    told law seat s.tail s.flushed b c.requires.stands.may held c.requires.active oid e start (own_active s c.requires.active) rises seen_at goes shows r c.read-answer.ensures.read c.read-answer.ensures.refused
    c.read-answer.ensures.took_none
    in
    let is = c.tail_met-self.ensures in
    let own = own_view seat s.tail s.flushed b in
    let more : s.tail ≤ tail = subst (λ (n : ℕ). s.tail ≤ n) (sym is) done.more in
    let seen : IsSeen tail s.flushed e = subst (λ (n : ℕ). IsSeen n s.flushed e) (sym is) done.seen_now in
    let later : IsLater (own.session seat) ((own_view seat tail s.flushed e).session seat) = subst (λ (n : ℕ). IsLater (own.session seat) ((own_view seat n s.flushed e).session seat)) (sym is) done.later in
    let now : own_view seat (tail_met s.tail r) s.flushed e ≡ bare_of t = ap (λ (n : ℕ). own_view seat n s.flushed e) (sym is) ∙ sym (own_at s t same) in
    let keeps = keeps_own s t same c.requires.stands.session c.read-answer.ensures.stands c.read-answer.ensures.saves in
    record {
      stands =
          stands_again law (λ at tails flush then_tail then_flushed list first last may steps_taken between seen_then.
          c.own_views_go_on.ensures.again at tails flush then_tail then_flushed list first last may steps_taken between seen_then) c.args.shared.now s t steps c.requires.stands
          c.read-answer.ensures.fits same c.read-answer.ensures.stands c.read-answer.ensures.known took seen;
      onward =
          goes_onward law (λ at tails flush then_tail then_flushed first last f goes_on starts more_tail more_flushed is_later ends.
          c.own_views_go_on.ensures.onward at tails flush then_tail then_flushed first last f goes_on starts more_tail more_flushed is_later ends) s t same goes start more (omega arith) later;
      ok = ok_to r _ _ (λ row did. did_read s t keeps c.requires.active oid row did) (subst (λ (v : View). IfOk r (λ row. After seat (λ u z. DidRead u seat oid row z) own v)) now done.ok);
      err = err_to r _ _ (λ why did. not_read s t keeps oid why did) (subst (λ (v : View). IfErr r (λ stop. After seat (NotReadBeside seat oid stop) own v)) now done.err);
      memory = never r (λ why. TookReadStop law seat oid why b e) stop.Memory (λ none. none.0) c.read-answer.ensures.took_none;
      word = c.read-answer.ensures.met;
      looked = c.read-answer.ensures.took_none;
      met =
          err_to r _ _ (λ why met f end. met_beside (own_saves s) (own_saves t) f seat own (bare_of t) (asked_read oid) why (met f end))
          (subst (λ (n : ℕ). IfErr r (λ stop. (f : View) → EndsIn law n e (bare_of t) f → MetBeside f seat (asked_read oid) stop own (bare_of t))) (sym same)
          (subst (λ (v : View). IfErr r (λ stop. (f : View) → EndsIn law seat e v f → MetBeside f seat (asked_read oid) stop own v)) now done.met));
    }
