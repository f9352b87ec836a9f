use Rattle.std.proofs.Common.{◌≡◌, ℕ, ◌≤◌, IfErr, ◌∙◌, ap, sym, subst, arith}
use Rattle.std.specs.Prelude.{OnOk}
use Rattle.erm_model.specs.declared.limits.TheConstants.{SESSIONS}
use Rattle.erm_model.specs.declared.row_stop.RowStop.TheVariants as stop
use Rattle.erm_model.specs.RowTransaction.{asked_claim}
use Rattle.erm_beside.specs.Calls.{After, NotClaimedBeside}
use Rattle.erm_beside.specs.Ends.{MetBeside}
use Rattle.erm_beside.specs.Later.{IsLater}
use Rattle.erm_own_view.specs.Own.{EndsIn, own_view}
use Rattle.erm_own_view.proofs.Along.{took_start}
use Rattle.erm_rule.specs.Books.{book}
use Rattle.erm_rule.specs.Views.{part_of}
use Rattle.erm_rule.proofs.Wents.{took_goes}
use Rattle.erm_session.specs.Calls.{WritesRow}
use Rattle.erm_session.specs.Took.{TookClaimStop}
use Rattle.erm_world.specs.Calls.{DidWrite}
use Rattle.erm_world.specs.World.{View}
use Rattle.erm_shared_session.specs.Seen.{tail_met}
use Rattle.erm_shared_session.specs.Stands.{bare_of}
use Rattle.erm_shared_session.proofs.Lifts.{did_write, not_claimed, met_beside}
use Rattle.erm_core_steps.proofs.Results.{err_to, on_ok_to}
use Rattle.erm_shared_session.proofs.Saved.{keeps_own}
use Rattle.erm_shared_session.specs.Stands.{own_saves}
use Rattle.erm_shared_session.proofs.Claiming.{at_work}
use Rattle.erm_shared_session.proofs.Claimed.{write_answered}
use Rattle.erm_shared_session.proofs.Full.{AllDrawn}
use Rattle.erm_shared_session.proofs.Meeting.{Shows}
use Rattle.erm_shared_session.proofs.Owned.{EndsHaveOwners, OwnersAreSessions}
use Rattle.erm_shared_session.proofs.Refused.{on_ok, low_claim, told}
use Rattle.erm_shared_session.proofs.Results.{never}
use Rattle.erm_shared_session.proofs.Standing.{IsSeen, Rise, SeenThen, goes_onward, own_at, own_phase, session_held, stands_again}
use Rattle.erm_shared_session.proofs.session.TableSessionSharedSession.write.Goals as goal

pub write-written-requires : goal.write-written-requires
write-written-requires g c =
    let s = c.args.self.now in
    record {
      fits = c.requires.stands.fits;
      known = c.requires.stands.may.known;
      stands = c.requires.stands.session;
      active = own_phase s c.requires.stands.session ∙ c.requires.active;
      object = c.requires.object;
    }

pub tail_met-self-requires : goal.tail_met-self-requires
tail_met-self-requires g c =
    let law = g.L.RowLaw.law in
    let s = c.args.self.now in
    let seat = s.session.seat in
    let b = book s.pass in
    let e = book c.write-written.new.p in
    let went = c.write-written.ensures.still in
    let work = at_work s.session.stage (part_of b.view seat) (own_phase s c.requires.stands.session ∙ c.requires.active) c.requires.stands.session.kept.stage in
    let shows : Shows = λ core sound only. c.states_show_the_history.ensures.history SESSIONS core sound only in
    record {
      low =
          low_claim law shows seat s.tail s.flushed b e (took_start law seat went.steps b e went.took) (session_held s.session b seat c.requires.stands.session) work c.args.oid c.write-written.result
          c.write-written.ensures.took_none;
    }

pub returns : goal.returns
returns g c =
    let law = g.L.RowLaw.law in
    let s = c.args.self.now in
    let seat = s.session.seat in
    let oid = c.args.oid in
    let row = c.args.row.now in
    let tail = c.tail_met-self.result in
    let t = record s { session = c.write-written.new.self; pass = c.write-written.new.p; tail = tail } in
    let b = book s.pass in
    let e = book c.write-written.new.p in
    let r = c.write-written.result in
    let same = c.write-written.ensures.seat in
    let steps = c.write-written.ensures.still.steps in
    let took = c.write-written.ensures.still.took in
    let goes = took_goes law seat steps b e took in
    let start = took_start law seat steps b e took in
    let held = session_held s.session b seat c.requires.stands.session in
    let work = at_work s.session.stage (part_of b.view seat) (own_phase s c.requires.stands.session ∙ c.requires.active) c.requires.stands.session.kept.stage in
    let own = own_view seat s.tail s.flushed b in
    let did : View → View → Type 0 = λ u z. DidWrite u seat oid row z in
    let ended : EndsHaveOwners law = λ at found other number count first last v f plain_other after end so. c.ends_have_owners.ensures at found other number count first last v f plain_other after end so in
    let owners : OwnersAreSessions = λ first second events found owner number sound run low some owned. c.owners_are_sessions.ensures first second events found owner number sound run low some owned in
    let rises : Rise = λ first second q k sound event. c.numbers_rise.ensures.event first second q k sound event in
    let drawn : AllDrawn law = λ at first v f end so. c.ends_have_what_was.ensures.drawn at first v f end so in
    let shows : Shows = λ core sound only. c.states_show_the_history.ensures.history SESSIONS core sound only in
    let seen_at : SeenThen s.tail s.flushed b = λ z goes_on. c.own_views_go_on.ensures.seen seat s.tail s.flushed b z c.requires.stands.may goes_on in
    let tells = c.histories_tell_commits.ensures own in
    let answered = on_ok r (WritesRow b.view seat oid row e.view) _ (λ writes. write_answered law seat s.tail s.flushed b e start held work tells c.requires.stands.may.known oid row writes) c.write-written.ensures.written in
    let done =
    told law shows ended owners rises drawn seat s.tail s.flushed b e start held work c.requires.stands.may.session oid c.requires.object seen_at goes did r answered c.write-written.ensures.refused
    c.write-written.ensures.took_none c.write-written.ensures.counted
    in
    let is = c.tail_met-self.ensures in
    let more : s.tail ≤ tail = subst (λ (n : ℕ). s.tail ≤ n) (sym is) done.more in
    let seen : IsSeen tail s.flushed e = subst (λ (n : ℕ). IsSeen n s.flushed e) (sym is) done.seen_now in
    let later : IsLater (own.session seat) ((own_view seat tail s.flushed e).session seat) = subst (λ (n : ℕ). IsLater (own.session seat) ((own_view seat n s.flushed e).session seat)) (sym is) done.later in
    let now : own_view seat (tail_met s.tail r) s.flushed e ≡ bare_of t = ap (λ (n : ℕ). own_view seat n s.flushed e) (sym is) ∙ sym (own_at s t same) in
    let keeps = keeps_own s t same c.requires.stands.session c.write-written.ensures.stands c.write-written.ensures.saves in
    record {
      stands =
          stands_again law (λ at tails flush then_tail then_flushed list first last may steps_taken between seen_then.
          c.own_views_go_on.ensures.again at tails flush then_tail then_flushed list first last may steps_taken between seen_then) c.args.shared.now s t steps c.requires.stands
          c.write-written.ensures.fits same c.write-written.ensures.stands c.write-written.ensures.known took seen;
      onward =
          goes_onward law (λ at tails flush then_tail then_flushed first last f goes_on starts more_tail more_flushed is_later ends.
          c.own_views_go_on.ensures.onward at tails flush then_tail then_flushed first last f goes_on starts more_tail more_flushed is_later ends) s t same goes start more (omega arith) later;
      ok = on_ok_to r _ _ (λ is_done. did_write s t keeps c.requires.active oid row is_done) (subst (λ (v : View). OnOk r (After seat did own v)) now done.ok);
      err = err_to r _ _ (λ why is_done. not_claimed s t keeps oid why is_done) (subst (λ (v : View). IfErr r (λ why. After seat (NotClaimedBeside seat oid why) own v)) now done.err);
      memory = never r (λ why. TookClaimStop law seat oid why b e) stop.Memory (λ none. none.1) c.write-written.ensures.took_none;
      met =
          err_to r _ _ (λ why met f end. met_beside (own_saves s) (own_saves t) f seat own (bare_of t) (asked_claim oid) why (met f end))
          (subst (λ (n : ℕ). IfErr r (λ why. (f : View) → EndsIn law n e (bare_of t) f → MetBeside f seat (asked_claim oid) why own (bare_of t))) (sym same)
          (subst (λ (v : View). IfErr r (λ why. (f : View) → EndsIn law seat e v f → MetBeside f seat (asked_claim oid) why own v)) now done.met));
      counted = c.write-written.ensures.counted;
      looked = c.write-written.ensures.took_none;
    }
