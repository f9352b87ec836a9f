use Rattle.std.proofs.Common.{◌≡◌, ℕ, ◌≤◌, IfErr, ap, ◌∙◌, sym, subst, arith}
use Rattle.std.specs.Prelude.{OnOk}
use Rattle.erm_beside.specs.Calls.{After}
use Rattle.erm_beside.specs.Later.{IsLater}
use Rattle.erm_beside.specs.Safe.{DidSafeBeside, NotSafeBeside}
use Rattle.erm_model.specs.declared.limits.TheConstants.{SESSIONS}
use Rattle.erm_own_view.specs.Own.{EndsIn, own_view}
use Rattle.erm_own_view.proofs.Along.{took_start}
use Rattle.erm_rule.specs.Books.{book}
use Rattle.erm_rule.specs.Views.{part_of}
use Rattle.erm_rule.proofs.Wents.{took_goes}
use Rattle.erm_table_world.proofs.SafeReading.{pending_of}
use Rattle.erm_core_steps.proofs.Results.{err_to, on_ok_to}
use Rattle.erm_model.specs.declared.outcome.Phase.TheVariants.{Active}
use Rattle.erm_table_world.proofs.Held.{past_safe}
use Rattle.erm_world.specs.World.{View, phase_at, work_at}
use Rattle.erm_shared_session.proofs.Lifts.{did_safe, not_safe, not_safe_met}
use Rattle.erm_shared_session.proofs.Saved.{keeps_own}
use Rattle.erm_shared_session.specs.Seen.{tail_looked}
use Rattle.erm_shared_session.specs.Stands.{bare_of, own_saves}
use Rattle.erm_shared_session.proofs.Meeting.{Shows}
use Rattle.erm_shared_session.proofs.SnapshotLooks.{look_ends, look_met, looked, low_look}
use Rattle.erm_shared_session.proofs.Standing.{Again, IsSeen, Onward, SeenThen, goes_onward, own_at, own_phase, session_held, stands_again}
use Rattle.erm_shared_session.proofs.snapshots.TableSessionSafeSession.safe.Goals as goal

pub safe-looked-requires : goal.safe-looked-requires
safe-looked-requires g c =
    let s = c.args.self.now in
    record {
      fits = c.requires.stands.fits;
      known = c.requires.stands.may.known;
      stands = c.requires.stands.session;
      pending = own_phase s c.requires.stands.session ∙ c.requires.pending;
    }

pub tail_looked-self-requires : goal.tail_looked-self-requires
tail_looked-self-requires g c =
    let law = g.L.RowLaw.law in
    let s = c.args.self.now in
    let seat = s.session.seat in
    let b = book s.pass in
    let e = book c.safe-looked.new.p in
    let told = c.safe-looked.ensures in
    let held = session_held s.session b seat c.requires.stands.session in
    let pends = pending_of s.session.stage (part_of b.view seat) c.requires.stands.session.kept.stage (own_phase s c.requires.stands.session ∙ c.requires.pending) in
    let goes = took_goes law seat told.still.steps b e told.still.took in
    let start = took_start law seat told.still.steps b e told.still.took in
    let seen_at : SeenThen s.tail s.flushed b = λ z goes_on. c.own_views_go_on.ensures.seen seat s.tail s.flushed b z c.requires.stands.may goes_on in
    record { low = low_look law seat s.tail s.flushed b e start held pends c.requires.stands.may.known goes seen_at c.safe-looked.result told.took_none }

pub returns : goal.returns
returns g c =
    let law = g.L.RowLaw.law in
    let s = c.args.self.now in
    let seat = s.session.seat in
    let tail = c.tail_looked-self.result in
    let t = record s { session = c.safe-looked.new.self; pass = c.safe-looked.new.p; tail = tail } in
    let b = book s.pass in
    let e = book c.safe-looked.new.p in
    let r = c.safe-looked.result in
    let told = c.safe-looked.ensures in
    let same = told.seat in
    let held = session_held s.session b seat c.requires.stands.session in
    let pends = pending_of s.session.stage (part_of b.view seat) c.requires.stands.session.kept.stage (own_phase s c.requires.stands.session ∙ c.requires.pending) in
    let steps = told.still.steps in
    let took = told.still.took in
    let goes = took_goes law seat steps b e took in
    let start = took_start law seat steps b e took in
    let seen_at : SeenThen s.tail s.flushed b = λ z goes_on. c.own_views_go_on.ensures.seen seat s.tail s.flushed b z c.requires.stands.may goes_on in
    let shows : Shows = λ core sound only. c.states_show_the_history.ensures.history SESSIONS core sound only in
    let done = looked law seat s.tail s.flushed b e start held pends c.requires.stands.may.known goes seen_at shows r told.safe told.refused told.took_none in
    let is = c.tail_looked-self.ensures in
    let own = own_view seat s.tail s.flushed b in
    let more : s.tail ≤ tail = subst (λ (n : ℕ). s.tail ≤ n) (sym is) done.more in
    let seen : IsSeen tail s.flushed e = subst (λ (n : ℕ). IsSeen n s.flushed e) (sym is) done.seen_now in
    let later : IsLater (own.session seat) ((own_view seat tail s.flushed e).session seat) = subst (λ (n : ℕ). IsLater (own.session seat) ((own_view seat n s.flushed e).session seat)) (sym is) done.later in
    let now : own_view seat (tail_looked s.tail r) s.flushed e ≡ bare_of t = ap (λ (n : ℕ). own_view seat n s.flushed e) (sym is) ∙ sym (own_at s t same) in
    let onward : Onward law = λ at tails flushed then_tail then_flushed first last f goes_on starts more_tail more_flushed is_later end.
    c.own_views_go_on.ensures.onward at tails flushed then_tail then_flushed first last f goes_on starts more_tail more_flushed is_later end in
    let again : Again law = λ at tails flushed then_tail then_flushed list first last may steps_taken between seen_then.
    c.own_views_go_on.ensures.again at tails flushed then_tail then_flushed list first last may steps_taken between seen_then in
    let at_seat : (f : View) → EndsIn law t.session.seat e (bare_of t) f → EndsIn law seat e (bare_of t) f = λ f end. subst (λ (n : ℕ). EndsIn law n e (bare_of t) f) same end in
    let past : phase_at (bare_of s) seat ≡ Active → ⊥ = λ on. absurd (let pending = c.requires.pending in cc) in
    let keeps = keeps_own s t same c.requires.stands.session told.stands (λ on. absurd (past_safe r _ told.safe_phase told.phase on)) in
    record {
      stands = stands_again law again c.args.shared.now s t steps c.requires.stands told.fits same told.stands told.known took seen;
      onward = goes_onward law onward s t same goes start more (omega arith) later;
      ok = on_ok_to r _ _ (λ did. did_safe s t keeps past did) (subst (λ (v : View). OnOk r (After seat (DidSafeBeside seat) own v)) now done.ok);
      safe =
          look_ends law seat b e r (bare_of t) t.session.seat same (work_at own seat).begin
          (λ bound f end so. c.ends_keep_safe_stamps.ensures.safe seat bound e (bare_of t) f end so) done.safe_at;
      err = err_to r _ _ (λ why did. not_safe s t keeps past why did) (subst (λ (v : View). IfErr r (λ stop. After seat (NotSafeBeside seat stop) own v)) now done.err);
      met =
          err_to r _ _ (λ why met f end. not_safe_met (own_saves s) (own_saves t) f seat own (bare_of t) why (met f end))
          (look_met law seat b e r own (own_view seat (tail_looked s.tail r) s.flushed e) (bare_of t) now t.session.seat same done.met);
      word = told.met;
      looked = told.took_none;
    }
