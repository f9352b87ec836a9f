use Rattle.std.proofs.Common.{◌≡◌, ℕ, ◌≤◌, IfErr, IfOk, ap, ◌∙◌, sym, subst, arith}
use Rattle.erm_beside.specs.Calls.{After, MayNotBeginBeside}
use Rattle.erm_beside.specs.Later.{IsLater}
use Rattle.erm_beside.specs.Safe.{DidBeginSafeBeside}
use Rattle.erm_own_view.specs.Own.{own_view}
use Rattle.erm_own_view.proofs.Along.{took_start}
use Rattle.erm_rule.specs.Books.{book}
use Rattle.erm_rule.specs.Views.{part_of}
use Rattle.erm_rule.proofs.Wents.{took_goes}
use Rattle.erm_session.specs.Took.{TookNoBegin}
use Rattle.erm_world.specs.declared.stops.BeginStop.TheVariants as stops
use Rattle.erm_core_steps.proofs.Results.{err_to, ok_to}
use Rattle.erm_model.specs.declared.outcome.Phase.TheVariants.{Active}
use Rattle.erm_table_world.proofs.Held.{past_begun_safe}
use Rattle.erm_world.specs.World.{View, phase_at}
use Rattle.erm_shared_session.proofs.Lifts.{did_begin_safe, not_begun}
use Rattle.erm_shared_session.proofs.Saved.{keeps_own}
use Rattle.erm_shared_session.specs.Seen.{tail_after}
use Rattle.erm_shared_session.specs.Stands.{bare_of}
use Rattle.erm_shared_session.proofs.Beginning.{idle_place}
use Rattle.erm_shared_session.proofs.Results.{never}
use Rattle.erm_shared_session.proofs.SnapshotBegins.{safe_known_of, safe_steps_of, told_safe}
use Rattle.erm_shared_session.proofs.Standing.{Again, IsSeen, Onward, Rise, SeenThen, goes_onward, own_at, own_idle, own_phase, session_held, stands_again}
use Rattle.erm_shared_session.proofs.snapshots.TableSessionSafeSession.begin_safe.Goals as goal

pub begin_safe-begun-requires : goal.begin_safe-begun-requires
begin_safe-begun-requires g c =
    let s = c.args.self.now in
    record { fits = c.requires.stands.fits; stands = c.requires.stands.session; idle = own_phase s c.requires.stands.session ∙ c.requires.idle }

pub returns : goal.returns
returns g c =
    let law = g.L.RowLaw.law in
    let s = c.args.self.now in
    let seat = s.session.seat in
    let tail = c.tail_after-self.result in
    let t = record s { session = c.begin_safe-begun.new.self; pass = c.begin_safe-begun.new.p; tail = tail } in
    let b = book s.pass in
    let e = book c.begin_safe-begun.new.p in
    let r = c.begin_safe-begun.result in
    let told = c.begin_safe-begun.ensures in
    let same = told.seat in
    let held = session_held s.session b seat c.requires.stands.session in
    let place = idle_place s.session.stage (part_of b.view seat) (own_phase s c.requires.stands.session ∙ c.requires.idle) c.requires.stands.session.kept.stage in
    let taken = safe_steps_of law seat b e r told.took told.took_none in
    let steps = taken.0 in
    let took = taken.1 in
    let goes = took_goes law seat steps b e took in
    let start = took_start law seat steps b e took in
    let seen_at : SeenThen s.tail s.flushed b = λ z goes_on. c.own_views_go_on.ensures.seen seat s.tail s.flushed b z c.requires.stands.may goes_on in
    let rises : Rise = λ first second q k sound event. c.numbers_rise.ensures.event first second q k sound event in
    let done = told_safe law seat s.tail s.flushed b e c.requires.stands.may place start held rises seen_at r (own_idle s c.requires.idle) told.took told.took_none told.begun told.refused in
    let is = c.tail_after-self.ensures in
    let own = own_view seat s.tail s.flushed b in
    let more : s.tail ≤ tail = subst (λ (n : ℕ). s.tail ≤ n) (sym is) done.more in
    let seen : IsSeen tail s.flushed e = subst (λ (n : ℕ). IsSeen n s.flushed e) (sym is) done.seen_now in
    let later : IsLater (own.session seat) ((own_view seat tail s.flushed e).session seat) = subst (λ (n : ℕ). IsLater (own.session seat) ((own_view seat n s.flushed e).session seat)) (sym is) done.later in
    let now : own_view seat (tail_after s.tail r) s.flushed e ≡ bare_of t = ap (λ (n : ℕ). own_view seat n s.flushed e) (sym is) ∙ sym (own_at s t same) in
    let onward : Onward law = λ at tails flushed then_tail then_flushed first last f goes_on starts more_tail more_flushed is_later end.
    c.own_views_go_on.ensures.onward at tails flushed then_tail then_flushed first last f goes_on starts more_tail more_flushed is_later end in
    let again : Again law = λ at tails flushed then_tail then_flushed list first last may steps_taken between seen_then.
    c.own_views_go_on.ensures.again at tails flushed then_tail then_flushed list first last may steps_taken between seen_then in
    let past : phase_at (bare_of s) seat ≡ Active → ⊥ = λ on. absurd (let idle = c.requires.idle in cc) in
    let keeps = keeps_own s t same c.requires.stands.session told.stands (λ on. absurd (past_begun_safe r _ told.pending told.idle on)) in
    record {
      stands =
          stands_again law again c.args.shared.now s t steps c.requires.stands told.fits same told.stands (safe_known_of law seat b e r c.requires.stands.may.known told.begun told.refused) took seen;
      onward = goes_onward law onward s t same goes start more (omega arith) later;
      below = done.below;
      ok = ok_to r _ _ (λ at did. did_begin_safe s t keeps past at did) (subst (λ (v : View). IfOk r (λ begin. After seat (DidBeginSafeBeside seat begin) own v)) now done.ok);
      err = err_to r _ _ (λ why did. not_begun s t keeps why did) (subst (λ (v : View). IfErr r (λ stop. After seat (MayNotBeginBeside seat stop) own v)) now done.err);
      memory = never r (λ why. TookNoBegin law seat why b e) stops.Memory (λ none. none) told.took_none;
      loaded = told.took;
    }
