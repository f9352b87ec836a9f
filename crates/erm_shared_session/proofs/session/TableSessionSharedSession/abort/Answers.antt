use Rattle.std.proofs.Common.{◌∙◌, sym, subst, arith}
use Rattle.erm_rule.specs.Books.{book}
use Rattle.erm_rule.proofs.Wents.{took_goes}
use Rattle.erm_world.specs.Calls.{DidAbort}
use Rattle.erm_world.specs.World.{View}
use Rattle.erm_own_view.specs.Own.{own_view}
use Rattle.erm_own_view.proofs.Along.{took_start}
use Rattle.erm_own_view.proofs.Own.{own_passes}
use Rattle.erm_shared_session.proofs.Lifts.{did_abort}
use Rattle.erm_shared_session.proofs.Saved.{keeps_own}
use Rattle.erm_session.proofs.Saved.{stays_past}
use Rattle.erm_model.specs.declared.outcome.Phase.TheVariants.{Idle}
use Rattle.erm_shared_session.proofs.Aborting.{aborted, aborted_later}
use Rattle.erm_shared_session.proofs.Standing.{Again, Onward, goes_onward, own_active, own_at, own_phase, session_held, stands_again}
use Rattle.erm_shared_session.proofs.session.TableSessionSharedSession.abort.Goals as goal

pub abort-requires : goal.abort-requires
abort-requires g c =
    let s = c.args.self.now in
    record { fits = c.requires.stands.fits; known = c.requires.stands.may.known; stands = c.requires.stands.session; active = own_phase s c.requires.stands.session ∙ c.requires.active }

pub returns : goal.returns
returns g c =
    let law = g.L.RowLaw.law in
    let s = c.args.self.now in
    let seat = s.session.seat in
    let t = record s { session = c.abort.new.self; pass = c.abort.new.p } in
    let b = book s.pass in
    let e = book c.abort.new.p in
    let same = c.abort.ensures.seat in
    let steps = c.abort.ensures.ends.steps in
    let took = c.abort.ensures.ends.took in
    let goes = took_goes law seat steps b e took in
    let start = took_start law seat steps b e took in
    let held = session_held s.session b seat c.requires.stands.session in
    let did = aborted seat s.tail s.flushed b e start held c.requires.active c.abort.ensures.aborted in
    let later = aborted_later seat s.tail s.flushed b e start held (own_active s c.requires.active) did in
    let onward : Onward law = λ at tail flushed then_tail then_flushed first last f goes_on starts more_tail more_flushed is_later end.
    c.own_views_go_on.ensures.onward at tail flushed then_tail then_flushed first last f goes_on starts more_tail more_flushed is_later end in
    let again : Again law = λ at tail flushed then_tail then_flushed taken first last may steps_taken between seen.
    c.own_views_go_on.ensures.again at tail flushed then_tail then_flushed taken first last may steps_taken between seen in
    let keeps = keeps_own s t same c.requires.stands.session c.abort.ensures.stands (stays_past s.session t.session _ _ Idle c.abort.ensures.idle (λ e. absurd (cc))) in
    record {
      stands =
          stands_again law again c.args.shared.now s t steps c.requires.stands c.abort.ensures.fits same c.abort.ensures.stands c.abort.ensures.aborted.known took
          (c.own_views_go_on.ensures.seen seat s.tail s.flushed b e c.requires.stands.may goes);
      onward = goes_onward law onward s t same goes start (omega arith) (omega arith) later;
      aborted = did_abort s t keeps (own_view seat s.tail s.flushed b, own_passes seat s.tail s.flushed s.tail s.flushed b (omega arith) (omega arith), subst (λ (v : View). DidAbort (own_view seat s.tail s.flushed b) seat v) (sym (own_at s t same)) did);
    }
