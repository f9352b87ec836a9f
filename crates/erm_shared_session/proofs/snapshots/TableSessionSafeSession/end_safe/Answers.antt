use Rattle.std.proofs.Common.{sym, subst, arith}
use Rattle.erm_rule.specs.Books.{book}
use Rattle.erm_rule.specs.Views.{part_of}
use Rattle.erm_rule.proofs.Wents.{took_goes}
use Rattle.erm_session.specs.Safe.{IsSnapshotPhase}
use Rattle.erm_session.proofs.Snapshots.{may_end_safe}
use Rattle.erm_table_world.proofs.SafeReading.{snapshot_phase}
use Rattle.erm_world.specs.Calls.{DidAbort}
use Rattle.erm_world.specs.World.{View}
use Rattle.erm_own_view.specs.Own.{own_view}
use Rattle.erm_own_view.proofs.Along.{took_start}
use Rattle.erm_own_view.proofs.Own.{own_passes}
use Rattle.erm_shared_session.specs.Stands.{bare_of, seat_of}
use Rattle.erm_shared_session.proofs.Lifts.{did_abort}
use Rattle.erm_shared_session.proofs.Saved.{keeps_own}
use Rattle.erm_session.proofs.Saved.{stays_past}
use Rattle.erm_model.specs.declared.outcome.Phase.TheVariants.{Idle}
use Rattle.erm_shared_session.proofs.SnapshotLooks.{Snaps, ended_later, snapshot_ended}
use Rattle.erm_shared_session.proofs.Standing.{Again, Onward, goes_onward, own_at, own_phase, session_held, stands_again}
use Rattle.erm_shared_session.proofs.snapshots.TableSessionSafeSession.end_safe.Goals as goal

pub end_safe-requires : goal.end_safe-requires
end_safe-requires g c =
    let s = c.args.self.now in
    record {
      fits = c.requires.stands.fits;
      known = c.requires.stands.may.known;
      stands = c.requires.stands.session;
      snapshot = subst IsSnapshotPhase (sym (own_phase s c.requires.stands.session)) (snapshot_phase (bare_of s) (seat_of s) c.requires.snapshot);
    }

pub returns : goal.returns
returns g c =
    let law = g.L.RowLaw.law in
    let s = c.args.self.now in
    let seat = s.session.seat in
    let t = record s { session = c.end_safe.new.self; pass = c.end_safe.new.p } in
    let b = book s.pass in
    let e = book c.end_safe.new.p in
    let same = c.end_safe.ensures.seat in
    let steps = c.end_safe.ensures.ends.steps in
    let took = c.end_safe.ensures.ends.took in
    let goes = took_goes law seat steps b e took in
    let start = took_start law seat steps b e took in
    let held = session_held s.session b seat c.requires.stands.session in
    let may = may_end_safe s.session (part_of b.view seat) c.requires.stands.session
    (subst IsSnapshotPhase (sym (own_phase s c.requires.stands.session)) (snapshot_phase (bare_of s) (seat_of s) c.requires.snapshot)) in
    let snaps : Snaps (part_of b.view seat) = record { active = may.active; snapshot = may.snapshot } in
    let known = c.requires.stands.may.known in
    let did = snapshot_ended seat s.tail s.flushed b e start held snaps known c.end_safe.ensures.aborted in
    let later = ended_later seat s.tail s.flushed b e start held snaps known c.end_safe.ensures.aborted in
    let onward : Onward law = λ at tails flushed then_tail then_flushed first last f goes_on starts more_tail more_flushed is_later end.
    c.own_views_go_on.ensures.onward at tails flushed then_tail then_flushed first last f goes_on starts more_tail more_flushed is_later end in
    let again : Again law = λ at tails flushed then_tail then_flushed list first last may_call steps_taken between seen_then.
    c.own_views_go_on.ensures.again at tails flushed then_tail then_flushed list first last may_call steps_taken between seen_then in
    let keeps = keeps_own s t same c.requires.stands.session c.end_safe.ensures.stands (stays_past s.session t.session _ _ Idle c.end_safe.ensures.idle (λ e. absurd (cc))) in
    record {
      stands =
          stands_again law again c.args.shared.now s t steps c.requires.stands c.end_safe.ensures.fits same c.end_safe.ensures.stands c.end_safe.ensures.ended.known took
          (c.own_views_go_on.ensures.seen seat s.tail s.flushed b e c.requires.stands.may goes);
      onward = goes_onward law onward s t same goes start (omega arith) (omega arith) later;
      ended = did_abort s t keeps (own_view seat s.tail s.flushed b, own_passes seat s.tail s.flushed s.tail s.flushed b (omega arith) (omega arith), subst (λ (v : View). DidAbort (own_view seat s.tail s.flushed b) seat v) (sym (own_at s t same)) did);
    }
