use Rattle.std.proofs.Common.{◌≡◌, refl, sym, ◌∙◌, arith}
use Rattle.erm_own_view.specs.Own.{own_view}
use Rattle.erm_own_view.proofs.Along.{took_start}
use Rattle.erm_rule.specs.Books.{book}
use Rattle.erm_rule.specs.Views.{part_of}
use Rattle.erm_rule.proofs.Wents.{took_goes}
use Rattle.erm_table_world.proofs.SafeReading.{safe_of}
use Rattle.erm_model.specs.declared.outcome.Phase.TheVariants.{Active}
use Rattle.erm_world.specs.World.{phase_at, work_at}
use Rattle.erm_shared_session.proofs.Lifts.{passes_own}
use Rattle.erm_shared_session.proofs.Saved.{keeps_own}
use Rattle.erm_shared_session.specs.Stands.{bare_of}
use Rattle.erm_shared_session.proofs.SnapshotReads.{read_later, read_passes, row_there}
use Rattle.erm_shared_session.proofs.Standing.{Again, Onward, goes_onward, own_phase, session_held, stands_again}
use Rattle.erm_shared_session.proofs.snapshots.TableSessionSafeSession.safe_read.Goals as goal

pub safe_read-requires : goal.safe_read-requires
safe_read-requires g c =
    let s = c.args.self.now in
    record {
      fits = c.requires.stands.fits;
      stands = c.requires.stands.session;
      safe = own_phase s c.requires.stands.session ∙ c.requires.safe;
      object = c.requires.object;
    }

pub returns : goal.returns
returns g c =
    let law = g.L.RowLaw.law in
    let s = c.args.self.now in
    let seat = s.session.seat in
    let oid = c.args.oid in
    let t = record s { pass = c.safe_read.new.p } in
    let b = book s.pass in
    let e = book c.safe_read.new.p in
    let row = c.safe_read.result in
    let did = c.safe_read.ensures.read in
    let held = session_held s.session b seat c.requires.stands.session in
    let rests = safe_of s.session.stage (part_of b.view seat) c.requires.stands.session.kept.stage (own_phase s c.requires.stands.session ∙ c.requires.safe) in
    let steps = c.safe_read.ensures.loads.steps in
    let took = c.safe_read.ensures.loads.took in
    let goes = took_goes law seat steps b e took in
    let start = took_start law seat steps b e took in
    let onward : Onward law = λ at tails flushed then_tail then_flushed first last f goes_on starts more_tail more_flushed is_later end.
    c.own_views_go_on.ensures.onward at tails flushed then_tail then_flushed first last f goes_on starts more_tail more_flushed is_later end in
    let again : Again law = λ at tails flushed then_tail then_flushed list first last may steps_taken between seen_then.
    c.own_views_go_on.ensures.again at tails flushed then_tail then_flushed list first last may steps_taken between seen_then in
    let past : phase_at (bare_of s) seat ≡ Active → ⊥ = λ on. absurd (let safe = c.requires.safe in cc) in
    let keeps = keeps_own s t refl c.requires.stands.session c.safe_read.ensures.stands (λ on. absurd (past (sym (own_phase s c.requires.stands.session) ∙ on))) in
    record {
      stands =
          stands_again law again c.args.shared.now s t steps c.requires.stands c.safe_read.ensures.fits refl c.safe_read.ensures.stands c.safe_read.ensures.known took
          (c.own_views_go_on.ensures.seen seat s.tail s.flushed b e c.requires.stands.may goes);
      onward = goes_onward law onward s t refl goes start (omega arith) (omega arith) (read_later seat s.tail s.flushed b e start held rests oid row did);
      same = passes_own s t (keeps.own (λ on. absurd (past on))) (read_passes seat s.tail s.flushed b e start held rests oid row did);
      row = λ f end.
          c.ends_keep_safe_stamps.ensures.rows seat (work_at (own_view seat s.tail s.flushed b) seat).begin oid row e (bare_of t) f end
          (row_there seat s.tail s.flushed b e start held rests oid row did c.safe_rows_are_snapshots.ensures c.requires.object);
    }
