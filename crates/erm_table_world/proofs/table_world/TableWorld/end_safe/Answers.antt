use Rattle.std.proofs.Common.{ℕ, ◌∙◌, subst, sym}
use Rattle.erm_cells.specs.Took.{IsEndStep}
use Rattle.erm_cells.proofs.Took.{ends_still}
use Rattle.erm_ends.specs.Ends.{DidAbort}
use Rattle.erm_rule.specs.Books.{book}
use Rattle.erm_rule.specs.Views.{view}
use Rattle.erm_rule.specs.Went.{IsStillStep, Went, core_of}
use Rattle.erm_session.specs.Safe.{IsSnapshotPhase}
use Rattle.erm_table_world.specs.Stands.{table_view}
use Rattle.erm_table_world.proofs.Aborting.{aborted}
use Rattle.erm_table_world.proofs.SafeReading.{snapshot_active, snapshot_phase}
use Rattle.erm_model.specs.declared.outcome.Phase.TheVariants.{Idle}
use Rattle.erm_session.proofs.Saved.{stays_past}
use Rattle.erm_table_world.proofs.Held.{keeps_saves}
use Rattle.erm_table_world.proofs.Sessions.{called, here, is_now, quiet_still}
use Rattle.erm_table_world.proofs.Still.{went_ran, went_stayed}
use Rattle.erm_table_world.proofs.table_world.TableWorld.end_safe.Goals as goal

pub end_safe-requires : goal.end_safe-requires
end_safe-requires g c =
    let at = here g.L.RowLaw.law c.args.self.now c.args.seat c.index_mut.result.now c.requires.stands c.requires.session c.index_mut.ensures.value in
    record {
      fits = c.requires.stands.fits;
      known = at.known;
      stands = at.stands;
      snapshot = subst IsSnapshotPhase (sym at.phase) (snapshot_phase (table_view c.args.self.now) c.args.seat c.requires.snapshot);
    }

pub returns : goal.returns
returns g c =
    let law = g.L.RowLaw.law in
    let w = c.args.self.now in
    let seat = c.args.seat in
    let s = c.index_mut.result.now in
    let stands = c.requires.stands in
    let at = here law w seat s stands c.requires.session c.index_mut.ensures.value in
    let b = book w.pass in
    let e = book c.end_safe.new.p in
    let active =
    snapshot_active s.stage ((core_of b).seats seat) at.is.kept.stage (subst IsSnapshotPhase (sym at.phase) (snapshot_phase (table_view w) seat c.requires.snapshot))
    in
    let ends = subst (λ (n : ℕ). Went law n IsEndStep b e) at.seat c.end_safe.ensures.ends in
    let went = ends_still law seat b e ends in
    let ran = went_ran law w.count seat IsStillStep b e went stands.at.state in
    let stayed = went_stayed law w.count seat b e went stands.at.state in
    let is = is_now law e seat s.seat c.end_safe.new.self ran.state at.seated at.seat c.end_safe.ensures.stands in
    let ended = subst (λ (n : ℕ). DidAbort (view w.pass) n (view c.end_safe.new.p)) at.seat c.end_safe.ensures.aborted in
    record {
      stands =
          called law w seat c.end_safe.new.p c.end_safe.new.self stands c.requires.session
          (record {
            fits = c.end_safe.ensures.fits;
            ran = ran;
            quiet = quiet_still law w.count seat b e c.end_safe.new.self stands.at.quiet c.requires.session ran stayed is;
            seat = c.end_safe.ensures.seat ∙ at.seat;
            is = is;
          });
      saves = keeps_saves law w seat s stands c.requires.session c.index_mut.ensures.value c.end_safe.new.p ran c.end_safe.new.self c.end_safe.ensures.stands (stays_past s c.end_safe.new.self _ _ Idle c.end_safe.ensures.idle (λ e. absurd (cc)));
      ended = aborted law w.count seat b e stands.at.state at.session at.seated active ends ended;
    }
