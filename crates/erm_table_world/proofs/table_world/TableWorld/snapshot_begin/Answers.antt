use Rattle.std.proofs.Common.{sym, ◌∙◌, subst}
use Rattle.erm_rule.specs.Books.{book}
use Rattle.erm_rule.specs.Went.{core_of}
use Rattle.erm_session.specs.Safe.{IsSnapshotPhase}
use Rattle.erm_table_world.specs.Stands.{table_view}
use Rattle.erm_table_world.proofs.SafeReading.{snapshot_active, snapshot_phase}
use Rattle.erm_table_world.proofs.Sessions.{here}
use Rattle.erm_table_world.proofs.Surveying.{begin_shown}
use Rattle.erm_table_world.proofs.table_world.TableWorld.snapshot_begin.Goals as goal

pub snapshot_begin-requires : goal.snapshot_begin-requires
snapshot_begin-requires g c =
    let at = here g.L.RowLaw.law c.args.self.now c.args.seat c.index.result.now c.requires.stands c.requires.session c.index.ensures in
    record { snapshot = subst IsSnapshotPhase (sym at.phase) (snapshot_phase (table_view c.args.self.now) c.args.seat c.requires.snapshot) }

pub returns : goal.returns
returns g c =
    let w = c.args.self.now in
    let b = book w.pass in
    let s = c.index.result.now in
    let at = here g.L.RowLaw.law w c.args.seat s c.requires.stands c.requires.session c.index.ensures in
    let active =
    snapshot_active s.stage ((core_of b).seats c.args.seat) at.is.kept.stage (subst IsSnapshotPhase (sym at.phase) (snapshot_phase (table_view w) c.args.seat c.requires.snapshot))
    in
    c.snapshot_begin.ensures ((core_of b).seats c.args.seat) at.is ∙ sym (begin_shown w.count c.args.seat (core_of b) active)
