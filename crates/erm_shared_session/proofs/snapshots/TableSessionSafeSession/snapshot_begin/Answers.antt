use Rattle.std.proofs.Common.{sym, ◌∙◌, subst}
use Rattle.erm_rule.specs.Books.{book}
use Rattle.erm_rule.specs.Views.{part_of}
use Rattle.erm_session.specs.Safe.{IsSnapshotPhase}
use Rattle.erm_session.proofs.Snapshots.{may_end_safe}
use Rattle.erm_table_world.proofs.SafeReading.{snapshot_phase}
use Rattle.erm_shared_session.specs.Stands.{bare_of, seat_of}
use Rattle.erm_shared_session.proofs.SnapshotLooks.{Snaps, own_begin}
use Rattle.erm_shared_session.proofs.Standing.{own_phase}
use Rattle.erm_shared_session.proofs.snapshots.TableSessionSafeSession.snapshot_begin.Goals as goal

pub snapshot_begin-requires : goal.snapshot_begin-requires
snapshot_begin-requires g c =
    let s = c.args.self.now in
    record { snapshot = subst IsSnapshotPhase (sym (own_phase s c.requires.stands.session)) (snapshot_phase (bare_of s) (seat_of s) c.requires.snapshot) }

pub returns : goal.returns
returns g c =
    let s = c.args.self.now in
    let seat = s.session.seat in
    let b = book s.pass in
    let may = may_end_safe s.session (part_of b.view seat) c.requires.stands.session
    (subst IsSnapshotPhase (sym (own_phase s c.requires.stands.session)) (snapshot_phase (bare_of s) (seat_of s) c.requires.snapshot)) in
    let snaps : Snaps (part_of b.view seat) = record { active = may.active; snapshot = may.snapshot } in
    c.snapshot_begin.ensures (part_of b.view seat) c.requires.stands.session ∙ sym (own_begin seat s.tail s.flushed b snaps)
