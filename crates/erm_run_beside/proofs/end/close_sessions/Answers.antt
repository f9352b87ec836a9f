use Rattle.std.proofs.Common.{Bool, sym, ap, ◌∙◌, subst}
use Rattle.erm_rule.specs.Books.{book}
use Rattle.erm_rule.specs.Views.{view}
use Rattle.erm_desk.specs.All.{TurnsAll}
use Rattle.erm_desk.specs.Desk.{Sees}
use Rattle.erm_rule.specs.declared.view.Opening.{Opening}
use Rattle.erm_engine.specs.Closed.{AreJoined, HaveClosed}
use Rattle.erm_run_beside.specs.Closing.{ClosesDesk}
use Rattle.erm_desk.proofs.Turned.{sees}
use Rattle.erm_engine.proofs.Taken.{unpinned_stay}
use Rattle.erm_run_beside.proofs.Failed.{all_stay}
use Rattle.erm_run_beside.proofs.Closing.{closes_desk, still_joined, takes_in}
use Rattle.erm_run_beside.proofs.end.close_sessions.Goals as goal

pub join_all-requires-clause-joins : goal.join_all-requires-clause-joins
join_all-requires-clause-joins g c = c.into_parts-disk.ensures.desk.joins

pub join_all-requires-clause-gathers : goal.join_all-requires-clause-gathers
join_all-requires-clause-gathers g c = c.into_parts-disk.ensures.desk.may

pub of_parts-desk-requires-clause-unpinned : goal.of_parts-desk-requires-clause-unpinned
of_parts-desk-requires-clause-unpinned g c =
    unpinned_stay (view c.into_parts-disk.result.1) (view c.join_all.new.flush) c.join_all.ensures.taken.parts c.into_parts-disk.ensures.desk.may c.into_parts-disk.ensures.unpinned

pub of_parts-desk-requires-clause-desk : goal.of_parts-desk-requires-clause-desk
of_parts-desk-requires-clause-desk g c =
    let parts = c.into_parts-disk in
    let a = book parts.result.1 in
    let e = book c.join_all.new.flush in
    c.desks_take_in.ensures g.B.Naming.start g.B.Naming.began g.B.Naming.faults (sees a (g.D.Disk.told parts.result.0) (g.D.Disk.faults parts.result.0) parts.result.2) e parts.ensures.desk
    (takes_in _ a e parts.ensures.desk.may c.join_all.ensures.taken)

pub close_joined-requires-clause-gathers : goal.close_joined-requires-clause-gathers
close_joined-requires-clause-gathers g c = c.into_parts-disk-2.ensures.desk.may

pub returns : goal.returns
returns g c =
    let law = g.L.RowLaw.law in
    let start = g.B.Naming.start in
    let ss = c.args.sessions.items in
    let all = c.turn_all.ensures.turns in
    let first = subst (λ (d : Sees). AreJoined law c.args.table ss d.book) (sym c.of_parts-desk.ensures.same) c.join_all.ensures.joined in
    let joined = still_joined law c.args.table start ss _ _ _ _ all first in
    let last = subst (λ (d : Sees). AreJoined law c.args.table ss d.book) (sym c.into_parts-disk-2.ensures.same) joined in
    let closed = c.close_joined.ensures ss last in
    let seen = sees (book c.into_parts-disk-2.result.1) (g.D.Disk.told c.into_parts-disk-2.result.0) (g.D.Disk.faults c.into_parts-disk-2.result.0) c.into_parts-disk-2.result.2 in
    let turns = subst (λ (d : Sees). TurnsAll law start c.turn_all.result.turns c.turn_all.result.stop c.of_parts-desk.result d) (sym c.into_parts-disk-2.ensures.same) all in
    record {
      closes =
          subst (λ (f : Bool). ClosesDesk law c.args._opening.now g.B.Naming.began g.B.Naming.faults ss (g.D.Disk.told c.into_parts-disk-2.result.0) (g.D.Disk.faults c.into_parts-disk-2.result.0) f) (sym c.has_failed.ensures)
          (closes_desk c.decided_blocks_stay.ensures.event law c.args.table c.args._opening.now start g.B.Naming.began g.B.Naming.faults ss c.turn_all.result.turns c.turn_all.result.stop c.of_parts-desk.result seen c.close_joined.result c.requires.start
          c.into_parts-disk-2.ensures.desk turns first (subst (λ (o : Opening). HaveClosed law o ss (book c.into_parts-disk-2.result.1) c.close_joined.result) c.requires.key closed));
      failed = λ was.
          c.has_failed.ensures
          ∙ (ap (λ (d : Sees). d.failed) c.into_parts-disk-2.ensures.same
          ∙ all_stay law start c.turn_all.result.turns c.turn_all.result.stop _ _ all (ap (λ (d : Sees). d.failed) c.of_parts-desk.ensures.same ∙ (ap (λ (d : Sees). d.failed) c.into_parts-disk.ensures.same ∙ was)));
    }
