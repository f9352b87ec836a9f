use Rattle.std.proofs.Common.{refl, subst}
use Rattle.erm_machine.specs.declared.event.Kind.TheVariants.{StoreOverwriter}
use Rattle.erm_machine.specs.declared.version.VersionAt.{VersionAt}
use Rattle.erm_rule.specs.Steps.{Booked}
use Rattle.erm_rule.proofs.Telling.{is_held}
use Rattle.erm_readers.proofs.Ending.{cell_of_stepped, did_mark, ended_stays, has_decided, has_stepped, known_stepped, object_of_ended, object_of_stepped, ready_mark, ready_succ}
use Rattle.erm_readers.proofs.ends.mark_overwritten.Goals as goal

pub store_succ-requires-clause-held : goal.store_succ-requires-clause-held
store_succ-requires-clause-held g c = is_held c.args.p.now.me.0.view c.args.who _ (has_decided c.args.p.now.me.0.view c.args.who c.requires.known c.requires.decided c.requires.committed)

pub store_succ-requires-clause-object : goal.store_succ-requires-clause-object
store_succ-requires-clause-object g c = object_of_ended c.args.p.now.me.0.view c.args.who c.requires.known c.requires.decided c.requires.committed c.requires.marking c.args.stamp c.args.succ c.requires.stamp c.requires.succ

pub store_succ-requires-clause-ready : goal.store_succ-requires-clause-ready
store_succ-requires-clause-ready g c = ready_succ c.args.p.now.me.0.view c.args.who c.requires.known c.requires.decided c.requires.committed c.requires.marking c.args.stamp c.args.succ c.requires.stamp c.requires.succ

pub store_overwriter-requires-clause-held : goal.store_overwriter-requires-clause-held
store_overwriter-requires-clause-held g c = is_held _ c.args.who _ (has_stepped c.args.p.now.me.0.view c.args.who c.requires.known c.requires.decided c.requires.committed c.requires.marking c.args.stamp c.args.succ c.requires.stamp c.requires.succ c.args.cell c.store_succ.ensures.told.0 c.requires.cell _ c.store_succ.ensures.told.1.told)

pub store_overwriter-requires-clause-known : goal.store_overwriter-requires-clause-known
store_overwriter-requires-clause-known g c = known_stepped c.args.p.now.me.0.view c.args.who c.requires.known c.requires.decided c.requires.committed c.requires.marking c.args.stamp c.args.succ c.requires.stamp c.requires.succ c.args.cell c.store_succ.ensures.told.0 c.requires.cell _ c.store_succ.ensures.told.1.told

pub store_overwriter-requires-clause-object : goal.store_overwriter-requires-clause-object
store_overwriter-requires-clause-object g c = object_of_stepped c.args.p.now.me.0.view c.args.who c.requires.known c.requires.decided c.requires.committed c.requires.marking c.args.stamp c.args.succ c.requires.stamp c.requires.succ c.args.cell c.store_succ.ensures.told.0 c.requires.cell _ c.store_succ.ensures.told.1.told

pub store_overwriter-requires-clause-cell : goal.store_overwriter-requires-clause-cell
store_overwriter-requires-clause-cell g c = cell_of_stepped c.args.p.now.me.0.view c.args.who c.requires.known c.requires.decided c.requires.committed c.requires.marking c.args.stamp c.args.succ c.requires.stamp c.requires.succ c.args.cell c.store_succ.ensures.told.0 c.requires.cell _ c.store_succ.ensures.told.1.told

pub store_overwriter-requires-clause-ready : goal.store_overwriter-requires-clause-ready
store_overwriter-requires-clause-ready g c = ready_mark c.args.p.now.me.0.view c.args.who c.requires.known c.requires.decided c.requires.committed c.requires.marking c.args.stamp c.args.succ c.requires.stamp c.requires.succ c.args.cell c.store_succ.ensures.told.0 c.requires.cell _ c.store_succ.ensures.told.1.told

pub returns-clause-marked : goal.returns-clause-marked
returns-clause-marked g c = did_mark c.args.p.now.me.0.view c.args.who c.requires.known c.requires.decided c.requires.committed c.requires.marking c.args.stamp c.args.succ c.requires.stamp c.requires.succ c.args.cell c.store_succ.ensures.told.0 c.requires.cell _ c.store_succ.ensures.told.1.told c.store_overwriter.ensures.told.0 _ c.store_overwriter.ensures.told.1.told

pub returns-clause-took : goal.returns-clause-took
returns-clause-took g c = (
  c.store_succ.ensures.booked.0,
  c.store_overwriter.ensures.booked.0,
  (
    c.store_succ.new.p.me.0,
    (c.args.p.now.me.0, refl, c.store_succ.ensures.booked.1),
    subst (λ (n : VersionAt). Booked g.L.RowLaw.law c.store_succ.new.p.me.0 c.args.who (StoreOverwriter n c.args.stamp) c.store_overwriter.ensures.booked.0 c.store_overwriter.new.p.me.0)
        (ended_stays c.args.p.now.me.0.view c.args.who c.requires.known c.requires.decided c.requires.committed c.requires.marking c.args.stamp c.args.succ c.requires.stamp c.requires.succ c.args.cell c.store_succ.ensures.told.0 c.requires.cell _ c.store_succ.ensures.told.1.told)
        c.store_overwriter.ensures.booked.1,
  ),
)
