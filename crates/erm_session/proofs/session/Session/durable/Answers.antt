use Rattle.std.proofs.Common.{refl}
use Rattle.erm_session.proofs.Looks.{held_there, known_looked, looked_session, looked_writes, looks, ready_flushed}
use Rattle.erm_session.proofs.Saved.{shows_same}
use Rattle.erm_session.proofs.Syncs.{is_flushed_to, was_flushed}
use Rattle.erm_session.proofs.session.Session.durable.Goals as goal

pub load_flushed-flushed-requires-clause-held : goal.load_flushed-flushed-requires-clause-held
load_flushed-flushed-requires-clause-held g c = held_there c.args.self.now _ c.requires.stands

pub load_flushed-flushed-requires-clause-ready : goal.load_flushed-flushed-requires-clause-ready
load_flushed-flushed-requires-clause-ready g c = ready_flushed c.args.self.now _ c.requires.stands

pub returns-then-receipt-flushed-clause-known : goal.returns-then-receipt-flushed-clause-known
returns-then-receipt-flushed-clause-known g c = known_looked c.args.self.now _ c.requires.stands c.load_flushed-flushed.result _ c.load_flushed-flushed.ensures.told.told

pub returns-then-receipt-flushed-clause-stands : goal.returns-then-receipt-flushed-clause-stands
returns-then-receipt-flushed-clause-stands g c = looked_session c.args.self.now _ c.requires.stands c.load_flushed-flushed.result _ c.load_flushed-flushed.ensures.told.told

pub returns-then-receipt-flushed-clause-looked : goal.returns-then-receipt-flushed-clause-looked
returns-then-receipt-flushed-clause-looked g c = looks c.args.self.now _ c.requires.stands c.load_flushed-flushed.result _ c.load_flushed-flushed.ensures.told.told

pub returns-then-receipt-flushed-clause-synced : goal.returns-then-receipt-flushed-clause-synced
returns-then-receipt-flushed-clause-synced g c =
    is_flushed_to g.L.RowLaw.law c.args.p.now.me.0 c.args.self.now.seat c.load_flushed-flushed.result c.load_flushed-flushed.new.p.me.0 c.load_flushed-flushed.ensures.booked c.args.receipt.now.end c.if-receipt-flushed.true

pub returns-else-receipt-flushed-clause-known : goal.returns-else-receipt-flushed-clause-known
returns-else-receipt-flushed-clause-known g c = known_looked c.args.self.now _ c.requires.stands c.load_flushed-flushed.result _ c.load_flushed-flushed.ensures.told.told

pub returns-else-receipt-flushed-clause-stands : goal.returns-else-receipt-flushed-clause-stands
returns-else-receipt-flushed-clause-stands g c = looked_session c.args.self.now _ c.requires.stands c.load_flushed-flushed.result _ c.load_flushed-flushed.ensures.told.told

pub returns-else-receipt-flushed-clause-looked : goal.returns-else-receipt-flushed-clause-looked
returns-else-receipt-flushed-clause-looked g c = looks c.args.self.now _ c.requires.stands c.load_flushed-flushed.result _ c.load_flushed-flushed.ensures.told.told

pub returns-else-receipt-flushed-clause-unsynced : goal.returns-else-receipt-flushed-clause-unsynced
returns-else-receipt-flushed-clause-unsynced g c = (
  was_flushed g.L.RowLaw.law c.args.p.now.me.0 c.args.self.now.seat c.load_flushed-flushed.result c.load_flushed-flushed.new.p.me.0 c.load_flushed-flushed.ensures.booked,
  c.if-receipt-flushed.false,
)

pub returns-then-receipt-flushed-clause-took : goal.returns-then-receipt-flushed-clause-took
returns-then-receipt-flushed-clause-took g c = (c.load_flushed-flushed.result, c.if-receipt-flushed.true, (c.args.p.now.me.0, refl, c.load_flushed-flushed.ensures.booked))

pub returns-else-receipt-flushed-clause-took_none : goal.returns-else-receipt-flushed-clause-took_none
returns-else-receipt-flushed-clause-took_none g c = (c.args.p.now.me.0, refl, c.load_flushed-flushed.ensures.booked)

pub returns-then-receipt-flushed-clause-saves : goal.returns-then-receipt-flushed-clause-saves
returns-then-receipt-flushed-clause-saves g c = shows_same c.args.self.now.stage c.args.self.now.saves.points _ _ (looked_writes c.args.self.now _ c.requires.stands c.load_flushed-flushed.result _ c.load_flushed-flushed.ensures.told.told)

pub returns-else-receipt-flushed-clause-saves : goal.returns-else-receipt-flushed-clause-saves
returns-else-receipt-flushed-clause-saves g c = shows_same c.args.self.now.stage c.args.self.now.saves.points _ _ (looked_writes c.args.self.now _ c.requires.stands c.load_flushed-flushed.result _ c.load_flushed-flushed.ensures.told.told)
