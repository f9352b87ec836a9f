use Rattle.erm_lists.specs.Stands.{lists_view}
use Rattle.erm_world.proofs.WithSaves.{did_abort}
use Rattle.erm_plain.specs.Stands.{held_by}
use Rattle.erm_plain.proofs.Holding.{becomes_keeps, kept_stands}
use Rattle.erm_plain.proofs.safe_world.PlainSafeWorld.end_safe.Goals as goal

pub returns-clause-stands : goal.returns-clause-stands
returns-clause-stands g c =
    c.standing_worlds_have_laws.ensures _
    (kept_stands g.L.RowLaw.law c.args.self.now c.end_safe.new.self c.requires.stands.stands c.end_safe.ensures.stands
    (becomes_keeps (lists_view c.args.self.now.lists) (lists_view c.end_safe.new.self) c.args.seat (held_by c.args.self.now.saves) _ (λ active. absurd (cc)) c.end_safe.ensures.ended))

pub returns-clause-ended : goal.returns-clause-ended
returns-clause-ended g c =
    let v = lists_view c.args.self.now.lists in
    let t = lists_view c.end_safe.new.self in
    let held = held_by c.args.self.now.saves in
    did_abort held v t c.args.seat c.end_safe.ensures.ended
