use Rattle.erm_lists.specs.Stands.{lists_view}
use Rattle.erm_world.proofs.WithSaves.{did_seal}
use Rattle.erm_plain.specs.Stands.{held_by}
use Rattle.erm_plain.proofs.Holding.{kept_stands, seal_keeps}
use Rattle.erm_plain.proofs.world.PlainRowWorld.seal.Goals as goal

pub returns-clause-stands : goal.returns-clause-stands
returns-clause-stands g c =
    c.standing_worlds_have_laws.ensures _
    (kept_stands g.L.RowLaw.law c.args.self.now c.seal.new.self c.requires.stands.stands c.seal.ensures.stands
    (seal_keeps (lists_view c.args.self.now.lists) (lists_view c.seal.new.self) c.args.seat (held_by c.args.self.now.saves) c.seal.result c.seal.ensures.sealed))

pub returns-clause-sealed : goal.returns-clause-sealed
returns-clause-sealed g c =
    let v = lists_view c.args.self.now.lists in
    let t = lists_view c.seal.new.self in
    let held = held_by c.args.self.now.saves in
    did_seal held v t c.args.seat c.seal.result c.seal.ensures.sealed
