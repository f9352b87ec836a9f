use Rattle.std.proofs.Common.{ap}
use Rattle.erm_world.specs.Saves.{with_saves}
use Rattle.erm_world.specs.World.{View}
use Rattle.erm_lists.specs.Stands.{lists_view}
use Rattle.erm_plain.specs.Stands.{held_by}
use Rattle.erm_plain.proofs.Holding.{kept_stands, same_keeps}
use Rattle.erm_plain.proofs.safe_world.PlainSafeWorld.safe_read.Goals as goal

pub returns-clause-stands : goal.returns-clause-stands
returns-clause-stands g c =
    c.standing_worlds_have_laws.ensures _
    (kept_stands g.L.RowLaw.law c.args.self.now c.safe_read.new.self c.requires.stands.stands c.safe_read.ensures.stands
    (same_keeps (lists_view c.args.self.now.lists) (lists_view c.safe_read.new.self) c.args.seat (held_by c.args.self.now.saves) c.safe_read.ensures.same))

pub returns-clause-same : goal.returns-clause-same
returns-clause-same g c = ap (λ (v : View). with_saves (held_by c.args.self.now.saves) v) c.safe_read.ensures.same
