use Rattle.std.proofs.Common.{refl}
use Rattle.erm_lists.specs.Stands.{lists_view}
use Rattle.erm_plain.specs.Stands.{held_by}
use Rattle.erm_plain.proofs.Holding.{kept_stands, sessions_keep}
use Rattle.erm_plain.proofs.log_world.PlainLogWorld.flushed_to.Goals as goal

pub returns-clause-stands : goal.returns-clause-stands
returns-clause-stands g c =
    c.standing_worlds_have_laws.ensures _
    (kept_stands g.L.RowLaw.law c.args.self.now c.flushed_to.new.self c.requires.stands.stands c.flushed_to.ensures.stands
    (sessions_keep (lists_view c.args.self.now.lists) (lists_view c.flushed_to.new.self) (held_by c.args.self.now.saves) c.flushed_to.ensures.keeps.sessions))

pub returns-clause-keeps : goal.returns-clause-keeps
returns-clause-keeps g c = record { lists = c.flushed_to.ensures.keeps; saves = refl }
