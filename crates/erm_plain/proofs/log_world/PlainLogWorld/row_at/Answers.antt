use Rattle.std.proofs.Common.{refl}
use Rattle.std.proofs.lemmas.Result.{IfOk-weaker}
use Rattle.erm_lists.specs.Stands.{lists_view}
use Rattle.erm_plain.specs.Stands.{held_by}
use Rattle.erm_plain.proofs.Holding.{kept_stands, sessions_keep}
use Rattle.erm_plain.proofs.log_world.PlainLogWorld.row_at.Goals as goal

pub returns-clause-stands : goal.returns-clause-stands
returns-clause-stands g c =
    c.standing_worlds_have_laws.ensures _
    (kept_stands g.L.RowLaw.law c.args.self.now c.row_at.new.self c.requires.stands.stands c.row_at.ensures.stands
    (sessions_keep (lists_view c.args.self.now.lists) (lists_view c.row_at.new.self) (held_by c.args.self.now.saves) c.row_at.ensures.keeps.sessions))

pub returns-clause-keeps : goal.returns-clause-keeps
returns-clause-keeps g c = record { lists = c.row_at.ensures.keeps; saves = refl }

pub returns-clause-lasts : goal.returns-clause-lasts
returns-clause-lasts g c = IfOk-weaker c.row_at.result _ _ (λ row lasts later keeps. lasts later.lists keeps.lists) c.row_at.ensures.lasts
