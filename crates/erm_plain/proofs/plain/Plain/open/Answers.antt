use Rattle.erm_plain.proofs.Holding.{opened_stands}
use Rattle.erm_plain.proofs.plain.Plain.open.Goals as goal

pub returns-clause-world : goal.returns-clause-world
returns-clause-world g c =
    c.standing_worlds_have_laws.ensures _
    (opened_stands g.L.RowLaw.law c.in_ok-lists.lists c.in_ok-saves.saves c.args.sessions c.in_ok-lists.ensures.stands c.in_ok-lists.ensures.sessions c.in_ok-saves.ensures)
