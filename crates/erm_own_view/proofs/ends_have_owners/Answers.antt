use Rattle.erm_own_view.proofs.Owners.{owners_end}
use Rattle.erm_own_view.proofs.ends_have_owners.Goals as goal

pub returns : goal.returns
returns g c seat oid other number own m e v f session goes end so =
    owners_end (λ first second q k sound event. c.numbers_rise.ensures.event first second q k sound event) g.L.RowLaw.law seat oid other number own m e v f session goes end so
