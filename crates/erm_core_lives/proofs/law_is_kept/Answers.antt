use Rattle.erm_core_lives.proofs.LawKept.{law_kept}
use Rattle.erm_core_lives.proofs.law_is_kept.Goals as goal

pub returns : goal.returns
returns g c core d seat kind sound old draws e = law_kept g.L.RowLaw.law core seat kind d sound old draws e
