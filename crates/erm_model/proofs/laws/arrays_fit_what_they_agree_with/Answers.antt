use Rattle.erm_model.proofs.Records.{Fits-agrees}
use Rattle.erm_model.proofs.laws.arrays_fit_what_they_agree_with.Goals as goal

pub returns : goal.returns
returns g c t rows = Fits-agrees g.R.RowLaw.law t rows
