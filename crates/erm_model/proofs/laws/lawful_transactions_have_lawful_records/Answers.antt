use Rattle.erm_model.proofs.Records.{IsLawfulRecord-told}
use Rattle.erm_model.proofs.laws.lawful_transactions_have_lawful_records.Goals as goal

pub returns : goal.returns
returns g c s t told lawful = IsLawfulRecord-told g.T.RowRead.face s t told lawful
