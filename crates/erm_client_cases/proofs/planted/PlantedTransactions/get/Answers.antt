use Rattle.std.proofs.Common.{refl}
use Rattle.erm_client.specs.Transcripts.{answered}
use Rattle.erm_client_cases.proofs.planted.PlantedTransactions.get.Goals as goal
use Rattle.erm_report.specs.declared.answer.Answer.TheVariants as answer

pub returns-in_default-clause-err : goal.returns-in_default-clause-err
returns-in_default-clause-err g c = answered answer.NoTransaction c.in_ok-note.ensures.ok refl
