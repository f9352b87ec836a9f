use Rattle.std.proofs.Common.{refl}
use Rattle.erm_client.specs.Transcripts.{answered}
use Rattle.erm_client_cases.proofs.planted.PlantedTransactions.abort.Goals as goal
use Rattle.erm_report.specs.declared.answer.Answer.TheVariants as answer

pub returns-then-is_none-clause-err : goal.returns-then-is_none-clause-err
returns-then-is_none-clause-err g c = answered answer.NoTransaction c.in_ok-note.ensures.ok refl
