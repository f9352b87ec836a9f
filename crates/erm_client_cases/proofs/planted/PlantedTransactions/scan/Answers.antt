use Rattle.std.proofs.Common.{refl}
use Rattle.erm_client.specs.Transcripts.{answered}
use Rattle.erm_client_cases.proofs.planted.PlantedTransactions.scan.Goals as goal
use Rattle.erm_report.specs.declared.answer.Answer.TheVariants as answer

pub returns-in_default-clause-err : goal.returns-in_default-clause-err
returns-in_default-clause-err g c = answered answer.NoTransaction c.in_ok-note.ensures.ok refl

pub returns-in_default-2-clause-err : goal.returns-in_default-2-clause-err
returns-in_default-2-clause-err g c = answered answer.ReadsFull c.in_ok-note-2.ensures.ok refl
