use Rattle.erm_good_report.specs.GoodReport.{places_of}
use Rattle.erm_good_report.specs.Transactions.{transactions_of}
use Rattle.erm_lines_at_once.proofs.Parts.{in_part}
use Rattle.erm_causes_at_once.proofs.runs_at_once_tell_saves.Goals as goal

pub returns : goal.returns
returns c = λ v f script answers closed opening run of.
    c.runs_in_part_tell_log.ensures.saves v f script script answers closed opening (in_part v f script answers closed run) of
    (transactions_of v.opening.sessions (places_of script answers closed))
