use Rattle.erm_good_report.specs.Transactions.{history_of}
use Rattle.erm_good_at_once.specs.CutReports.{AreSerial}
use Rattle.erm_lines_at_once.proofs.Parts.{whole_of}
use Rattle.erm_told_at_once.proofs.runs_at_once_are_serial.Goals as goal

pub returns : goal.returns
returns c = whole_of (λ opening whole part answers told. AreSerial opening (history_of told)) c.runs_in_part_are_told.ensures.serial
