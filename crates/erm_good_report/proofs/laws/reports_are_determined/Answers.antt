use Rattle.erm_good_report.proofs.Determining.{reports_determined}
use Rattle.erm_good_report.proofs.laws.reports_are_determined.Goals as goal

pub returns : goal.returns
returns c = reports_determined c.texts_determine_lines.ensures
