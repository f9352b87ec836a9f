use Rattle.erm_report.proofs.Reading.{texts_determine}
use Rattle.erm_report.proofs.laws.texts_determine_lines.Goals as goal

pub returns : goal.returns
returns c = texts_determine
