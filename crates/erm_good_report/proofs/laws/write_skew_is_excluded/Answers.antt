use Rattle.erm_good_report.proofs.OneWindow.{its_window}
use Rattle.erm_good_report.proofs.WriteSkew.{write_skew_is_excluded}
use Rattle.erm_good_report.proofs.laws.write_skew_is_excluded.Goals as goal

pub returns-clause-good : goal.returns-clause-good
returns-clause-good c = write_skew_is_excluded

pub returns-clause-determined : goal.returns-clause-determined
returns-clause-determined c = its_window
