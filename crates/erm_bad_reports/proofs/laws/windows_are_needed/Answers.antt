use Rattle.erm_bad_reports.proofs.OfWindows.{high_breaks, low_breaks}
use Rattle.erm_bad_reports.proofs.laws.windows_are_needed.Goals as goal

pub returns-clause-low : goal.returns-clause-low
returns-clause-low c = low_breaks

pub returns-clause-high : goal.returns-clause-high
returns-clause-high c = high_breaks
