use Rattle.erm_bad_reports.proofs.OfSaves.{miscounted, misread}
use Rattle.erm_bad_reports.proofs.OfForgotten.{forgotten_below_breaks, forgotten_breaks}
use Rattle.erm_bad_reports.proofs.OfUndone.{held_breaks, idle_breaks, left_breaks, reader_breaks, sealed_breaks}
use Rattle.erm_bad_reports.proofs.laws.savepoints_are_needed.Goals as goal

pub returns-clause-counts : goal.returns-clause-counts
returns-clause-counts c = miscounted

pub returns-clause-ends : goal.returns-clause-ends
returns-clause-ends c = held_breaks

pub returns-clause-replies : goal.returns-clause-replies
returns-clause-replies c = misread

pub returns-clause-left : goal.returns-clause-left
returns-clause-left c = left_breaks

pub returns-clause-idle : goal.returns-clause-idle
returns-clause-idle c = idle_breaks

pub returns-clause-sealed : goal.returns-clause-sealed
returns-clause-sealed c = sealed_breaks

pub returns-clause-safe : goal.returns-clause-safe
returns-clause-safe c = reader_breaks

pub returns-clause-high : goal.returns-clause-high
returns-clause-high c = forgotten_breaks

pub returns-clause-low : goal.returns-clause-low
returns-clause-low c = forgotten_below_breaks
