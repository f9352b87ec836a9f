use Rattle.erm_bad_reports.proofs.OfDecided.{decided_later_breaks, excluded_later_breaks}
use Rattle.erm_bad_reports.proofs.OfLaterCommits.{newer_later_breaks, shut_later_breaks}
use Rattle.erm_bad_reports.proofs.OfLog.{back_breaks, beside_breaks}
use Rattle.erm_bad_reports.proofs.OfReaders.{waits_breaks}
use Rattle.erm_bad_reports.proofs.OfRefusals.{after_commit_break, alone_break, before_abort_break, before_settle_break, beyond_breaks, newer_breaks, none_tells_cells, reads_alone_breaks}
use Rattle.erm_bad_reports.proofs.laws.causes_of_refusals_are_needed.Goals as goal

pub returns-clause-alone : goal.returns-clause-alone
returns-clause-alone c = alone_break

pub returns-clause-active : goal.returns-clause-active
returns-clause-active c = before_abort_break

pub returns-clause-sealed : goal.returns-clause-sealed
returns-clause-sealed c = before_settle_break

pub returns-clause-committed : goal.returns-clause-committed
returns-clause-committed c = after_commit_break

pub returns-clause-newer : goal.returns-clause-newer
returns-clause-newer c = newer_breaks

pub returns-clause-newer_later : goal.returns-clause-newer_later
returns-clause-newer_later c = newer_later_breaks

pub returns-clause-shut_later : goal.returns-clause-shut_later
returns-clause-shut_later c = shut_later_breaks

pub returns-clause-reader_waits : goal.returns-clause-reader_waits
returns-clause-reader_waits c = waits_breaks

pub returns-clause-beside : goal.returns-clause-beside
returns-clause-beside c = beside_breaks

pub returns-clause-back : goal.returns-clause-back
returns-clause-back c = back_breaks

pub returns-clause-decided_later : goal.returns-clause-decided_later
returns-clause-decided_later c = decided_later_breaks

pub returns-clause-excluded_later : goal.returns-clause-excluded_later
returns-clause-excluded_later c = excluded_later_breaks

pub returns-clause-reads_alone : goal.returns-clause-reads_alone
returns-clause-reads_alone c = reads_alone_breaks

pub returns-clause-oids_beyond : goal.returns-clause-oids_beyond
returns-clause-oids_beyond c = beyond_breaks

pub returns-clause-cells_beyond : goal.returns-clause-cells_beyond
returns-clause-cells_beyond c = none_tells_cells
