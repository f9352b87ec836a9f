use Rattle.erm_bad_reports.proofs.OfCutReports.{fault_breaks, fitting_breaks, log_breaks, once_breaks, owing_breaks, unfilled_breaks, unseen_breaks}
use Rattle.erm_bad_reports.proofs.OfCutWaits.{wait_breaks}
use Rattle.erm_bad_reports.proofs.OfCutSnapshots.{reply_breaks}
use Rattle.erm_bad_reports.proofs.laws.clauses_of_cut_reports_are_needed.Goals as goal

pub returns-clause-fault : goal.returns-clause-fault
returns-clause-fault c = fault_breaks

pub returns-clause-log : goal.returns-clause-log
returns-clause-log c = log_breaks

pub returns-clause-fit : goal.returns-clause-fit
returns-clause-fit c = fitting_breaks

pub returns-clause-owes : goal.returns-clause-owes
returns-clause-owes c = owing_breaks

pub returns-clause-once : goal.returns-clause-once
returns-clause-once c = once_breaks

pub returns-clause-unseen : goal.returns-clause-unseen
returns-clause-unseen c = unseen_breaks

pub returns-clause-unfilled : goal.returns-clause-unfilled
returns-clause-unfilled c = unfilled_breaks

pub returns-clause-begins_wait : goal.returns-clause-begins_wait
returns-clause-begins_wait c = wait_breaks

pub returns-clause-reply : goal.returns-clause-reply
returns-clause-reply c = reply_breaks
