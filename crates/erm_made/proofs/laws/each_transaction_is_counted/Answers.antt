use Rattle.erm_made.proofs.Counted.{each_counted}
use Rattle.erm_made.proofs.Newer.{counts_add_up, none_meets_newer}
use Rattle.erm_made.proofs.laws.each_transaction_is_counted.Goals as goal

pub returns-clause-each : goal.returns-clause-each
returns-clause-each c = each_counted

pub returns-clause-newer : goal.returns-clause-newer
returns-clause-newer c = none_meets_newer

pub returns-clause-sum : goal.returns-clause-sum
returns-clause-sum c = counts_add_up
