use Rattle.std.proofs.lemmas.List.Elements.{All-weaker}
use Rattle.erm_model.specs.Committed.{Committed}
use Rattle.erm_invariant.specs.Invariant.{Keeps}
use Rattle.erm_report_invariant.specs.Reports.{commits_in}
use Rattle.erm_accounts.specs.Accounts.{AreSolvent, IsOfBank}
use Rattle.erm_accounts.proofs.laws.reports_show_solvent_customers.Goals as goal

pub returns : goal.returns
returns c mode opening names script lines good solvent are =
    (c.good_reports_keep_invariants.ensures (record {}) mode opening names script lines good solvent
    (All-weaker (λ (d : Committed). IsOfBank d.steps) (λ (d : Committed). Keeps AreSolvent d.steps) (λ (d : Committed). c.transactions_keep_solvency.ensures d.steps)
    (commits_in names script good.report) are)).last
