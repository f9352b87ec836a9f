use Rattle.std.proofs.Common.{◌≤◌, length, arith}
use Rattle.std.specs.FinMap.{from_entries}
use Rattle.erm_model.specs.Committed.{Committed}
use Rattle.erm_model.specs.Database.{entries_of}
use Rattle.erm_model.specs.Member.{◌∈◌}
use Rattle.erm_good_report.specs.GoodReport.{places_of}
use Rattle.erm_good_report.specs.Opening.{AtOnce}
use Rattle.erm_good_report.specs.Transactions.{transactions_of}
use Rattle.erm_log_run.proofs.Held.{tells_from}
use Rattle.erm_disk_run.specs.Found.{ReadsAs}
use Rattle.erm_disk_run.specs.Runs.{commits_told}
use Rattle.erm_disk_at_once.specs.Runs.{LeavesAll}
use Rattle.erm_shipped.specs.Shipped.{KeepsShipped}
use Rattle.erm_shipped.proofs.Runs.{leaves_all_shipped}
use Rattle.erm_shipped.proofs.laws.runs_at_once_keep_safe_stamps.Goals as goal

pub returns : goal.returns
returns c before after state names script lines found was =
    let report = was.good.good.report in
    let commits = commits_told names script report.answers report.closed in
    let map = from_entries (entries_of report.pairs) in
    let stamp = was.starts.stamp in
    let low : (d : Committed) → d ∈ commits → state.at ≤ d.succ = λ d m.
    let behind = c.commits_stay_behind_the_opening.ensures AtOnce was.opening script report.answers (transactions_of (length names) (places_of script report.answers report.closed)) was.good.good.owes d m in
    omega (arith, behind, stamp) in
    tells_from (ReadsAs state) (LeavesAll commits state map) KeepsShipped before after found.told
    (λ old new reads leaves. leaves_all_shipped commits state low old new reads map leaves) was.leaves
