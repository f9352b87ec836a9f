-- How far on the stamps are that a report of sessions at once tells of transactions, where the disk's fault cut it off.
use Rattle.std.specs.Prelude.{ℕ, ◌+◌, ◌*◌, ◌≤◌, List, length, IfSome}
use Rattle.erm_model.specs.declared.limits.TheConstants.{GREATEST_BLOCK, LEAST_BLOCK}
use Rattle.erm_model.specs.Member.{◌∈◌}
use Rattle.erm_report.specs.declared.line.Line.{Line}
use Rattle.erm_script.specs.declared.script.ScriptLine.{ScriptLine}
use Rattle.erm_good_report.specs.GoodReport.{places_of}
use Rattle.erm_good_report.specs.Opening.{Opening}
use Rattle.erm_good_report.specs.Refusals.{draws_of, total_of}
use Rattle.erm_good_report.specs.Transactions.{Transaction, stamp_of, transactions_of}
use Rattle.erm_good_at_once.specs.CutReports.{IsCutAtOnce, answered_of}

-- the end of the greatest block with this stamp is no further on than all lines of the script can have moved the log
abbrev pub IsWithin : Opening → List ScriptLine → ℕ → Type 0
IsWithin opening script stamp = stamp + GREATEST_BLOCK ≤ opening.stamp + LEAST_BLOCK + GREATEST_BLOCK * total_of draws_of script

-- so it is of the stamp of each transaction that is told, also of the sessions that were closed unseen
abbrev pub CutOnesAreWithin : Type 0
CutOnesAreWithin = (opening : Opening) (names : List (List ℕ)) (script : List ScriptLine) (lines : List Line) (cut : IsCutAtOnce opening names script lines)
    → (t : Transaction) → t ∈ transactions_of (length names) (places_of (answered_of cut.counts script) cut.answers cut.closed) → IfSome (stamp_of t) (IsWithin opening script)
