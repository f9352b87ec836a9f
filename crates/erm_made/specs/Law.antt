-- What the counts of a workload's report add up to.
use Rattle.std.specs.Prelude.{◌≡◌, ℕ, ◌+◌, ◌≤◌, List}
use Rattle.erm_report.specs.declared.line.Line.{Line}
use Rattle.erm_good_report.specs.GoodReport.{IsGoodReport}
use Rattle.erm_good_report.specs.Opening.{InTurn, Mode, Opening}
use Rattle.erm_make.specs.Workload.{names_of, numbered, workload}
use Rattle.erm_made.specs.Counts.{count, is_commit, is_exclusion, leaves_open, meets_newer, meets_owner, tells}

-- the lines are a good report of the workload of so many transactions and sessions, and none of them leaves a transaction open
pub record IsReportOfWorkload (mode : Mode) (opening : Opening) (transactions sessions : ℕ) (lines : List Line) : Type 0 where
  pub some : 1 ≤ sessions
  pub good : IsGoodReport mode opening (names_of transactions sessions) (numbered 1 (workload transactions sessions)) lines
  pub decided : count (tells leaves_open) lines ≡ 0

-- Each transaction, of those that load and of the others, ends once: it commits, is excluded, meets an owner or meets a newer version.
abbrev pub EachIsCounted : Type 0
EachIsCounted = (mode : Mode) (opening : Opening) (transactions sessions : ℕ) (lines : List Line) → IsReportOfWorkload mode opening transactions sessions lines
    → count (tells is_commit) lines + count (tells is_exclusion) lines + count (tells meets_owner) lines + count (tells meets_newer) lines ≡ 16 + transactions

-- In turn none meets a newer version: all transactions of a batch begin before one of them claims a key, and those of the batches before are
-- over by then.
abbrev pub NoneMeetsNewer : Type 0
NoneMeetsNewer = (opening : Opening) (transactions sessions : ℕ) (lines : List Line) → IsReportOfWorkload InTurn opening transactions sessions lines
    → count (tells meets_newer) lines ≡ 0

-- So in turn the three counts add up to all.
abbrev pub CountsAddUp : Type 0
CountsAddUp = (opening : Opening) (transactions sessions : ℕ) (lines : List Line) → IsReportOfWorkload InTurn opening transactions sessions lines
    → count (tells is_commit) lines + count (tells is_exclusion) lines + count (tells meets_owner) lines ≡ 16 + transactions
