use Rattle.std.proofs.Common.{◌≡◌, ◌+◌, ◌≤◌, ◌++◌, drop, length, vec_capacity, vec_len}
use Rattle.std.specs.Vec.Iter.{into_iter_items, into_iter_len}
use Rattle.erm_good_at_once.specs.CutReports.{answered_of}
use Rattle.erm_good_report.specs.GoodReport.{answer_lines}
use Rattle.erm_run_at_once.proofs.Counts.{left_of}
use Rattle.erm_run_at_once.proofs.cut.add_answered.Given as goal

-- the lines so far, and those that the answers left have
abbrev pub invariant-loop-line : goal.invariant-loop-line
invariant-loop-line l = record {
  told : l.lines.items ++ answer_lines (answered_of (left_of l.counts) (drop l.line-index l.script)) (into_iter_items l.answers)
      ≡ l.fn.lines.items ++ answer_lines (answered_of (left_of l.fn.counts) l.script) l.fn.answers.items;
  len : vec_len l.lines ≤ vec_len l.fn.lines + l.line-index;
  known : into_iter_len l.answers ≡ length (into_iter_items l.answers);
  capacity : vec_capacity l.fn.lines ≤ vec_capacity l.lines;
}
