use Rattle.std.proofs.Common.{◌≡◌, ℕ, ◌+◌, ◌<◌, ◌≤◌, ◌++◌, length, slice_index_or, take, vec_capacity, vec_len}
use Rattle.erm_good_report.specs.GoodReport.{answer_lines}
use Rattle.erm_report.specs.declared.answer.Answer.TheVariants.{NoReceipt}
use Rattle.erm_log_run.proofs.cut.add_answers.Given as goal

-- the answers so far have their lines, and the others still stand there
abbrev pub invariant-loop-place : goal.invariant-loop-place
invariant-loop-place l = record {
  many : length l.answers.items ≡ length l.fn.answers.items;
  others : (k : ℕ) → l.place ≤ k → k < length l.fn.answers.items → slice_index_or l.answers.items k NoReceipt ≡ slice_index_or l.fn.answers.items k NoReceipt;
  added : l.lines.items ≡ l.fn.lines.items ++ answer_lines (take l.place l.script) (take l.place l.fn.answers.items);
  len : vec_len l.lines ≡ vec_len l.fn.lines + l.place;
  capacity : vec_capacity l.fn.lines ≤ vec_capacity l.lines;
}
