use Rattle.std.proofs.Common.{◌≡◌, ℕ, ◌+◌, List, ◌++◌, length, map, take}
use Rattle.erm_report.specs.declared.answer.Answer.{Answer}
use Rattle.erm_script.specs.declared.script.ScriptLine.{ScriptLine}
use Rattle.erm_good_report.specs.Transactions.{Said}
use Rattle.erm_summary.specs.Told.{FollowEach, HaveRoom, closed_of, closes_of}
use Rattle.erm_summary.proofs.commits.hear_closes.Given as goal

-- the sessions went on by the closes so far
abbrev pub invariant-loop-close : goal.invariant-loop-close
invariant-loop-close l = record {
  follows : (script : List ScriptLine) (answers : List Answer) (said : List Said) → FollowEach script answers said 1 l.initial.heard.items
      → FollowEach script answers (said ++ closes_of (map closed_of (take l.close-index l.closed))) 1 l.heard.items;
  room : (rest : ℕ) → l.close-index + rest ≡ length l.closed → HaveRoom rest l.heard.items;
  count : length l.heard.items ≡ length l.initial.heard.items;
}
