use Rattle.std.proofs.Common.{◌≡◌, ℕ, ◌<◌, ◌^◌, List, [], length}
use Rattle.erm_report.specs.declared.answer.Answer.{Answer}
use Rattle.erm_script.specs.declared.script.ScriptLine.{ScriptLine}
use Rattle.erm_summary.specs.Told.{FollowEach, HaveRoom}
use Rattle.erm_summary.proofs.commits.silent.Given as goal

-- the sessions so far were not answered yet
abbrev pub invariant-loop-place : goal.invariant-loop-place
invariant-loop-place l = record {
  follows : (script : List ScriptLine) (answers : List Answer) → FollowEach script answers [] 1 l.heard.items;
  room : (more : ℕ) → more < 2 ^ 32 → HaveRoom more l.heard.items;
  count : length l.heard.items ≡ l.place;
}
