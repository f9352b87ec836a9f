use Rattle.std.proofs.Common.{◌≡◌, ℕ, ◌+◌, [], length, take}
use Rattle.erm_good_report.specs.Transactions.{said_of}
use Rattle.erm_summary.specs.Told.{FollowEach, HaveRoom}
use Rattle.erm_summary.proofs.commits.hear_lines.Given as goal

-- the sessions went on by the answers so far
abbrev pub invariant-loop-place : goal.invariant-loop-place
invariant-loop-place l = record {
  follows : FollowEach l.script l.answers [] 1 l.initial.heard.items → FollowEach l.script l.answers (take l.place (said_of l.script l.answers)) 1 l.heard.items;
  room : (more rest : ℕ) → l.place + rest ≡ length l.script → HaveRoom (length l.script + more) l.initial.heard.items → HaveRoom (rest + more) l.heard.items;
  count : length l.heard.items ≡ length l.initial.heard.items;
}
