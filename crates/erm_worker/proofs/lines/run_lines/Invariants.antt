use Rattle.std.proofs.Common.{◌≡◌, ◌≤◌, length}
use Rattle.erm_world.specs.World.{View}
use Rattle.erm_lines.specs.Executions.{line_moves}
use Rattle.erm_beside.specs.Laws.{GoesOnward}
use Rattle.erm_lines_at_once.specs.Executions.{IsOwnRun}
use Rattle.std.specs.Prelude.{vec_capacity}
use Rattle.erm_worker.specs.Work.{IsReady}
use Rattle.erm_worker.proofs.lines.run_lines.Given as goal

-- the lines so far were answered
abbrev pub invariant-loop-line : goal.invariant-loop-line
invariant-loop-line g l = record {
  stands : g.S.SharedSession.stands l.shared l.session;
  onward : GoesOnward (g.S.SharedSession.seat l.fn.session) (g.S.SharedSession.seat l.session) (g.S.SharedSession.ends l.fn.session) (g.S.SharedSession.ends l.session);
  ready : IsReady (g.S.SharedSession.own l.session) (g.S.SharedSession.seat l.fn.session) l.receipt;
  many : length l.answers.items ≡ l.line-index;
  room : length l.lines ≤ vec_capacity l.answers;
  ran : (f : View) → g.S.SharedSession.ends l.session f
      → IsOwnRun f (g.S.SharedSession.seat l.fn.session) (g.S.SharedSession.own l.fn.session) (line_moves l.lines l.answers.items) (g.S.SharedSession.own l.session);
}
