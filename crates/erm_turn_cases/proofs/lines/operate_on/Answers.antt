use Rattle.std.proofs.Common.{Option}
use Rattle.erm_report.specs.declared.answer.Answer.{Answer}
use Rattle.erm_world.specs.World.{View}
use Rattle.erm_lines_at_once.specs.Operations.{TriedOnce}
use Rattle.erm_turn_cases.specs.Turns.{IsRunNow}
use Rattle.erm_turn_cases.proofs.Kept.{on_ok_of, tried_runs}
use Rattle.erm_turn_cases.proofs.lines.operate_on.Goals as goal

pub returns-clause-ran : goal.returns-clause-ran
returns-clause-ran g c =
    let seat = g.S.SharedSession.seat c.args.txn.now.session.now in
    let before = g.S.SharedSession.own c.args.txn.now.session.now in
    let after = c.operate_by.new.txn.session.now in
    let standing = c.operate_by.ensures.follows.1 c.requires.active.0 in
    let some = g.met.S.SharedSession.some c.operate_by.new.txn.shared.now after standing in
    on_ok_of c.operate_by.result (λ (tried : Option Answer). (f : View) → g.S.SharedSession.ends after f → TriedOnce f seat c.args.command.now tried before (g.S.SharedSession.own after))
    (IsRunNow (g.S.SharedSession.own after) seat)
    (λ tried was. tried_runs some.0 seat c.args.command.now tried before (g.S.SharedSession.own after) c.requires.active.1 c.requires.ran (was some.0 some.1)) c.operate_by.ensures.tried
