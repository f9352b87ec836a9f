use Rattle.std.proofs.Common.{ℕ}
use Rattle.erm_seats.specs.Calls.{DidBegin}
use Rattle.erm_session.proofs.Skewing.{ok_says}
use Rattle.erm_session_bench.proofs.transactions.commit_one.Goals as goal

pub read-requires-clause-known : goal.read-requires-clause-known
read-requires-clause-known c =
    (ok_says (λ (begin : ℕ). DidBegin c.args.pass.now.me.0.view c.args.session.now.seat begin c.begin.new.p.me.0.view) c.begin.result c.in_ok-ok.field-0 c.in_ok-ok.ensures.value c.begin.ensures.begun).known
