use Rattle.std.proofs.Common.{arith}
use Rattle.erm_tellers.proofs.Behind.{served_done, served_kept, served_vain, tried_first, tried_more, tried_within}
use Rattle.erm_tellers.proofs.tellers.serve.Goals as goal

pub returns-then-not-is_passing-clause-kept : goal.returns-then-not-is_passing-clause-kept
returns-then-not-is_passing-clause-kept g c = served_kept c.args.task c.tries._tried c.tries.outcome (g.X.Transactions.transcript c.args.client.now) (g.X.Transactions.transcript c.tries.client) c.tries.invariant.ended c.requires.kept

pub returns-then-not-is_passing-clause-ended : goal.returns-then-not-is_passing-clause-ended
returns-then-not-is_passing-clause-ended g c =
    tried_within c.tries.invariant.ended c.tries.invariant.within (λ passing. absurd (c.is_passing.ensures.other c.if-not-is_passing.true passing))

pub returns-then-not-is_passing-clause-done : goal.returns-then-not-is_passing-clause-done
returns-then-not-is_passing-clause-done g c = served_done c.args.task c.tries._tried c.tries.outcome (g.X.Transactions.transcript c.args.client.now) (g.X.Transactions.transcript c.tries.client) c.tries.invariant.ended

pub tries-init : goal.tries-init
tries-init g c = record {
  stands = c.try_once-outcome.ensures.stands;
  on = c.try_once-outcome.ensures.on;
  within = omega arith;
  ended = tried_first c.try_once-outcome.ensures.ended;
  rests = c.try_once-outcome.ensures.rests;
}

pub tries-preserved : goal.tries-preserved
tries-preserved g c = record {
  stands = c.try_once-outcome-in-tries.ensures.stands;
  on = g.met.X.Transactions.goes_on c.args.client.now c.tries.client c.try_once-outcome-in-tries.new.client c.tries.invariant.on c.try_once-outcome-in-tries.ensures.on;
  within = omega (arith, c.tries-test.true);
  ended = tried_more c.tries.invariant.ended (λ before served. served_vain c.args.task c.tries.outcome (c.is_passing.ensures.passing c.if-not-is_passing.false) before (g.X.Transactions.transcript c.tries.client) served)
      c.try_once-outcome-in-tries.ensures.ended;
  rests = c.try_once-outcome-in-tries.ensures.rests;
}

pub returns-clause-kept : goal.returns-clause-kept
returns-clause-kept g c = served_kept c.args.task c.tries._tried c.tries.outcome (g.X.Transactions.transcript c.args.client.now) (g.X.Transactions.transcript c.tries.client) c.tries.invariant.ended c.requires.kept

pub returns-clause-ended : goal.returns-clause-ended
returns-clause-ended g c =
    let few = c.tries.invariant.ended.few in
    let within = c.tries.invariant.within in
    tried_within c.tries.invariant.ended within (λ _. omega (arith, few, within, c.tries-test.false))

pub returns-clause-done : goal.returns-clause-done
returns-clause-done g c = served_done c.args.task c.tries._tried c.tries.outcome (g.X.Transactions.transcript c.args.client.now) (g.X.Transactions.transcript c.tries.client) c.tries.invariant.ended
