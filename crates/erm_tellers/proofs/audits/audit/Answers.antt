use Rattle.std.proofs.Common.{arith}
use Rattle.erm_tellers.proofs.Behind.{audited_kept, audited_vain, goes, tried_first, tried_more, tried_within}
use Rattle.erm_tellers.proofs.audits.audit.Goals as goal
use Rattle.erm_tellers.specs.Served.{AuditedOnce}

pub returns-then-not-is_unsafe-clause-kept : goal.returns-then-not-is_unsafe-clause-kept
returns-then-not-is_unsafe-clause-kept g c =
    audited_kept c.args.low c.args.high c.tries._tried c.tries.found c.args.client.now.transcript c.tries.client.transcript c.tries.invariant.ended c.requires.kept

pub returns-then-not-is_unsafe-clause-ended : goal.returns-then-not-is_unsafe-clause-ended
returns-then-not-is_unsafe-clause-ended g c =
    tried_within c.tries.invariant.ended c.tries.invariant.within (λ passing. absurd (c.is_unsafe.ensures.other c.if-not-is_unsafe.true passing))

pub tries-init : goal.tries-init
tries-init g c = record {
  on = c.look_once-found.ensures.on;
  within = omega arith;
  ended = tried_first c.look_once-found.ensures.ended;
  rests = c.look_once-found.ensures.rests;
}

pub tries-preserved : goal.tries-preserved
tries-preserved g c = record {
  on = goes c.tries.invariant.on c.look_once-found-in-tries.ensures.on;
  within = omega (arith, c.tries-test.true);
  ended = tried_more c.tries.invariant.ended
      (λ before did. audited_vain c.args.low c.args.high c.tries.found (c.is_unsafe.ensures.passing c.if-not-is_unsafe.false) before c.tries.client.transcript did)
      c.look_once-found-in-tries.ensures.ended;
  rests = c.look_once-found-in-tries.ensures.rests;
}

pub returns-clause-kept : goal.returns-clause-kept
returns-clause-kept g c = audited_kept c.args.low c.args.high c.tries._tried c.tries.found c.args.client.now.transcript c.tries.client.transcript c.tries.invariant.ended c.requires.kept

pub returns-clause-ended : goal.returns-clause-ended
returns-clause-ended g c =
    let few = c.tries.invariant.ended.few in
    let within = c.tries.invariant.within in
    tried_within {CameTo = AuditedOnce c.args.low c.args.high c.tries.found} c.tries.invariant.ended within (λ _. omega (arith, few, within, c.tries-test.false))
