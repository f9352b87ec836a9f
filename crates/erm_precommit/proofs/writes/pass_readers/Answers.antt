use Rattle.std.proofs.Common.{◌∙◌}
use Rattle.std.proofs.lemmas.Result.{err_from_is_err_and}
use Rattle.erm_precommit.proofs.Causes.{stopped_by_reader}
use Rattle.erm_precommit.proofs.Loops.{none_left, some_left}
use Rattle.erm_precommit.proofs.Standing.{then_on}
use Rattle.erm_precommit.proofs.writes.pass_readers.Goals as goal
use Rattle.erm_rule.proofs.Wents.{went_more}
use Rattle.erm_precommit.proofs.Took.{wait_after}

pub loop-bits-init : goal.loop-bits-init
loop-bits-init g c =
    (c.load_others-bits.ensures.fits, record { went = c.load_others-bits.ensures.went; stands = c.load_others-bits.ensures.stands; task = c.load_others-bits.ensures.task }, c.load_others-bits.ensures.readers, c.load_others-bits.ensures.loads)

pub look_at_least-requires-clause-task : goal.look_at_least-requires-clause-task
look_at_least-requires-clause-task g c = c.loop-bits.invariant.1.task ∙ some_left c.args.place c.loop-bits.bits c.loop-bits-test.true

pub loop-bits-preserved : goal.loop-bits-preserved
loop-bits-preserved g c = (
  c.look_at_least.ensures.fits,
  record {
    went = then_on c.args.p.now.me.0.view c.args.who c.requires.stands.sealed _ _ c.loop-bits.invariant.1.went c.look_at_least.ensures.went;
    stands = c.look_at_least.ensures.stands;
    task = c.in_ok-bits.ensures.left;
  },
  λ q one. c.loop-bits.invariant.2 q (c.in_ok-bits.ensures.among q one),
  went_more _ _ _ _ _ _ c.loop-bits.invariant.3 c.look_at_least.ensures.loads,
)

pub loop-bits-smaller : goal.loop-bits-smaller
loop-bits-smaller g c = c.in_ok-bits.ensures.fewer

pub returns-in_err-bits-clause-went : goal.returns-in_err-bits-clause-went
returns-in_err-bits-clause-went g c = then_on c.args.p.now.me.0.view c.args.who c.requires.stands.sealed _ _ c.loop-bits.invariant.1.went c.look_at_least.ensures.went

pub returns-in_err-bits-clause-waits : goal.returns-in_err-bits-clause-waits
returns-in_err-bits-clause-waits g c =
    let p = err_from_is_err_and c.from_residual.result c.from_residual.ensures.1 in
    rw (p.1, p.2) (stopped_by_reader c.args.p.now.me.0.view c.args.who c.requires.stands.sealed _ c.loop-bits.invariant.1.went c.args.place c.loop-bits.bits _ _ _ (c.loop-bits.invariant.2 _ c.look_at_least.ensures.set)
    (c.loop-bits.invariant.1.task ∙ some_left c.args.place c.loop-bits.bits c.loop-bits-test.true) c.look_at_least.ensures.set c.in_err-bits.ensures.stops)

pub returns-clause-clear : goal.returns-clause-clear
returns-clause-clear g c = c.loop-bits.invariant.1.task ∙ none_left c.args.place c.loop-bits.bits c.loop-bits-test.false

pub returns-in_err-bits-clause-loads : goal.returns-in_err-bits-clause-loads
returns-in_err-bits-clause-loads g c = went_more _ _ _ _ _ _ c.loop-bits.invariant.3 c.look_at_least.ensures.loads

pub returns-in_err-bits-clause-took_wait : goal.returns-in_err-bits-clause-took_wait
returns-in_err-bits-clause-took_wait g c =
    let p = err_from_is_err_and c.from_residual.result c.from_residual.ensures.1 in
    rw (p.1, p.2) (wait_after _ _ _ _ _ _ _ c.loop-bits.invariant.3 c.in_err-bits.ensures.took_wait)
