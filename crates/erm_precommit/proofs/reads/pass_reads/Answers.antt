use Rattle.std.proofs.Common.{◌≡◌, ℕ, length, arith, ap, ◌∙◌}
use Rattle.arrayvec.specs.ArrayVec.{ArrayVec}
use Rattle.erm_machine.specs.declared.task.Task.TheVariants as task
use Rattle.std.proofs.lemmas.Result.{err_from_is_err_and}
use Rattle.erm_precommit.specs.declared.pre.KeptRead.{KeptRead}
use Rattle.erm_precommit.proofs.Causes.{waits_since}
use Rattle.erm_precommit.proofs.Loops.{reads_same}
use Rattle.erm_precommit.proofs.Standing.{stays, then_on}
use Rattle.erm_precommit.proofs.reads.pass_reads.Goals as goal
use Rattle.erm_rule.proofs.Wents.{went_more, went_none}
use Rattle.erm_precommit.proofs.Took.{wait_after}

pub loop-place-init : goal.loop-place-init
loop-place-init g c =
    (c.requires.fits, record { went = stays c.args.p.now.me.0.view c.args.who c.requires.stands.sealed c.requires.stands.known; stands = c.requires.stands; task = c.requires.task }, went_none _ _ _ _)

pub pass_read-requires-clause-place : goal.pass_read-requires-clause-place
pass_read-requires-clause-place g c =
    let i = c.loop-place.invariant.1 in
    let same = reads_same c.args.pre.now c.loop-place.pre c.args.p.now.me.0.view c.loop-place.p.me.0.view c.args.who c.requires.stands i.went i.stands in
    let there = ap (λ (l : ArrayVec KeptRead). length l.items) c.deref.ensures in
    omega (arith, same, there)

pub loop-place-preserved : goal.loop-place-preserved
loop-place-preserved g c =
    let i = c.loop-place.invariant.1 in (
      c.pass_read.ensures.fits,
      record {
        went = then_on c.args.p.now.me.0.view c.args.who c.requires.stands.sealed _ _ i.went c.pass_read.ensures.went;
        stands = c.pass_read.ensures.stands;
        task = c.in_ok-pass_read.ensures.passed;
      },
      went_more _ _ _ _ _ _ c.loop-place.invariant.2 c.pass_read.ensures.loads,
    )

pub returns-in_err-pass_read-clause-went : goal.returns-in_err-pass_read-clause-went
returns-in_err-pass_read-clause-went g c = then_on c.args.p.now.me.0.view c.args.who c.requires.stands.sealed _ _ c.loop-place.invariant.1.went c.pass_read.ensures.went

pub returns-in_err-pass_read-clause-waits : goal.returns-in_err-pass_read-clause-waits
returns-in_err-pass_read-clause-waits g c =
    let p = err_from_is_err_and c.from_residual.result c.from_residual.ensures.1 in
    rw (p.1, p.2) (waits_since c.args.p.now.me.0.view c.args.who c.requires.stands.sealed _ c.loop-place.invariant.1.went _ _ _ c.in_err-pass_read.ensures.waits)

pub returns-clause-passed : goal.returns-clause-passed
returns-clause-passed g c =
    let i = c.loop-place.invariant.1 in
    let same = reads_same c.args.pre.now c.loop-place.pre c.args.p.now.me.0.view c.loop-place.p.me.0.view c.args.who c.requires.stands i.went i.stands in
    let there = ap (λ (l : ArrayVec KeptRead). length l.items) c.deref.ensures in
    let all : c.loop-place.place ≡ length c.loop-place.pre.reads.value.items = omega (arith, same, there) in
    i.task ∙ ap (λ (n : ℕ). task.Settles n 0) all

pub returns-in_err-pass_read-clause-loads : goal.returns-in_err-pass_read-clause-loads
returns-in_err-pass_read-clause-loads g c = went_more _ _ _ _ _ _ c.loop-place.invariant.2 c.pass_read.ensures.loads

pub returns-in_err-pass_read-clause-took_wait : goal.returns-in_err-pass_read-clause-took_wait
returns-in_err-pass_read-clause-took_wait g c =
    let p = err_from_is_err_and c.from_residual.result c.from_residual.ensures.1 in
    rw (p.1, p.2) (wait_after _ _ _ _ _ _ _ c.loop-place.invariant.2 c.in_err-pass_read.ensures.took_wait)
