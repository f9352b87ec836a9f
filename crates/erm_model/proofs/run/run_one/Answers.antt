use Rattle.std.proofs.Common.{◌+◌, ap, subst, sym, ◌∙◌, arith}
use Rattle.std.proofs.lemmas.Result.{err_from_is_err_and}
use Rattle.erm_model.specs.Database.{Database}
use Rattle.erm_model.specs.Run.{IsReply, Saving, after, begins}
use Rattle.erm_model.proofs.Runs.{RunsFrom-take_more, after_from-take_more}
use Rattle.erm_model.proofs.run.run_one.Goals as goal

pub returns-in_err-push-clause-err : goal.returns-in_err-push-clause-err
returns-in_err-push-clause-err c =
    let i = c.loop-op.op-index in
    let ops = c.args.ops.now in
    let now = c.in_ok-answer.ensures.done ∙ ap (after c.op-item.result) c.loop-op.invariant.after ∙ sym (after_from-take_more ops i c.op-item.result (begins c.args.map.now) c.loop-op-test.true c.op-item.is) in
    let failed = err_from_is_err_and c.from_residual-in_err-push.result c.from_residual-in_err-push.ensures.1 in
    rw failed.1 (i + 1, omega arith, ap (λ (s : Saving Database). s.now) now)

pub returns-in_err-answer-clause-err : goal.returns-in_err-answer-clause-err
returns-in_err-answer-clause-err c =
    let failed = err_from_is_err_and c.from_residual-in_err-answer.result c.from_residual-in_err-answer.ensures.1 in
    rw failed.1 (c.loop-op.op-index, omega arith, c.in_err-answer.ensures.err ∙ ap (λ (s : Saving Database). s.now) c.loop-op.invariant.after)

pub loop-op-preserved : goal.loop-op-preserved
loop-op-preserved c =
    let i = c.loop-op.op-index in
    let ops = c.args.ops.now in
    let before = c.loop-op.invariant in
    let told = subst (λ (s : Saving Database). IsReply s c.op-item.result c.in_ok-answer.field-0) before.after c.in_ok-answer.ensures.reply in
    let run = RunsFrom-take_more (begins c.args.map.now) ops i c.op-item.result c.loop-op.replies.items c.in_ok-answer.field-0 c.loop-op-test.true c.op-item.is before.count before.run told in
    record {
      count = omega (arith, c.in_ok-push.ensures.len, before.count);
      run = rw c.in_ok-push.ensures.items run;
      after = c.in_ok-answer.ensures.done ∙ ap (after c.op-item.result) before.after ∙ sym (after_from-take_more ops i c.op-item.result (begins c.args.map.now) c.loop-op-test.true c.op-item.is);
    }
