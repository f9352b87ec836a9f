use Rattle.erm_audit.specs.Replay.{lists_of}
use Rattle.std.proofs.lemmas.Result.{err_from_is_err_and}
use Rattle.erm_audit.proofs.Transactions.{none_done, some_done, one_done, HasReplayed-take_more}
use Rattle.erm_audit.proofs.replays.replay.Goals as goal

pub returns-in_err-replies-clause-err : goal.returns-in_err-replies-clause-err
returns-in_err-replies-clause-err c =
    let failed = err_from_is_err_and c.from_residual.result c.from_residual.ensures.1 in
    rw failed.1 (none_done c.args.map.now (lists_of c.args.transactions.now))

pub returns-in_err-run_one-clause-err : goal.returns-in_err-run_one-clause-err
returns-in_err-run_one-clause-err c =
    let told = rw c.deref.ensures.value at c.in_err-run_one.ensures.err in
    let failed = err_from_is_err_and c.from_residual-in_err-run_one.result c.from_residual-in_err-run_one.ensures.1 in
    rw failed.1 (some_done c.args.map.now c.loop-ops.map c.run_one.new.map c.args.transactions.now c.loop-ops.ops-index c.ops-item.result c.loop-ops-test.true c.ops-item.is c.loop-ops.invariant.after told.0 told.2)

pub returns-in_err-push-clause-err : goal.returns-in_err-push-clause-err
returns-in_err-push-clause-err c =
    let now = rw c.deref.ensures.value at c.in_ok-run_one.ensures.after in
    let failed = err_from_is_err_and c.from_residual-in_err-push.result c.from_residual-in_err-push.ensures.1 in
    rw failed.1 (one_done c.args.map.now c.loop-ops.map c.run_one.new.map c.args.transactions.now c.loop-ops.ops-index c.ops-item.result c.loop-ops-test.true c.ops-item.is c.loop-ops.invariant.after now)

pub loop-ops-preserved : goal.loop-ops-preserved
loop-ops-preserved c =
    let count = rw c.deref.ensures.value at c.in_ok-run_one.ensures.replies in
    let run = rw c.deref.ensures.value at c.in_ok-run_one.ensures.run in
    let now = rw c.deref.ensures.value at c.in_ok-run_one.ensures.after in
    rw c.in_ok-push.ensures.items (HasReplayed-take_more c.args.map.now c.loop-ops.map c.run_one.new.map c.args.transactions.now c.loop-ops.replies.items c.loop-ops.ops-index c.ops-item.result c.in_ok-run_one.field-0 c.loop-ops-test.true c.ops-item.is c.loop-ops.invariant count run now)
