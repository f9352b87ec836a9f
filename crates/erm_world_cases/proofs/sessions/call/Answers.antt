use Rattle.std.proofs.lemmas.Result.{err_from_is_err_and}
use Rattle.erm_world_cases.proofs.Stay.{cut_offs_lead}
use Rattle.erm_world_cases.proofs.sessions.call.Goals as goal

pub returns-in_err-get-in-Get-clause-err : goal.returns-in_err-get-in-Get-clause-err
returns-in_err-get-in-Get-clause-err g c =
    let p = err_from_is_err_and c.from_residual.result c.from_residual.ensures.1 in
    rw p.1 (λ active. cut_offs_lead g.T.RowRead.face _ _ _ (c.refused_calls_set_no_row.ensures.get c.in-Get.table c.in-Get.key) c.args.txn.now c.get.new.txn c.in_err-get-in-Get.field-0.0 c.in_err-get-in-Get.ensures.err active)

pub returns-in_err-put-in-Put-clause-err : goal.returns-in_err-put-in-Put-clause-err
returns-in_err-put-in-Put-clause-err g c =
    let p = err_from_is_err_and c.from_residual-in_err-put-in-Put.result c.from_residual-in_err-put-in-Put.ensures.1 in
    rw p.1 (λ active. cut_offs_lead g.T.RowRead.face _ _ _ (c.refused_calls_set_no_row.ensures.put c.in-Put.table c.in-Put.key c.in-Put.value) c.args.txn.now c.put.new.txn c.in_err-put-in-Put.field-0.0 c.in_err-put-in-Put.ensures.err active)

pub returns-in_err-del-in-Del-clause-err : goal.returns-in_err-del-in-Del-clause-err
returns-in_err-del-in-Del-clause-err g c =
    let p = err_from_is_err_and c.from_residual-in_err-del-in-Del.result c.from_residual-in_err-del-in-Del.ensures.1 in
    rw p.1 (λ active. cut_offs_lead g.T.RowRead.face _ _ _ (c.refused_calls_set_no_row.ensures.del c.in-Del.table c.in-Del.key) c.args.txn.now c.del.new.txn c.in_err-del-in-Del.field-0.0 c.in_err-del-in-Del.ensures.err active)

pub returns-in_err-next-in-Next-clause-err : goal.returns-in_err-next-in-Next-clause-err
returns-in_err-next-in-Next-clause-err g c =
    let p = err_from_is_err_and c.from_residual-in_err-next-in-Next.result c.from_residual-in_err-next-in-Next.ensures.1 in
    rw p.1 (λ active. cut_offs_lead g.T.RowRead.face _ _ _ (c.refused_calls_set_no_row.ensures.next c.in-Next.table c.in-Next.from) c.args.txn.now c.next.new.txn c.in_err-next-in-Next.field-0.0 c.in_err-next-in-Next.ensures.err active)
