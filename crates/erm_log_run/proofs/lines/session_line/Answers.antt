use Rattle.std.proofs.Common.{◌≡◌, ℕ, ◌+◌, ◌<◌, length, slice_index_or, None, sym, subst, arith}
use Rattle.erm_lines.specs.Answers.{IsReceiptOf}
use Rattle.erm_told.proofs.Lines.{turn_line}
use Rattle.erm_log_run.proofs.Receipts.{receipt_asked, receipts_go_on}
use Rattle.erm_log_run.proofs.lines.session_line.Goals as goal

pub answer_durable-requires-clause-receipt : goal.answer_durable-requires-clause-receipt
answer_durable-requires-clause-receipt g c =
    let v = g.W.RowWorld.view c.args.world.now in
    let l = c.args.line.now in
    let rs = c.args.receipts.now in
    let place = c.from-place.result in
    let less = c.from-place.ensures in
    let session = c.requires.session in
    let positive = session.0 in
    let high = session.1 in
    let are = c.requires.receipts in
    let many = are.many in
    let at : place + 1 ≡ l.session = omega (arith, less, positive) in
    let few : place < length rs = omega (arith, at, high, many) in
    let own : IsReceiptOf (v.session l.session).over (slice_index_or rs place None) = subst (λ (q : ℕ). IsReceiptOf (v.session q).over (slice_index_or rs place None)) at (are.each place few) in
    receipt_asked (v.session l.session).over c.as_ref.result (slice_index_or rs place None) c.as_ref.ensures.value own

pub returns-clause-receipts : goal.returns-clause-receipts
returns-clause-receipts g c =
    let v = g.W.RowWorld.view c.args.world.now in
    let t = g.W.RowWorld.view c.answer_line.new.world in
    let l = c.args.line.now in
    let rs = c.args.receipts.now in
    let place = c.from-place.result in
    let less = c.from-place.ensures in
    let session = c.requires.session in
    let positive = session.0 in
    let high = session.1 in
    let are = c.requires.receipts in
    let many = are.many in
    let at : place + 1 ≡ l.session = omega (arith, less, positive) in
    let few : place < length rs = omega (arith, at, high, many) in
    let own : IsReceiptOf (v.session l.session).over (slice_index_or rs place None) = subst (λ (q : ℕ). IsReceiptOf (v.session q).over (slice_index_or rs place None)) at (are.each place few) in
    let turn = turn_line c.begun_transactions_are_runs.ensures c.answers_stay.ensures v l c.in_ok-answer.answer t c.in_ok-answer.ensures.answered in
    receipts_go_on v t place rs c.answer_line.new.receipt are few turn.opening (λ q other. turn.others q (λ same. other (omega (arith, same, at))))
    (subst (λ (q : ℕ). IsReceiptOf (t.session q).over c.answer_line.new.receipt) (sym at) (c.in_ok-answer.ensures.kept own))
