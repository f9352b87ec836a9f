use borrow.Author.Count.{below_more}
use Rattle.std.proofs.Common.{◌≡◌, ℕ, ◌<◌, length, Option, Some, sym, ap, ◌∙◌, subst, arith}
use Rattle.std.specs.List.{slice_get}
use Rattle.std.proofs.lemmas.Option.{slice_get-get_or}
use Rattle.erm_script.specs.declared.script.ScriptLine.{ScriptLine}
use Rattle.erm_worker_cases.specs.Lines.{IsOf}
use Rattle.erm_worker_cases.proofs.Within.{within}
use Rattle.erm_worker_cases.proofs.lines.are_of.Goals as goal

pub loop-line-preserved : goal.loop-line-preserved
loop-line-preserved c =
    let lines = c.args.lines.now in
    let i = c.loop-line.line-index in
    let l = c.line-item.result in
    let item : slice_get lines i ≡ Some l = slice_get-get_or lines i l c.loop-line-test.true ∙ ap (λ (x : ScriptLine). Some x) (sym c.line-item.is) in
    let one : IsOf c.args.seat l = record { session = c.if-line-seat.false; may = c.may_be_asked.ensures c.if-not-may_be_asked.false } in
    below_more (λ (k : ℕ). (x : ScriptLine) → slice_get lines k ≡ Some x → IsOf c.args.seat x) i c.loop-line.invariant
    (λ x at. let same : l ≡ x = cc in subst (λ (y : ScriptLine). IsOf c.args.seat y) same one)

pub returns : goal.returns
returns c = λ yes l m.
    let below : m.0 < length c.args.lines.now = within c.args.lines.now m.0 l m.1 in
    c.loop-line.invariant m.0 (let over = c.loop-line-test.false in omega (arith, below, over)) l m.1
