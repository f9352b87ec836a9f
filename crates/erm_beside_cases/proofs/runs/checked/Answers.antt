use borrow.Author.Count.{below_more}
use Rattle.std.proofs.Common.{◌≡◌, ℕ, ◌+◌, ◌<◌, List, length, Some, sym, ap, ◌∙◌, subst, arith}
use Rattle.std.specs.List.{slice_get}
use Rattle.std.proofs.lemmas.Option.{slice_get-get_or}
use Rattle.erm_script.specs.declared.script.ScriptLine.{ScriptLine}
use Rattle.erm_worker_cases.specs.Lines.{AreOf}
use Rattle.erm_beside_cases.proofs.Parts.{all_lines}
use Rattle.erm_beside_cases.proofs.runs.checked.Goals as goal

pub loop-place-preserved : goal.loop-place-preserved
loop-place-preserved c =
    let parts = c.args.parts.items in
    let i = c.loop-place.place in
    let part = c.index.result.now in
    let within : i < length parts = (let less = c.loop-place-test.true in let end = c.len-place-end.ensures in let long = c.args.parts.ok.0 in omega (arith, less, end, long)) in
    let item : slice_get parts i ≡ Some part = slice_get-get_or parts i part within ∙ ap (λ (p : _). Some p) (sym c.index.ensures) in
    let one = subst (λ (ls : List ScriptLine). AreOf (i + 1) ls) c.deref.ensures.value (c.are_of.ensures c.if-not-are_of.false) in
    below_more (λ (k : ℕ). (p : _) → slice_get parts k ≡ Some p → AreOf (k + 1) p.items) i c.loop-place.invariant
    (λ p at. let same : part ≡ p = cc in subst (λ (q : _). AreOf (i + 1) q.items) same one)

pub returns-clause-lines : goal.returns-clause-lines
returns-clause-lines c =
    all_lines (λ p. p.items) c.args.parts.items
    (λ k less p at.
    c.loop-place.invariant k (let long = c.args.parts.ok.0 in let end = c.len-place-end.ensures in let past = c.loop-place-test.false in omega (arith, less, long, end, past)) p at)
