use Rattle.std.proofs.Common.{◌≡◌, ℕ, ◌<◌, length, get_or, Some, None, sym, ◌∙◌, subst, arith}
use Rattle.std.proofs.lemmas.List.{get_or_default}
use Rattle.erm_explain.proofs.Seeking.{window_is}
use Rattle.erm_explain.proofs.cause.window.Goals as goal

pub returns : goal.returns
returns c =
    let current = c.args.books.now.current.items in
    let within : c.from.result < length current = omega arith in
    let here : get_or current c.from.result None ≡ Some c.in-Some.own = get_or_default current c.from.result None c.index.result.now within ∙ sym c.index.ensures ∙ c.in-Some.is in
    window_is c.args.books.now c.args.script.now c.args.place c.args.line.now c.args.bound c.args.ends.0 c.args.ends.1 c.in-Some.own
    (subst (λ (i : ℕ). get_or current i None ≡ Some c.in-Some.own) c.from.ensures here)
    c.deref-2.result.now c.deref-4.result.now c.deref.result.now c.deref-3.result.now c.find_over.result c.find_over-2.result c.window_of.result
    c.if-pred-succ.false (c.is_below.ensures.0 c.if-not-is_below.false)
    (c.deref-2.ensures.value ∙ c.in_ok-owns.ensures) (c.deref-4.ensures.value ∙ c.in_ok-owns.ensures) c.deref.ensures.value c.deref-3.ensures.value
    c.find_over.ensures.found c.find_over.ensures.none c.find_over-2.ensures.found c.find_over-2.ensures.none c.window_of.ensures
