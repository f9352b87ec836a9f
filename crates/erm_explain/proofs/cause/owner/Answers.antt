use Rattle.std.proofs.Common.{◌≡◌, ℕ, ◌<◌, length, get_or, Some, None, sym, ◌∙◌, subst, arith}
use Rattle.std.proofs.lemmas.List.{get_or_default}
use Rattle.erm_explain.proofs.Seeking.{owner_is}
use Rattle.erm_explain.proofs.cause.owner.Goals as goal

pub returns-in-Some : goal.returns-in-Some
returns-in-Some c =
    let current = c.args.books.now.current.items in
    let within : c.from.result < length current = omega arith in
    let here : get_or current c.from.result None ≡ Some c.in-Some.told = get_or_default current c.from.result None c.index.result.now within ∙ sym c.index.ensures ∙ c.in-Some.is in
    owner_is c.args.books.now c.args.script.now c.args.place c.args.session c.args.seat c.args.number c.in-Some.told c.deref.result.now c.find_link.result c.line_or_missing.result
    c.if-seat-session.false (subst (λ (i : ℕ). get_or current i None ≡ Some c.in-Some.told) c.from.ensures here) (c.if-told-wanted.true ∙ c.from-wanted.ensures) c.deref.ensures.value
    c.find_link.ensures.found c.find_link.ensures.none c.line_or_missing.ensures
