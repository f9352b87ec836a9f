use Rattle.std.proofs.Common.{◌+◌, ℕ, List, subst, sym}
use Rattle.erm_rule.proofs.Opens.{IsFirstUpTo, one_more}
use Rattle.erm_rule.proofs.words.first_words.Goals as goal

pub loop-number-preserved : goal.loop-number-preserved
loop-number-preserved c =
    subst (λ (l : List ℕ). IsFirstUpTo c.args.opening.now (c.loop-number.number + 1) l) (sym c.in_ok-push.ensures.items)
    (one_more c.one_number.ensures c.args.opening.now c.loop-number.words.items c.loop-number.number c.first_word.result c.in-Some.word c.in-Some.ensures.found.0 c.in-Some.ensures.found.1 c.first_word.ensures c.loop-number.invariant)
