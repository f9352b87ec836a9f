use Rattle.erm_rule.proofs.Opens.{IsFirstUpTo}
use Rattle.erm_rule.proofs.words.first_words.Given as goal

abbrev pub invariant-loop-number : goal.invariant-loop-number
invariant-loop-number l = IsFirstUpTo l.opening l.number l.words.items
