use Rattle.std.proofs.Common.{sym, ◌∙◌, subst}
use Rattle.std.specs.Map.{keys_of}
use Rattle.std.specs.Map.Iter.{deref_pair}
use Rattle.std.specs.List.Sorted.{IsStrictlySortedBy}
use Rattle.std.proofs.lemmas.Map.Iter.{iter_end}
use Rattle.erm_model.specs.Database.{key_cmp}
use Rattle.erm_model.proofs.Ranges.{AscendByKey-from_sorted}
use Rattle.erm_model.proofs.map.Map.pairs.Goals as goal

pub returns-clause-ascending : goal.returns-clause-ascending
returns-clause-ascending c =
    let begins = c.into_iter-key-iterator.ensures.into_iter_gives in
    let all = c.loop-key.invariant ∙ (iter_end deref_pair _ _ _ _ _ _ begins.0 c.loop-key.yielded_by c.in-None.is c.next.ensures.steps).0 in
    AscendByKey-from_sorted c.loop-key.pairs.items (subst (λ es. IsStrictlySortedBy key_cmp (keys_of es)) (sym all) begins.5)
