use Rattle.std.proofs.Common.{◌∙◌, ap, map, rules, arith}
use Rattle.std.specs.Map.Iter.{deref_pair}
use Rattle.std.proofs.lemmas.Map.Iter.{iter_end}
use Rattle.erm_model.proofs.Scans.{AreFound-read, pair_of}
use Rattle.erm_model.proofs.map.Map.found.Goals as goal

pub returns : goal.returns
returns c =
    let entries = c.self.inside.entries in
    let range = c.range-key-items in
    let all = iter_end deref_pair _ _ _ _ _ _ c.into_iter-key-iterator.ensures.into_iter_gives c.loop-key.yielded_by c.in-None.is c.next.ensures.steps in
    let read = c.new-3.ensures ∙ c.loop-key.invariant ∙ ap (map pair_of) all.0 in
    let found = AreFound-read entries c.args.table c.args.low c.args.high _ _ range.result c.new-3.result (omega (arith, c.ranges.high.fits)) c.new-2.ensures.start c.new-2.ensures.end
    (range.ensures.between (search rules)) (range.ensures.in_range (search rules)) range.ensures.places range.ensures.ordered read in
    rw (← c.self.view_is) found
