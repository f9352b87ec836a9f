use Rattle.std.proofs.Common.{◌<◌, ◌∙◌, arith}
use Rattle.erm_recover.specs.declared.tail.Tail.{Tail}
use Rattle.erm_recover.specs.Lists.{IsWithin, progress_at}
use Rattle.erm_recover.proofs.Reading.{part_none, part_some, some_is, told_ends, told_on}
use Rattle.erm_recover.proofs.list.read_list.Goals as goal

pub loop-next-preserved : goal.loop-next-preserved
loop-next-preserved g c =
    let here = c.loop-next.invariant in
    let above : c.loop-next.tail.at < c.in-Some.next.at = some_is (λ (t : Tail). c.loop-next.tail.at < t.at) c.in_ok-next.field-0 c.in-Some.next c.in-Some.is c.in_ok-next.ensures.above in
    record {
      reaches = told_on c.spelling_size.ensures.size c.spelling_size.ensures.most g.T.RowLaw.law.meets _ _ _ (progress_at c.loop-next.tail c.loop-next.rows c.loop-next.commits.items) c.in-Some.next _ _ here.told here.reaches
          (part_some _ _ _ c.in_ok-next.field-0 c.in-Some.next _ _ c.in-Some.is c.in_ok-next.ensures.took);
      told = c.in_ok-next.ensures.told ∙ here.told;
      faults = c.in_ok-next.ensures.sound (λ bad. cc) ∙ here.faults;
      meets = c.in_ok-next.ensures.meets;
      within = some_is IsWithin c.in_ok-next.field-0 c.in-Some.next c.in-Some.is c.in_ok-next.ensures.within;
      low = omega (arith, here.low, above);
    }

pub returns-clause-list : goal.returns-clause-list
returns-clause-list g c =
    told_ends c.spelling_size.ensures.size c.spelling_size.ensures.most g.T.RowLaw.law.meets c.chain_ends.ensures _ _ _ c.loop-next.tail c.loop-next.rows _ c.loop-next.commits.items _ c.loop-next.invariant.told c.loop-next.invariant.reaches
    (part_none _ _ _ c.in_ok-next.field-0 _ _ c.in_default.is c.in_ok-next.ensures.took)
