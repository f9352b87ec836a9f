use Rattle.std.proofs.Common.{◌<◌, ◌≤◌, ◌+◌, ◌-◌, length, drop, take, ap, arith}
use Rattle.std.proofs.lemmas.List.{length-drop}
use Rattle.erm_recover.specs.declared.tail.Tail.{Tail}
use Rattle.erm_recover.specs.Lists.{IsWithin, progress_at}
use Rattle.erm_recover.proofs.Reading.{goes_no_more, goes_on, rest_of, some_is, took_none, took_some}
use Rattle.erm_recover.proofs.list.take_blocks.Goals as goal

pub loop-next-preserved : goal.loop-next-preserved
loop-next-preserved g c =
    let here = c.loop-next.invariant in
    let above : c.loop-next.tail.at < c.in-Some.next.at = some_is (λ (t : Tail). c.loop-next.tail.at < t.at) c.in_ok-next.field-0 c.in-Some.next c.in-Some.is c.in_ok-next.ensures.above in
    let there = some_is (λ (t : Tail). t.at ≤ c.loop-next.tail.at + length (take (length c.args.words.now - (c.loop-next.tail.at - c.args.start.at)) (drop (c.loop-next.tail.at - c.args.start.at) c.args.words.now))) c.in_ok-next.field-0 c.in-Some.next c.in-Some.is c.in_ok-next.ensures.there in
    record {
      goes = goes_on g.T.RowLaw.law.meets _ _ (progress_at c.loop-next.tail c.loop-next.rows c.loop-next.commits.items) _ here.goes
          (took_some _ _ _ _ c.in_ok-next.field-0 c.in-Some.next _ _ (rest_of c.args.words.now (c.loop-next.tail.at - c.args.start.at)) c.in-Some.is c.in_ok-next.ensures.took);
      meets = c.in_ok-next.ensures.meets;
      within = some_is IsWithin c.in_ok-next.field-0 c.in-Some.next c.in-Some.is c.in_ok-next.ensures.within;
      low = omega (arith, here.low, above);
      there = omega (arith, here.low, here.there, there, ap length (rest_of c.args.words.now (c.loop-next.tail.at - c.args.start.at)), length-drop (c.loop-next.tail.at - c.args.start.at) c.args.words.now);
    }

pub returns-clause-took : goal.returns-clause-took
returns-clause-took g c =
    goes_no_more c.spelling_size.ensures.size c.spelling_size.ensures.most g.T.RowLaw.law.meets _ _ c.loop-next.tail c.loop-next.rows _ c.loop-next.commits.items _ c.loop-next.invariant.goes
    (took_none _ _ _ _ c.in_ok-next.field-0 _ _ (rest_of c.args.words.now (c.loop-next.tail.at - c.args.start.at)) c.in_default.is c.in_ok-next.ensures.took)
