use Rattle.std.proofs.Common.{length, take, arith}
use Rattle.erm_recover.proofs.Reading.{part_ended, part_taken}
use Rattle.erm_recover.proofs.list.read_part.Goals as goal

pub returns-then-next-tail-clause-took : goal.returns-then-next-tail-clause-took
returns-then-next-tail-clause-took g c =
    part_ended c.spelling_size.ensures.size c.spelling_size.ensures.most g.T.RowLaw.law.meets _ _ c.in_ok-next.next _ _ (take c.in_ok-count.count c.read_log.new.words) (length c.args.words.now)
    (omega (arith, c.requires.words)) c.in_ok-count.ensures.words c.in_ok-next.ensures.took (omega arith)

pub returns-clause-took : goal.returns-clause-took
returns-clause-took g c =
    part_taken c.spelling_size.ensures.size c.spelling_size.ensures.most g.T.RowLaw.law.meets _ _ c.in_ok-next.next _ _ (take c.in_ok-count.count c.read_log.new.words) (length c.args.words.now)
    c.in_ok-count.ensures.words c.in_ok-next.ensures.took
