use Rattle.std.proofs.Common.{length, take, ◌∙◌, refl, arith}
use Rattle.erm_log.proofs.Walking.{all_told, step_on, told_start}
use Rattle.erm_log.proofs.blocks.push_blocks.Goals as goal

pub loop-tail-preserved : goal.loop-tail-preserved
loop-tail-preserved g c =
    let here = c.loop-tail.invariant in
    record {
      walks = step_on c.spelling_size.ensures.size c.spelling_size.ensures.most (g.D.Disk.told c.args.disk.now) (g.D.Disk.told c.loop-tail.disk) c.args.start c.loop-tail.tail c.in-Some.next c.args.end
          (length c.loop-tail.words) c.args.out.now.items c.loop-tail.out.items _ (take c.in_ok-count.count c.read_log.new.words) c.in_ok-next.field-0 here.told
          c.loop-tail-test.true (omega (arith, c.requires.words)) c.in_ok-count.ensures.words c.in_ok-next.ensures.next c.in-Some.is here.walks;
      told = c.in_ok-count.ensures.told ∙ here.told;
    }

pub returns-clause-texts : goal.returns-clause-texts
returns-clause-texts g c =
    all_told c.spelling_size.ensures.size c.spelling_size.ensures.most (g.D.Disk.told c.args.disk.now) c.args.start c.loop-tail.tail c.args.end c.args.out.now.items c.loop-tail.out.items
    (omega (arith, c.loop-tail-test.false)) c.loop-tail.invariant.walks

pub loop-tail-init : goal.loop-tail-init
loop-tail-init g c = record { walks = told_start (g.D.Disk.told c.args.disk.now) c.args.start c.args.end c.args.out.now.items; told = refl }
