use Rattle.std.proofs.Common.{length, decimal}
use Rattle.erm_report.proofs.Found.{one_more}
use Rattle.erm_report.proofs.printing.answer.push_pairs.Goals as goal

pub loop-key-preserved : goal.loop-key-preserved
loop-key-preserved c =
    one_more c.args.out.now.items c.loop-key.out.items c.push_found.new.out.items c.args.words.now (decimal (length c.as_slice-found.result.now)) c.as_slice-found.result.now
    c.loop-key.key-index c.loop-key-item.result c.loop-key-test.true c.loop-key-item.is c.loop-key.invariant c.in_ok-push_found.ensures.ok c.in_ok-push_found.ensures.fits
