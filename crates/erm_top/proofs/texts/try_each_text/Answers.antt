use Rattle.erm_top.proofs.Fitting.{fits_more}
use Rattle.erm_top.proofs.texts.try_each_text.Goals as goal

pub loop-line-preserved : goal.loop-line-preserved
loop-line-preserved c =
    fits_more c.args.lines.now c.loop-line.line-index c.line-item.result c.loop-line-test.true c.line-item.is c.loop-line.invariant c.in_ok-line_text.ensures.fits
