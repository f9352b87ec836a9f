use Rattle.erm_top.proofs.Fitting.{line_more}
use Rattle.erm_top.proofs.texts.lines_text.Goals as goal

pub loop-line-preserved : goal.loop-line-preserved
loop-line-preserved c =
    line_more c.loop-line.text c.add.new.self c.args.lines.now c.loop-line.line-index c.line-item.result c.loop-line-test.true c.line-item.is c.loop-line.invariant
    c.in_ok-add.ensures.ok c.in_ok-add.ensures.fits
