use Rattle.erm_summary.proofs.Writes.{one_more_stays}
use Rattle.erm_summary.proofs.maps.keep_lines.Goals as goal

pub loop-place-preserved : goal.loop-place-preserved
loop-place-preserved c =
    one_more_stays c.args.script.now c.args.answers.now c.args.places.now c.loop-place.place-index c.args.kept.now c.loop-place.kept c.keep_line.new.kept c.loop-place-test.true c.loop-place.invariant c.in_ok-keep_line.ensures
