use Rattle.erm_summary.proofs.Writes.{one_more_line}
use Rattle.erm_summary.proofs.maps.write_kept.Goals as goal

pub loop-place-preserved : goal.loop-place-preserved
loop-place-preserved c =
    one_more_line c.args.script.now c.args.answers.now c.args.places.now c.loop-place.place-index c.args.map.now c.loop-place.map c.write_line.new.map c.loop-place-test.true c.loop-place.invariant c.in_ok-write_line.ensures
