use Rattle.erm_replica_rows.proofs.Held.{held_next}
use Rattle.erm_replica_rows.proofs.snapshot.step.Goals as goal

pub returns-clause-goes : goal.returns-clause-goes
returns-clause-goes c = λ taken holds.
    held_next c.respects_rows.ensures.meets taken c.args.end.now c.advance.new.reader c.args.snapshot.now c.hear.new.snapshot c.args.bytes.now c.in_ok-item.item holds c.in_ok-item.ensures.takes c.in_ok-item.ensures.lawful
    c.hear.ensures.hears
