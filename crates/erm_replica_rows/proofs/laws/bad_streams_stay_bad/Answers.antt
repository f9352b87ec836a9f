use Rattle.erm_replica_rows.proofs.Telling.{bad_at_stays}
use Rattle.erm_replica_rows.proofs.laws.bad_streams_stay_bad.Goals as goal

pub returns : goal.returns
returns c =
    bad_at_stays c.fronts_are_one.ensures.part c.fronts_are_one.ensures.short c.fronts_are_one.ensures.unreadable c.fronts_are_one.ensures.either c.fronts_stay.ensures.part c.fronts_stay.ensures.unreadable
    (λ log bytes part stands. (c.parts_are_announced.ensures log bytes part stands).1)
