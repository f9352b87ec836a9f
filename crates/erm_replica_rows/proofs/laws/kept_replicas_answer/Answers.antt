use Rattle.erm_replica_rows.proofs.Telling.{keeps_answers, keeps_bad_at, keeps_good_at}
use Rattle.erm_replica_rows.proofs.laws.kept_replicas_answer.Goals as goal

pub returns-clause-answers : goal.returns-clause-answers
returns-clause-answers c =
    keeps_answers c.fronts_are_one.ensures.part c.fronts_are_one.ensures.short c.fronts_are_one.ensures.unreadable c.fronts_are_one.ensures.either c.fronts_stay.ensures.part c.fronts_stay.ensures.unreadable
    (λ log bytes part stands. (c.parts_are_announced.ensures log bytes part stands).1)

pub returns-clause-bad : goal.returns-clause-bad
returns-clause-bad c =
    keeps_bad_at c.fronts_are_one.ensures.part c.fronts_are_one.ensures.short c.fronts_are_one.ensures.unreadable c.fronts_are_one.ensures.either c.fronts_stay.ensures.part c.fronts_stay.ensures.unreadable
    (λ log bytes part stands. (c.parts_are_announced.ensures log bytes part stands).1)

pub returns-clause-good : goal.returns-clause-good
returns-clause-good c =
    keeps_good_at c.fronts_are_one.ensures.part c.fronts_are_one.ensures.short c.fronts_are_one.ensures.unreadable c.fronts_are_one.ensures.either c.fronts_stay.ensures.part c.fronts_stay.ensures.unreadable
    (λ log bytes part stands. (c.parts_are_announced.ensures log bytes part stands).1)
