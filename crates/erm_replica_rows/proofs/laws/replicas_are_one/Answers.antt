use Rattle.erm_replica_rows.proofs.Telling.{one_answer, one_place}
use Rattle.erm_replica_rows.proofs.laws.replicas_are_one.Goals as goal

pub returns-clause-answers : goal.returns-clause-answers
returns-clause-answers c = one_answer c.fronts_are_one.ensures.part c.fronts_are_one.ensures.short c.fronts_are_one.ensures.unreadable c.fronts_are_one.ensures.either

pub returns-clause-place : goal.returns-clause-place
returns-clause-place c = one_place c.fronts_are_one.ensures.part c.fronts_are_one.ensures.short c.fronts_are_one.ensures.unreadable c.fronts_are_one.ensures.either
