use Rattle.erm_beside_cases.proofs.turns.begin_safe.Goals as goal

pub returns-in-Idle-clause-seat : goal.returns-in-Idle-clause-seat
returns-in-Idle-clause-seat c = c.begin_safe.ensures.onward.seat_is
