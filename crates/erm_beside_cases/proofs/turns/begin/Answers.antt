use Rattle.erm_beside_cases.proofs.turns.begin.Goals as goal

pub returns-in-Idle-clause-seat : goal.returns-in-Idle-clause-seat
returns-in-Idle-clause-seat c = c.begin.ensures.onward.seat_is
