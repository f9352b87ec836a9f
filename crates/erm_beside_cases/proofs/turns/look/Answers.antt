use Rattle.erm_beside_cases.proofs.turns.look.Goals as goal

pub returns-in-Pending-clause-seat : goal.returns-in-Pending-clause-seat
returns-in-Pending-clause-seat c = c.safe.ensures.onward.seat_is
