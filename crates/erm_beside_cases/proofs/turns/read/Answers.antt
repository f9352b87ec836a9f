use Rattle.erm_beside_cases.proofs.turns.read.Goals as goal

pub returns-in-Active-clause-seat : goal.returns-in-Active-clause-seat
returns-in-Active-clause-seat c = c.read.ensures.onward.seat_is
