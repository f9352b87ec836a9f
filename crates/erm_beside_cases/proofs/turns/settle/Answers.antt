use Rattle.erm_beside_cases.proofs.turns.settle.Goals as goal

pub returns-in-Sealed-clause-seat : goal.returns-in-Sealed-clause-seat
returns-in-Sealed-clause-seat c = c.settle.ensures.onward.seat_is
