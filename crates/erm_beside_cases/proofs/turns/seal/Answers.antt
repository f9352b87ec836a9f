use Rattle.erm_beside_cases.proofs.turns.seal.Goals as goal

pub returns-in-Active-clause-seat : goal.returns-in-Active-clause-seat
returns-in-Active-clause-seat c = c.seal.ensures.onward.seat_is
