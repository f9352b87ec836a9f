use Rattle.erm_beside_cases.proofs.turns.safe_row.Goals as goal

pub returns-in-Safe-clause-seat : goal.returns-in-Safe-clause-seat
returns-in-Safe-clause-seat c = c.safe_read.ensures.onward.seat_is
