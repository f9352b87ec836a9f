use Rattle.erm_beside_cases.proofs.turns.run.Goals as goal

pub first_other-other-requires : goal.first_other-other-requires
first_other-other-requires c = record { done = λ k s at. let is = c.in_ok-table.ensures.3.sessions.each k s at in (is.stands, is.seat_is) }
