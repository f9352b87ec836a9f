use Rattle.erm_beside_cases.proofs.races.claimed.Goals as goal

pub race_and_cut-cut-requires-clause-done : goal.race_and_cut-cut-requires-clause-done
race_and_cut-cut-requires-clause-done g c κs within = λ k s at. let is = c.in_ok-table.ensures.3.sessions.each k s at in (is.stands, is.seat_is)
