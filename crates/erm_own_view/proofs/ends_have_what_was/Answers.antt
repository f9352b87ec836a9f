use Rattle.erm_model.specs.declared.limits.TheConstants.{SESSIONS, TABLE_CELLS}
use Rattle.erm_rule.specs.Openings.{start_rows}
use Rattle.erm_own_view.proofs.Drawn.{all_drawn}
use Rattle.erm_own_view.proofs.Staying.{all_made, commit_stays}
use Rattle.erm_own_view.proofs.ends_have_what_was.Goals as goal

pub returns-clause-commits : goal.returns-clause-commits
returns-clause-commits g c seat b own f t end was =
    commit_stays g.L.RowLaw.law seat b own f end
    (c.sessions_alone_have_transactions.ensures.first b.start.sessions (start_rows b.start.rows) b.start.tail b.start.run b.start.first TABLE_CELLS)
    (λ first second q k sound none e. c.sessions_alone_have_transactions.ensures.event first second q k sound none e)
    (λ core sound none. c.sessions_alone_have_transactions.ensures.only core sound none)
    (λ core sound only. c.states_show_the_history.ensures.history SESSIONS core sound only)
    (λ first second q k sound e u m. c.commits_stay.ensures.event first second q k sound e u m) t was

pub returns-clause-made : goal.returns-clause-made
returns-clause-made g c seat b own f end was =
    all_made g.L.RowLaw.law seat b own f end
    (c.sessions_alone_have_transactions.ensures.first b.start.sessions (start_rows b.start.rows) b.start.tail b.start.run b.start.first TABLE_CELLS)
    (λ first second q k sound none e. c.sessions_alone_have_transactions.ensures.event first second q k sound none e)
    (λ core sound none. c.sessions_alone_have_transactions.ensures.only core sound none)
    (λ x core sound only from below known. c.drawn_objects_are_shown.ensures SESSIONS x core sound only from below known)
    (λ first second q k sound e. c.numbers_rise.ensures.event first second q k sound e) was

pub returns-clause-drawn : goal.returns-clause-drawn
returns-clause-drawn g c seat b own f end was =
    all_drawn (λ first second events oid owner number sound run low some owned. c.owners_are_sessions.ensures first second events oid owner number sound run low some owned)
    (λ first second q k sound e. c.numbers_rise.ensures.event first second q k sound e) g.L.RowLaw.law seat b own f end was
