use Rattle.erm_core_view.proofs.Moved.{calm_shows, changes_one, end_shows}
use Rattle.erm_core_view.proofs.steps_change_one_session.Goals as goal

pub returns-clause-others : goal.returns-clause-others
returns-clause-others g sessions seat c d k sound one e = changes_one sessions seat c d k sound one e

pub returns-clause-calm : goal.returns-clause-calm
returns-clause-calm g seat c d k calm e = calm_shows seat c d k calm e

pub returns-clause-ends : goal.returns-clause-ends
returns-clause-ends g seat oid head c d ending e = end_shows seat oid head c d ending e
