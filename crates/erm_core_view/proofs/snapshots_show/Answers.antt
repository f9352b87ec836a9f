use Rattle.erm_core_view.proofs.Looks.{look_shows, raise_shows, survey_shows}
use Rattle.erm_core_view.proofs.snapshots_show.Goals as goal

pub returns-clause-raises : goal.returns-clause-raises
returns-clause-raises g seat value c d active some e = raise_shows seat value c d active some e

pub returns-clause-surveys : goal.returns-clause-surveys
returns-clause-surveys g seat other c d is e = survey_shows seat other c d is e

pub returns-clause-looks : goal.returns-clause-looks
returns-clause-looks g seat other c d e = look_shows seat other c d e
