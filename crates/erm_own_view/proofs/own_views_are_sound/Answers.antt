use Rattle.erm_own_view.proofs.Lawful.{ends_last, own_views_end, own_views_sound}
use Rattle.erm_own_view.proofs.own_views_are_sound.Goals as goal

pub returns-clause-some : goal.returns-clause-some
returns-clause-some g c seat tail flushed b may = own_views_end g.L.RowLaw.law seat tail flushed b may

pub returns-clause-sound : goal.returns-clause-sound
returns-clause-sound g c seat tail flushed b may = own_views_sound g.L.RowLaw.law seat tail flushed b may

pub returns-clause-lasting : goal.returns-clause-lasting
returns-clause-lasting g c seat b own f end = ends_last g.L.RowLaw.law seat b own f end
