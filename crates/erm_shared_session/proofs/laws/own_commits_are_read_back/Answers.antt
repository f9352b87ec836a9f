use Rattle.erm_own_view.specs.Own.{own_view}
use Rattle.erm_shared_session.proofs.ReadingBack.{reads_back}
use Rattle.erm_shared_session.proofs.laws.own_commits_are_read_back.Goals as goal

pub returns : goal.returns
returns g c seat tail flushed b may =
    let some = c.own_views_are_sound.ensures.some seat tail flushed b may in
    reads_back g.L.RowLaw.law seat tail flushed b may some.0 some.1.within (c.own_views_are_sound.ensures.lasting seat b (own_view seat tail flushed b) some.0 some.1) (c.histories_tell_commits.ensures some.0)
