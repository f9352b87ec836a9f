use Rattle.erm_node.specs.Sound.{sound_law}
use Rattle.erm_shared_session.specs.Stands.{Stands, own_of, seat_of}
use Rattle.erm_beside_cases.proofs.OneJob.{one_job}
use Rattle.erm_beside_cases.proofs.meets.job.Goals as goal

pub returns : goal.returns
returns c =
    let new = c.requires.new.1 in
    one_job (λ s. Stands sound_law c.args._table.now s.session) (λ s. seat_of s.session) (λ s. own_of s.session) c.requires.new.0 c.args._seat _ new.stands new.seat_is new.own
    c.requires.lines c.requires.none c.requires.room
