use Rattle.erm_worker.proofs.Asked.{committed}
use Rattle.erm_worker.proofs.Ready.{lawful_now}
use Rattle.erm_worker.proofs.ends.commit.Goals as goal

pub returns-clause-asked : goal.returns-clause-asked
returns-clause-asked g c = λ f.
    committed f (g.S.SharedSession.seat c.args.session.now) (g.S.SharedSession.seat c.seal.new.self) c.seal.result c.settle.result (g.S.SharedSession.own c.args.session.now)
    (g.S.SharedSession.own c.seal.new.self) (g.S.SharedSession.own c.settle.new.session) c.seal.ensures.onward.seat_is c.requires.active c.seal.ensures.sealed c.settle.ensures.settled

pub seal-requires-clause-lawful : goal.seal-requires-clause-lawful
seal-requires-clause-lawful g c =
    lawful_now g.S.SharedSession.law c.requires.law (g.S.SharedSession.own c.args.session.now) (g.S.SharedSession.seat c.args.session.now) c.requires.active c.requires.ran
