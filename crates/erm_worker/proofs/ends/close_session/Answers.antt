use Rattle.std.proofs.Common.{sym, ◌∙◌}
use Rattle.erm_lines.proofs.Watched.{snapshot_left}
use Rattle.erm_worker.proofs.There.{aborted_closes, ended_closes, settled_closes}
use Rattle.erm_worker.proofs.ends.close_session.Goals as goal

pub returns-in-Sealed-clause-closed : goal.returns-in-Sealed-clause-closed
returns-in-Sealed-clause-closed g c =
    settled_closes (g.S.SharedSession.seat c.args.session.now) c.settle.result (g.S.SharedSession.own c.args.session.now) (g.S.SharedSession.own c.settle.new.session)
    (sym c.phase.ensures ∙ c.in-Sealed.is) c.settle.ensures.settled

pub abort-requires-clause-active : goal.abort-requires-clause-active
abort-requires-clause-active g c = sym c.phase.ensures ∙ c.in-Active.is

pub returns-in-Active-clause-closed : goal.returns-in-Active-clause-closed
returns-in-Active-clause-closed g c =
    aborted_closes (g.S.SharedSession.seat c.args.session.now) (g.S.SharedSession.own c.args.session.now) (g.S.SharedSession.own c.abort.new.self)
    (sym c.phase.ensures ∙ c.in-Active.is) c.abort.ensures.aborted

pub end_safe-requires-clause-snapshot : goal.end_safe-requires-clause-snapshot
end_safe-requires-clause-snapshot g c = snapshot_left (g.S.SharedSession.own c.args.session.now) (g.S.SharedSession.seat c.args.session.now) c.requires.open
    (λ sealed. c.in_default.not-Sealed (c.phase.ensures ∙ sealed)) (λ active. c.in_default.not-Active (c.phase.ensures ∙ active))

pub returns-in_default-clause-closed : goal.returns-in_default-clause-closed
returns-in_default-clause-closed g c =
    let seat = g.S.SharedSession.seat c.args.session.now in
    let v = g.S.SharedSession.own c.args.session.now in
    ended_closes seat v (g.S.SharedSession.own c.end_safe.new.self)
    (snapshot_left v seat c.requires.open (λ sealed. c.in_default.not-Sealed (c.phase.ensures ∙ sealed)) (λ active. c.in_default.not-Active (c.phase.ensures ∙ active)))
    c.end_safe.ensures.ended
