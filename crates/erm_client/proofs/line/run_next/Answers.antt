use Rattle.std.proofs.Common.{ℕ, Some, refl, sym, subst}
use Rattle.erm_client.proofs.line.run_next.Goals as goal
use Rattle.erm_worker.proofs.Left.{left_before}
use Rattle.erm_worker.specs.Work.{WasLeft}
use Rattle.erm_world.specs.World.{phase_at}

pub returns-then-not-goes_on-clause-ran : goal.returns-then-not-goes_on-clause-ran
returns-then-not-goes_on-clause-ran g c =
    let seat = g.S.SharedSession.seat c.args.session.now in
    let v = g.S.SharedSession.own c.args.session.now in
    let t = g.S.SharedSession.own c.give_up.new.session in
    λ f end. subst (λ (n : ℕ). WasLeft f n (Some c.args.line.now) v t) (sym c.requires.seat) (left_before f seat c.args.line.now v t (phase_at v seat) refl c.give_up.ensures.gave)
