use Rattle.std.proofs.Common.{◌≡◌}
use Rattle.erm_model.specs.declared.outcome.Phase.TheVariants.{Active}
use Rattle.erm_world.specs.Face.{Grows}
use Rattle.erm_world.specs.World.{View, phase_at}
use Rattle.erm_beside.specs.Laws.{GoesOnward}
use Rattle.erm_worker.specs.Work.{IsRunNow}
use Rattle.erm_worker.proofs.Asked.{HasTried}
use Rattle.erm_worker.proofs.operations.operate.Given as goal

-- its transaction is in progress, and the command was tried so far
abbrev pub invariant-loop : goal.invariant-loop
invariant-loop g l = record {
  stands : g.S.SharedSession.stands l.shared l.session;
  onward : GoesOnward (g.S.SharedSession.seat l.fn.session) (g.S.SharedSession.seat l.session) (g.S.SharedSession.ends l.fn.session) (g.S.SharedSession.ends l.session);
  active : phase_at (g.S.SharedSession.own l.session) (g.S.SharedSession.seat l.fn.session) ≡ Active;
  grows : Grows ((g.S.SharedSession.own l.fn.session).session (g.S.SharedSession.seat l.fn.session)) ((g.S.SharedSession.own l.session).session (g.S.SharedSession.seat l.fn.session));
  ran : IsRunNow (g.S.SharedSession.own l.session) (g.S.SharedSession.seat l.fn.session);
  tried : (f : View) → g.S.SharedSession.ends l.session f
      → HasTried f (g.S.SharedSession.seat l.fn.session) l.command (g.S.SharedSession.own l.fn.session) (g.S.SharedSession.own l.session);
}
