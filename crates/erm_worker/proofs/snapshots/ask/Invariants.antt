use Rattle.erm_beside.specs.Calls.{Passes}
use Rattle.erm_beside.specs.Laws.{GoesOnward}
use Rattle.erm_worker.proofs.snapshots.ask.Given as goal

-- others went on
abbrev pub invariant-loop : goal.invariant-loop
invariant-loop g l = record {
  stands : g.S.SharedSession.stands l.shared l.session;
  onward : GoesOnward (g.S.SharedSession.seat l.fn.session) (g.S.SharedSession.seat l.session) (g.S.SharedSession.ends l.fn.session) (g.S.SharedSession.ends l.session);
  passes : Passes (g.S.SharedSession.seat l.fn.session) (g.S.SharedSession.own l.fn.session) (g.S.SharedSession.own l.session);
}
