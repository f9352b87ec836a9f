use Rattle.std.proofs.Common.{◌≡◌, ◌+◌, ◌-◌, true}
use Rattle.erm_core.specs.Cores.{core_of}
use Rattle.erm_machine.specs.declared.limits.TheConstants.{SESSIONS}
use Rattle.erm_machine.specs.Back.{passed_to}
use Rattle.erm_machine.specs.Words.{is_session}
use Rattle.erm_lists.specs.Snapshots.{OnlyLooks, is_surveying}
use Rattle.erm_lists.specs.Stands.{Stands}
use Rattle.erm_lists.proofs.lists.Lists.safe.Given as goal

-- of the sessions before the one that it has come to all are passed
abbrev pub invariant-loop-next : goal.invariant-loop-next
invariant-loop-next g l = record {
  stands : Stands g.L.RowLaw.law l.self;
  sessions : l.self.sessions ≡ l.fn.self.sessions;
  session : is_session l.seat ≡ true;
  looks : OnlyLooks l.seat (core_of l.fn.self.state) (core_of l.self.state);
  surveying : is_surveying ((core_of l.self.state).seats l.seat).task ≡ true;
}

abbrev pub decreases-loop-next : goal.decreases-loop-next
decreases-loop-next g l = SESSIONS + 1 - passed_to ((core_of l.self.state).seats l.seat).task
