use Rattle.std.proofs.Common.{◌≡◌}
use Rattle.erm_sound.specs.Kept.{SoundUnder}
use Rattle.erm_core.specs.Cores.{core_of}
use Rattle.erm_lists.specs.Snapshots.{IsSafeReader, OnlyLooks, object_in_hand, walk_left}
use Rattle.erm_lists.proofs.lists.Lists.walk_safe.Given as goal

abbrev pub invariant-loop-kind : goal.invariant-loop-kind
invariant-loop-kind g l = record {
  sound : SoundUnder g.L.RowLaw.law (core_of l.self.state);
  sessions : l.self.sessions ≡ l.fn.self.sessions;
  looks : OnlyLooks l.seat (core_of l.fn.self.state) (core_of l.self.state);
  reader : IsSafeReader l.seat (core_of l.self.state);
  object : object_in_hand ((core_of l.self.state).seats l.seat).task ≡ object_in_hand ((core_of l.fn.self.state).seats l.seat).task;
}

abbrev pub decreases-loop-kind : goal.decreases-loop-kind
decreases-loop-kind g l = walk_left ((core_of l.self.state).seats l.seat).task
