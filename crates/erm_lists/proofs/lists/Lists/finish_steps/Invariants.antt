use Rattle.std.proofs.Common.{◌≡◌, true}
use Rattle.erm_sound.specs.Kept.{SoundUnder}
use Rattle.erm_core.specs.Cores.{core_of}
use Rattle.erm_core_steps.specs.Finishes.{is_finishing}
use Rattle.erm_core_steps.specs.Reads.{GoesOn}
use Rattle.erm_core_steps.proofs.Finishing.{finish_left}
use Rattle.erm_lists.proofs.Room.{KeepsCutRoom}
use Rattle.erm_lists.proofs.lists.Lists.finish_steps.Given as goal

abbrev pub invariant-loop-kind : goal.invariant-loop-kind
invariant-loop-kind g l = record {
  sound : SoundUnder g.L.RowLaw.law (core_of l.self.state);
  sessions : l.self.sessions ≡ l.fn.self.sessions;
  goes : GoesOn l.fn.self.sessions l.seat (core_of l.fn.self.state) (core_of l.self.state);
  room : KeepsCutRoom l.self.state l.seat ((core_of l.self.state).seats l.seat).task;
  finishes : is_finishing ((core_of l.self.state).seats l.seat).task ≡ true;
}

abbrev pub decreases-loop-kind : goal.decreases-loop-kind
decreases-loop-kind g l = finish_left ((core_of l.self.state).seats l.seat).task
