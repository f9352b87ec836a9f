use Rattle.std.proofs.Common.{◌≡◌}
use Rattle.erm_sound.specs.Kept.{SoundUnder}
use Rattle.erm_core.specs.Cores.{core_of}
use Rattle.erm_core_steps.specs.Reads.{GoesOn, stage_of, steps_left}
use Rattle.erm_lists.specs.Rooms.{KeepsRoom}
use Rattle.erm_lists.proofs.lists.Lists.go_on.Given as goal

abbrev pub invariant-loop-kind : goal.invariant-loop-kind
invariant-loop-kind g l = record {
  sound : SoundUnder g.L.RowLaw.law (core_of l.self.state);
  sessions : l.self.sessions ≡ l.fn.self.sessions;
  goes : GoesOn l.fn.self.sessions l.seat (core_of l.fn.self.state) (core_of l.self.state);
  room : KeepsRoom l.fn.self.state l.self.state l.seat;
  stage : stage_of ((core_of l.self.state).seats l.seat).task ≡ stage_of ((core_of l.fn.self.state).seats l.seat).task;
}

abbrev pub decreases-loop-kind : goal.decreases-loop-kind
decreases-loop-kind g l = steps_left ((core_of l.self.state).seats l.seat).task
