use Rattle.std.proofs.Common.{◌≡◌, ◌-◌, ◌≤◌}
use Rattle.erm_follow_run.specs.Ends.{Runs}
use Rattle.erm_follow_run.proofs.following.follow.Given as goal

abbrev pub invariant-chunks : goal.invariant-chunks
invariant-chunks g l = record {
  runs : Runs (g.S.Source.left l.fn.source) (g.S.Source.left l.source) (g.K.Sink.written l.fn.sink) (g.K.Sink.written l.sink) l.taken l.rest l.stream l.follow;
  source : g.S.Source.faults l.source ≡ g.S.Source.faults l.fn.source;
  sink : g.K.Sink.faults l.sink ≡ g.K.Sink.faults l.fn.sink;
  few : l.taken ≤ 16777217;
}

abbrev pub decreases-chunks : goal.decreases-chunks
decreases-chunks g l = 16777217 - l.taken
