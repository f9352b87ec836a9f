use Rattle.std.proofs.Common.{◌≡◌, ◌-◌, ◌≤◌}
use Rattle.erm_replica_run.specs.Ends.{Runs}
use Rattle.erm_replica_run.proofs.replicating.replicate.Given as goal

abbrev pub invariant-chunks : goal.invariant-chunks
invariant-chunks g l = record {
  runs : Runs (g.S.Source.left l.fn.source) (g.S.Source.left l.source) l.taken l.replica;
  source : g.S.Source.faults l.source ≡ g.S.Source.faults l.fn.source;
  written : g.K.Sink.written l.sink ≡ g.K.Sink.written l.fn.sink;
  sink : g.K.Sink.faults l.sink ≡ g.K.Sink.faults l.fn.sink;
  few : l.taken ≤ 16777217;
}

abbrev pub decreases-chunks : goal.decreases-chunks
decreases-chunks g l = 16777217 - l.taken
