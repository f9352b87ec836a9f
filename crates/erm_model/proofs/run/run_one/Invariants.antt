use Rattle.std.proofs.Common.{◌≡◌, length, take}
use Rattle.erm_model.specs.Run.{RunsOne, after_from, begins, maps, steps_of}
use Rattle.erm_model.proofs.run.run_one.Given as goal

abbrev pub invariant-loop-op : goal.invariant-loop-op
invariant-loop-op l = record {
  count : length l.replies.items ≡ l.op-index;
  run : RunsOne l.fn.map (steps_of (take l.op-index l.ops) l.replies.items);
  after : maps l.map l.saved.items ≡ after_from (take l.op-index l.ops) (begins l.fn.map);
}
