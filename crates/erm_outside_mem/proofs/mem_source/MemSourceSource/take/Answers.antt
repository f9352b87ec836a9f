use Rattle.std.proofs.Common.{arith}
use Rattle.erm_outside_mem.proofs.Fronts.{IfOk-filled}
use Rattle.erm_outside_mem.proofs.mem_source.MemSourceSource.take.Goals as goal

pub returns-clause-buffer : goal.returns-clause-buffer
returns-clause-buffer c =
    rw (← c.self.view_is) (IfOk-filled c.self.inside.source c.args.buf.now c.take.new.buf c.min-most.result c.take.result (omega arith) c.take.ensures.count c.take.ensures.buffer)
