use Rattle.std.proofs.Common.{arith, length, ◌<◌}
use Rattle.erm_outside_real.proofs.Known.{takes_if}
use Rattle.erm_outside_real.proofs.reader_source.ReaderSourceSource.take.Goals as goal

pub returns-in-Ok-clause-taken : goal.returns-in-Ok-clause-taken
returns-in-Ok-clause-taken g c =
    let room : 0 < length c.read.new.buf = omega (arith, c.requires, c.read.auto.buf) in
    rw (← c.self.view_is) (takes_if c.self.inside.tells (g.R.Read.remaining c.self.inside.reader) (g.R.Read.remaining c.read.new.self) c.read.new.buf c.in-Ok.count
    c.self.invariant c.in-Ok.ensures.bound.0 c.in-Ok.ensures.bytes.0 (λ z. c.in-Ok.ensures.bytes.1 z room))
