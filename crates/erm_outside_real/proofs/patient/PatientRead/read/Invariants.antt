use Rattle.std.specs.Io.KnownBytes.{Keeps}
use Rattle.erm_outside_real.proofs.patient.PatientRead.read.Given as goal

-- known bytes are as they were
abbrev pub invariant-loop : goal.invariant-loop
invariant-loop g l = Keeps (g.S.Read.remaining l.initial.self.stream) (g.S.Read.remaining l.self.stream)
