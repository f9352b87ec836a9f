use Rattle.std.specs.Io.KnownBytes.{Keeps}
use Rattle.erm_outside_real.proofs.patient.PatientWrite.write.Given as goal

-- known bytes are as they were
abbrev pub invariant-loop : goal.invariant-loop
invariant-loop g l = Keeps (g.S.Write.contents l.initial.self.stream) (g.S.Write.contents l.self.stream)
