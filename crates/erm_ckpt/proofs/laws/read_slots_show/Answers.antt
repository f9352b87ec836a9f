use Rattle.erm_ckpt.proofs.OneRecovery.{checks_read, read_checks}
use Rattle.erm_ckpt.proofs.laws.read_slots_show.Goals as goal

pub returns : goal.returns
returns g c = λ file words tail checkpoint are e room. (
  λ checks. (checks_read g.L.RowLaw.law.meets file words tail are e room checkpoint checks, checks.rows),
  λ read. read_checks g.L.RowLaw.law.meets file words tail are e room checkpoint read.0 read.1,
)
