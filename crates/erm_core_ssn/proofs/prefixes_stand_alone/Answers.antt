use Rattle.erm_core_ssn.proofs.Prefixes.{snapshot_below, certified_below}
use Rattle.erm_core_ssn.proofs.prefixes_stand_alone.Goals as goal

pub returns-clause-snapshot : goal.returns-clause-snapshot
returns-clause-snapshot c = λ h opening snapshot bound. snapshot_below h bound opening snapshot

pub returns-clause-certified : goal.returns-clause-certified
returns-clause-certified c = λ h certified bound. certified_below h bound certified
