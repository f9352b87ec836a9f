use Rattle.erm_told_audit.proofs.Audits.{audit_tells}
use Rattle.erm_told_audit.proofs.audits_tell_the_commits.Goals as goal

pub returns : goal.returns
returns c = audit_tells
