use Rattle.std.proofs.Common.{refl}
use Rattle.erm_report.specs.declared.answer.Answer.TheVariants as answer
use Rattle.erm_script.specs.declared.script.Command.TheVariants as command
use Rattle.erm_tellers.proofs.dealing.end_snapshot.Goals as goal
use Rattle.erm_tellers.proofs.Kept.{ended_by, granted_so, unended_by, why_unended}

pub returns-clause-undone : goal.returns-clause-undone
returns-clause-undone g c = unended_by c.args.client.now.transcript c.end.new.self.transcript c.requires.client.transcript_ok c.end.result c.end.ensures.err

pub returns-clause-done : goal.returns-clause-done
returns-clause-done g c = granted_so c.args.client.now.transcript c.end.new.self.transcript c.requires.client.transcript_ok answer.Ended command.Commit command.Commit c.end.result
    (λ no. no) refl c.end.ensures.ok

pub returns-clause-ends : goal.returns-clause-ends
returns-clause-ends g c = ended_by c.args.client.now.transcript c.end.new.self.transcript c.requires.client.transcript_ok c.end.result c.end.ensures.ok

pub returns-clause-err : goal.returns-clause-err
returns-clause-err g c = why_unended c.args.client.now.transcript c.end.new.self.transcript c.requires.client.transcript_ok c.end.result c.end.ensures.err
