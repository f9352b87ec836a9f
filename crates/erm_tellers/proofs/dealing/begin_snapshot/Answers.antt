use Rattle.std.proofs.Common.{refl}
use Rattle.erm_report.specs.declared.answer.Answer.TheVariants as answer
use Rattle.erm_script.specs.declared.script.Command.TheVariants as command
use Rattle.erm_tellers.proofs.dealing.begin_snapshot.Goals as goal
use Rattle.erm_tellers.proofs.Kept.{begun_by, refused_by, safe_at, went_by}

pub returns-clause-under_way : goal.returns-clause-under_way
returns-clause-under_way g c = begun_by c.args.client.now.transcript c.safe.new.self.transcript c.requires.client.transcript_ok answer.Safe command.Safe c.safe.result
    (λ y. tt) (λ y no. cc) refl c.safe.ensures.ok

pub returns-clause-at : goal.returns-clause-at
returns-clause-at g c = safe_at c.args.client.now.transcript c.safe.new.self.transcript c.requires.client.transcript_ok c.safe.result c.safe.ensures.ok

pub returns-clause-went : goal.returns-clause-went
returns-clause-went g c = went_by c.args.client.now.transcript c.safe.new.self.transcript c.requires.client.transcript_ok answer.Safe command.Safe c.safe.result
    (λ y. tt) (λ no. no) c.safe.ensures.ok c.safe.ensures.err

pub returns-clause-err : goal.returns-clause-err
returns-clause-err g c = refused_by c.args.client.now.transcript c.safe.new.self.transcript c.requires.client.transcript_ok command.Safe command.Safe c.safe.result refl c.safe.ensures.err
