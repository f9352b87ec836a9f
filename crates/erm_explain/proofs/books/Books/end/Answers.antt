use Rattle.std.proofs.lemmas.Result.{on_ok_weaker}
use Rattle.erm_explain.proofs.Moving.{both_end}
use Rattle.erm_explain.proofs.books.Books.end.Goals as goal

pub returns-clause-ends : goal.returns-clause-ends
returns-clause-ends c =
    on_ok_weaker c.end_watch.result (λ other script answers.
    both_end script answers c.args.session c.args.ending c.args.self.now c.end_own.new.self c.end_watch.new.self (c.in_ok-end_own.ensures.ends script answers) (other script answers)) c.end_watch.ensures.ends
