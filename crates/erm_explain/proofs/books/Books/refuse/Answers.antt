use Rattle.std.proofs.Common.{◌==◌, Some, subst}
use Rattle.std.specs.Option.{option_map}
use Rattle.std.proofs.lemmas.Result.{on_ok_weaker}
use Rattle.erm_good_report.specs.Transactions.{Aborts, Progress, ended, with_line}
use Rattle.erm_explain.specs.Books.{HasProgress}
use Rattle.erm_explain.proofs.Moving.{twice}
use Rattle.erm_explain.proofs.books.Books.refuse.Goals as goal

pub returns-clause-refuses : goal.returns-clause-refuses
returns-clause-refuses c =
    let line = c.args.line.now in
    on_ok_weaker c.end.result (λ over script answers answer at told s p has.
    subst (λ (q : Progress). HasProgress script answers c.end.new.self s q)
    (twice (line.session == s) (ended Aborts) (λ q. record q { current = option_map (with_line (Some line.command) answer) q.current }) p)
    (over script answers s _ (c.in_ok-note.ensures.notes script answers answer at told s p has))) c.end.ensures.ends
