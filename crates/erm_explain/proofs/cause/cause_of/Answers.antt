use Rattle.std.proofs.Common.{Some, None}
use Rattle.std.proofs.lemmas.Result.{IfOk-weaker}
use Rattle.erm_explain.proofs.Naming.{named_excluded, named_newer, named_owned}
use Rattle.erm_explain.proofs.cause.cause_of.Goals as goal

pub returns-in-Owned-clause-names : goal.returns-in-Owned-clause-names
returns-in-Owned-clause-names c answers has told opening all t some are is_own =
    rw c.in-Owned.is
    (named_owned c.args.script.now answers opening all c.args.books.now c.args.place c.args.line.now c.requires.seats has c.requires.line are c.in-Owned.seat c.in-Owned.number c.owner.result
    c.owner.ensures)

pub returns-in-Newer-clause-names : goal.returns-in-Newer-clause-names
returns-in-Newer-clause-names c answers has told opening all t some are is_own =
    rw c.in-Newer.is
    (named_newer c.args.script.now answers opening all c.args.books.now c.args.place c.args.line.now c.requires.seats has c.requires.line are c.args.answer.now t c.in-Newer.stamp c.newer.result
    some is_own c.newer.ensures)

pub returns-in-Excluded-clause-names : goal.returns-in-Excluded-clause-names
returns-in-Excluded-clause-names c =
    IfOk-weaker c.window.result _ _ (λ cause is answers has told opening all t some are is_own.
    rw c.in-Excluded.is
    (named_excluded c.args.script.now answers opening all c.args.books.now c.args.place c.args.line.now c.requires.seats has c.requires.line are c.args.answer.now t (Some c.in-Excluded.stamp)
    c.in-Excluded.succ c.in-Excluded.pred cause some told is_own is)) c.window.ensures

pub returns-in-ExcludedEarly-clause-names : goal.returns-in-ExcludedEarly-clause-names
returns-in-ExcludedEarly-clause-names c =
    IfOk-weaker c.window-in-ExcludedEarly.result _ _ (λ cause is answers has told opening all t some are is_own.
    rw c.in-ExcludedEarly.is
    (named_excluded c.args.script.now answers opening all c.args.books.now c.args.place c.args.line.now c.requires.seats has c.requires.line are c.args.answer.now t None
    c.in-ExcludedEarly.succ c.in-ExcludedEarly.pred cause some told is_own is)) c.window-in-ExcludedEarly.ensures
