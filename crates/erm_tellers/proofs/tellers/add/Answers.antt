use Rattle.std.proofs.Common.{[], ◌∷◌, refl}
use Rattle.erm_accounts.specs.Accounts.{reads}
use Rattle.erm_script.specs.declared.script.Command.TheVariants as command
use Rattle.erm_tellers.proofs.Behind.{attempted_no, did_serve, finds_short, held_at_once, held_up, way_on}
use Rattle.erm_tellers.proofs.Asked.{deposits}
use Rattle.erm_tellers.proofs.tellers.add.Goals as goal
use Rattle.erm_tellers.specs.declared.tellers.Task.TheVariants as task
use Rattle.erm_tellers.specs.Plans.{gets_own, puts_own}
use Rattle.erm_tellers.specs.Tellers.{account_of}

pub returns-in_err-begin-clause-came_to : goal.returns-in_err-begin-clause-came_to
returns-in_err-begin-clause-came_to g c =
    attempted_no (task.Deposit c.args.holder c.args.amount) c.from_residual.result c.from_residual.ensures
    (held_at_once (gets_own c.args.holder ∷ puts_own c.args.holder [] ∷ command.Commit ∷ []) c.in_err-begin.ensures.err refl c.begin.ensures.went ([], refl))

pub returns-in_err-own-clause-came_to : goal.returns-in_err-own-clause-came_to
returns-in_err-own-clause-came_to g c =
    attempted_no (task.Deposit c.args.holder c.args.amount) c.from_residual-in_err-own.result c.from_residual-in_err-own.ensures
    (held_up (puts_own c.args.holder [] ∷ command.Commit ∷ []) c.in_ok-begin.ensures.under_way c.read.ensures.went c.in_err-own.ensures.err ([], refl))

pub returns-in_err-write-clause-came_to : goal.returns-in_err-write-clause-came_to
returns-in_err-write-clause-came_to g c =
    attempted_no (task.Deposit c.args.holder c.args.amount) c.from_residual-in_err-write.result c.from_residual-in_err-write.ensures
    (held_up (command.Commit ∷ []) (way_on c.in_ok-begin.ensures.under_way c.read.ensures.went c.in_ok-own.ensures.done) c.write.ensures.went c.in_err-write.ensures.err (c.in-Some.more, refl))

pub returns-in_err-commit-clause-came_to : goal.returns-in_err-commit-clause-came_to
returns-in_err-commit-clause-came_to g c =
    let second = c.in_ok-own.ensures.at [] c.in_ok-begin.ensures.at in
    let third = c.in_ok-write.ensures.at (reads (account_of c.args.holder.side) c.args.holder.customer c.in_ok-own.own ∷ []) second in
    attempted_no (task.Deposit c.args.holder c.args.amount) c.from_residual-in_err-commit.result c.from_residual-in_err-commit.ensures
    (held_up [] (way_on (way_on c.in_ok-begin.ensures.under_way c.read.ensures.went c.in_ok-own.ensures.done) c.write.ensures.went c.in_ok-write.ensures.done) (c.in_err-commit.ensures.undone _ third) c.in_err-commit.ensures.err (c.in-Some.more, refl))

pub returns-in_default-clause-came_to : goal.returns-in_default-clause-came_to
returns-in_default-clause-came_to g c =
    let second = c.in_ok-own.ensures.at [] c.in_ok-begin.ensures.at in
    finds_short (way_on c.in_ok-begin.ensures.under_way c.read.ensures.went c.in_ok-own.ensures.done) second (c.in_ok-own.own, refl, c.in_default.ensures.none)

pub returns-clause-came_to : goal.returns-clause-came_to
returns-clause-came_to g c =
    let second = c.in_ok-own.ensures.at [] c.in_ok-begin.ensures.at in
    let third = c.in_ok-write.ensures.at (reads (account_of c.args.holder.side) c.args.holder.customer c.in_ok-own.own ∷ []) second in
    did_serve (way_on (way_on c.in_ok-begin.ensures.under_way c.read.ensures.went c.in_ok-own.ensures.done) c.write.ensures.went c.in_ok-write.ensures.done) c.in_ok-commit.ensures.done (c.in_ok-commit.ensures.commits _ third)
    (deposits c.args.holder c.args.amount c.in_ok-own.own c.in-Some.more c.in-Some.ensures.more c.in-Some.ensures.readable) (c.in-Some.more, refl)

pub returns-in_err-write-clause-on : goal.returns-in_err-write-clause-on
returns-in_err-write-clause-on g c = let goes = g.met.X.Transactions.goes_on in goes _ _ _ (goes _ _ _ c.begin.ensures.on c.read.ensures.on) c.write.ensures.on

pub returns-in_err-commit-clause-on : goal.returns-in_err-commit-clause-on
returns-in_err-commit-clause-on g c = let goes = g.met.X.Transactions.goes_on in goes _ _ _ (goes _ _ _ (goes _ _ _ c.begin.ensures.on c.read.ensures.on) c.write.ensures.on) c.commit.ensures.on

pub returns-clause-on : goal.returns-clause-on
returns-clause-on g c = let goes = g.met.X.Transactions.goes_on in goes _ _ _ (goes _ _ _ (goes _ _ _ c.begin.ensures.on c.read.ensures.on) c.write.ensures.on) c.commit.ensures.on
