use Rattle.std.proofs.Common.{[], ◌∷◌, refl}
use Rattle.erm_accounts.specs.Accounts.{beside, reads, writes}
use Rattle.erm_script.specs.declared.script.Command.TheVariants as command
use Rattle.erm_tellers.proofs.Behind.{attempted_no, did_serve, finds_short, held_at_once, held_up, way_on}
use Rattle.erm_tellers.proofs.Asked.{transfers}
use Rattle.erm_tellers.proofs.tellers.transfer.Goals as goal
use Rattle.erm_tellers.specs.declared.tellers.Task.TheVariants as task
use Rattle.erm_tellers.specs.Plans.{gets_other, gets_own, puts_own}
use Rattle.erm_tellers.specs.Tellers.{account_of}

pub returns-in_err-begin-clause-came_to : goal.returns-in_err-begin-clause-came_to
returns-in_err-begin-clause-came_to g c =
    attempted_no (task.Transfer c.args.payer c.args.payee c.args.amount) c.from_residual.result c.from_residual.ensures
    (held_at_once (gets_own c.args.payer ∷ gets_other c.args.payer ∷ gets_own c.args.payee ∷ puts_own c.args.payer [] ∷ puts_own c.args.payee [] ∷ command.Commit ∷ []) c.in_err-begin.ensures.err refl c.begin.ensures.went ([], [], refl))

pub returns-in_err-own-clause-came_to : goal.returns-in_err-own-clause-came_to
returns-in_err-own-clause-came_to g c =
    attempted_no (task.Transfer c.args.payer c.args.payee c.args.amount) c.from_residual-in_err-own.result c.from_residual-in_err-own.ensures
    (held_up (gets_other c.args.payer ∷ gets_own c.args.payee ∷ puts_own c.args.payer [] ∷ puts_own c.args.payee [] ∷ command.Commit ∷ []) c.in_ok-begin.ensures.under_way c.read.ensures.went c.in_err-own.ensures.err ([], [], refl))

pub returns-in_err-other-clause-came_to : goal.returns-in_err-other-clause-came_to
returns-in_err-other-clause-came_to g c =
    attempted_no (task.Transfer c.args.payer c.args.payee c.args.amount) c.from_residual-in_err-other.result c.from_residual-in_err-other.ensures
    (held_up (gets_own c.args.payee ∷ puts_own c.args.payer [] ∷ puts_own c.args.payee [] ∷ command.Commit ∷ []) (way_on c.in_ok-begin.ensures.under_way c.read.ensures.went c.in_ok-own.ensures.done) c.read_beside.ensures.went c.in_err-other.ensures.err ([], [], refl))

pub returns-in_err-there-clause-came_to : goal.returns-in_err-there-clause-came_to
returns-in_err-there-clause-came_to g c =
    attempted_no (task.Transfer c.args.payer c.args.payee c.args.amount) c.from_residual-in_err-there.result c.from_residual-in_err-there.ensures
    (held_up (puts_own c.args.payer [] ∷ puts_own c.args.payee [] ∷ command.Commit ∷ []) (way_on (way_on c.in_ok-begin.ensures.under_way c.read.ensures.went c.in_ok-own.ensures.done) c.read_beside.ensures.went c.in_ok-other.ensures.done) c.read-2.ensures.went c.in_err-there.ensures.err ([], [], refl))

pub returns-in_err-write-clause-came_to : goal.returns-in_err-write-clause-came_to
returns-in_err-write-clause-came_to g c =
    attempted_no (task.Transfer c.args.payer c.args.payee c.args.amount) c.from_residual-in_err-write.result c.from_residual-in_err-write.ensures
    (held_up (puts_own c.args.payee [] ∷ command.Commit ∷ []) (way_on (way_on (way_on c.in_ok-begin.ensures.under_way c.read.ensures.went c.in_ok-own.ensures.done) c.read_beside.ensures.went c.in_ok-other.ensures.done) c.read-2.ensures.went c.in_ok-there.ensures.done) c.write.ensures.went c.in_err-write.ensures.err (c.in-Some.both.0, [], refl))

pub returns-in_err-write-2-clause-came_to : goal.returns-in_err-write-2-clause-came_to
returns-in_err-write-2-clause-came_to g c =
    attempted_no (task.Transfer c.args.payer c.args.payee c.args.amount) c.from_residual-in_err-write-2.result c.from_residual-in_err-write-2.ensures
    (held_up (command.Commit ∷ []) (way_on (way_on (way_on (way_on c.in_ok-begin.ensures.under_way c.read.ensures.went c.in_ok-own.ensures.done) c.read_beside.ensures.went c.in_ok-other.ensures.done) c.read-2.ensures.went c.in_ok-there.ensures.done) c.write.ensures.went c.in_ok-write.ensures.done) c.write-2.ensures.went c.in_err-write-2.ensures.err (c.in-Some.both.0, c.in-Some.both.1, refl))

pub returns-in_err-commit-clause-came_to : goal.returns-in_err-commit-clause-came_to
returns-in_err-commit-clause-came_to g c =
    let second = c.in_ok-own.ensures.at [] c.in_ok-begin.ensures.at in
    let third = c.in_ok-other.ensures.at (reads (account_of c.args.payer.side) c.args.payer.customer c.in_ok-own.own ∷ []) second in
    let fourth = c.in_ok-there.ensures.at (reads (account_of c.args.payer.side) c.args.payer.customer c.in_ok-own.own ∷ reads (beside (account_of c.args.payer.side)) c.args.payer.customer c.in_ok-other.other ∷ []) third in
    let fifth = c.in_ok-write.ensures.at (reads (account_of c.args.payer.side) c.args.payer.customer c.in_ok-own.own ∷ reads (beside (account_of c.args.payer.side)) c.args.payer.customer c.in_ok-other.other ∷ reads (account_of c.args.payee.side) c.args.payee.customer c.in_ok-there.there ∷ []) fourth in
    let sixth = c.in_ok-write-2.ensures.at (reads (account_of c.args.payer.side) c.args.payer.customer c.in_ok-own.own ∷ reads (beside (account_of c.args.payer.side)) c.args.payer.customer c.in_ok-other.other ∷ reads (account_of c.args.payee.side) c.args.payee.customer c.in_ok-there.there ∷ writes (account_of c.args.payer.side) c.args.payer.customer c.in-Some.both.0 ∷ []) fifth in
    attempted_no (task.Transfer c.args.payer c.args.payee c.args.amount) c.from_residual-in_err-commit.result c.from_residual-in_err-commit.ensures
    (held_up [] (way_on (way_on (way_on (way_on (way_on c.in_ok-begin.ensures.under_way c.read.ensures.went c.in_ok-own.ensures.done) c.read_beside.ensures.went c.in_ok-other.ensures.done) c.read-2.ensures.went c.in_ok-there.ensures.done) c.write.ensures.went c.in_ok-write.ensures.done) c.write-2.ensures.went c.in_ok-write-2.ensures.done) (c.in_err-commit.ensures.undone _ sixth) c.in_err-commit.ensures.err (c.in-Some.both.0, c.in-Some.both.1, refl))

pub returns-in_default-clause-came_to : goal.returns-in_default-clause-came_to
returns-in_default-clause-came_to g c =
    let second = c.in_ok-own.ensures.at [] c.in_ok-begin.ensures.at in
    let third = c.in_ok-other.ensures.at (reads (account_of c.args.payer.side) c.args.payer.customer c.in_ok-own.own ∷ []) second in
    let fourth = c.in_ok-there.ensures.at (reads (account_of c.args.payer.side) c.args.payer.customer c.in_ok-own.own ∷ reads (beside (account_of c.args.payer.side)) c.args.payer.customer c.in_ok-other.other ∷ []) third in
    finds_short (way_on (way_on (way_on c.in_ok-begin.ensures.under_way c.read.ensures.went c.in_ok-own.ensures.done) c.read_beside.ensures.went c.in_ok-other.ensures.done) c.read-2.ensures.went c.in_ok-there.ensures.done) fourth (c.in_ok-own.own, c.in_ok-other.other, c.in_ok-there.there, refl, c.in_default.ensures.none)

pub returns-clause-came_to : goal.returns-clause-came_to
returns-clause-came_to g c =
    let second = c.in_ok-own.ensures.at [] c.in_ok-begin.ensures.at in
    let third = c.in_ok-other.ensures.at (reads (account_of c.args.payer.side) c.args.payer.customer c.in_ok-own.own ∷ []) second in
    let fourth = c.in_ok-there.ensures.at (reads (account_of c.args.payer.side) c.args.payer.customer c.in_ok-own.own ∷ reads (beside (account_of c.args.payer.side)) c.args.payer.customer c.in_ok-other.other ∷ []) third in
    let fifth = c.in_ok-write.ensures.at (reads (account_of c.args.payer.side) c.args.payer.customer c.in_ok-own.own ∷ reads (beside (account_of c.args.payer.side)) c.args.payer.customer c.in_ok-other.other ∷ reads (account_of c.args.payee.side) c.args.payee.customer c.in_ok-there.there ∷ []) fourth in
    let sixth = c.in_ok-write-2.ensures.at (reads (account_of c.args.payer.side) c.args.payer.customer c.in_ok-own.own ∷ reads (beside (account_of c.args.payer.side)) c.args.payer.customer c.in_ok-other.other ∷ reads (account_of c.args.payee.side) c.args.payee.customer c.in_ok-there.there ∷ writes (account_of c.args.payer.side) c.args.payer.customer c.in-Some.both.0 ∷ []) fifth in
    did_serve (way_on (way_on (way_on (way_on (way_on c.in_ok-begin.ensures.under_way c.read.ensures.went c.in_ok-own.ensures.done) c.read_beside.ensures.went c.in_ok-other.ensures.done) c.read-2.ensures.went c.in_ok-there.ensures.done) c.write.ensures.went c.in_ok-write.ensures.done) c.write-2.ensures.went c.in_ok-write-2.ensures.done) c.in_ok-commit.ensures.done (c.in_ok-commit.ensures.commits _ sixth)
    (transfers c.args.payer c.args.payee c.args.amount (beside (account_of c.args.payer.side)) c.in_ok-own.own c.in_ok-other.other c.in_ok-there.there c.in-Some.both.0 c.in-Some.both.1 refl c.in-Some.ensures.apart c.in-Some.ensures.left c.in-Some.ensures.covered c.in-Some.ensures.more c.in-Some.ensures.readable) (c.in-Some.both.0, c.in-Some.both.1, refl)

pub returns-in_err-write-clause-on : goal.returns-in_err-write-clause-on
returns-in_err-write-clause-on g c = let goes = g.met.X.Transactions.goes_on in goes _ _ _ (goes _ _ _ (goes _ _ _ (goes _ _ _ c.begin.ensures.on c.read.ensures.on) c.read_beside.ensures.on) c.read-2.ensures.on) c.write.ensures.on

pub returns-in_err-write-2-clause-on : goal.returns-in_err-write-2-clause-on
returns-in_err-write-2-clause-on g c = let goes = g.met.X.Transactions.goes_on in goes _ _ _ (goes _ _ _ (goes _ _ _ (goes _ _ _ (goes _ _ _ c.begin.ensures.on c.read.ensures.on) c.read_beside.ensures.on) c.read-2.ensures.on) c.write.ensures.on) c.write-2.ensures.on

pub returns-in_err-commit-clause-on : goal.returns-in_err-commit-clause-on
returns-in_err-commit-clause-on g c = let goes = g.met.X.Transactions.goes_on in goes _ _ _ (goes _ _ _ (goes _ _ _ (goes _ _ _ (goes _ _ _ (goes _ _ _ c.begin.ensures.on c.read.ensures.on) c.read_beside.ensures.on) c.read-2.ensures.on) c.write.ensures.on) c.write-2.ensures.on) c.commit.ensures.on

pub returns-clause-on : goal.returns-clause-on
returns-clause-on g c = let goes = g.met.X.Transactions.goes_on in goes _ _ _ (goes _ _ _ (goes _ _ _ (goes _ _ _ (goes _ _ _ (goes _ _ _ c.begin.ensures.on c.read.ensures.on) c.read_beside.ensures.on) c.read-2.ensures.on) c.write.ensures.on) c.write-2.ensures.on) c.commit.ensures.on
