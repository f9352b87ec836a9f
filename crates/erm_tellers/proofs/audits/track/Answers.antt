use Rattle.std.proofs.Common.{[], ◌∷◌, refl}
use Rattle.erm_accounts.specs.Accounts.{Current, Savings}
use Rattle.erm_script.specs.declared.script.Command.TheVariants as command
use Rattle.erm_tellers.proofs.Behind.{did_audit_in_transaction, found_no, held_at_once, held_up, way_on}
use Rattle.erm_tellers.proofs.audits.track.Goals as goal
use Rattle.erm_tellers.specs.Plans.{IsPlanInTransaction, scans}
use Rattle.erm_tellers.specs.Tellers.{finds}

pub returns-in_err-begin-clause-held_up : goal.returns-in_err-begin-clause-held_up
returns-in_err-begin-clause-held_up g c =
    found_no (IsPlanInTransaction c.args.low c.args.high) c.from_residual.result c.from_residual.ensures (held_at_once (scans Current c.args.low c.args.high ∷ scans Savings c.args.low c.args.high ∷ command.Commit ∷ []) c.in_err-begin.ensures.err refl c.begin.ensures.went refl)

pub returns-in_err-current-clause-held_up : goal.returns-in_err-current-clause-held_up
returns-in_err-current-clause-held_up g c =
    found_no (IsPlanInTransaction c.args.low c.args.high) c.from_residual-in_err-current.result c.from_residual-in_err-current.ensures
    (held_up (scans Savings c.args.low c.args.high ∷ command.Commit ∷ []) c.in_ok-begin.ensures.under_way c.find.ensures.went c.in_err-current.ensures.err refl)

pub returns-in_err-savings-clause-held_up : goal.returns-in_err-savings-clause-held_up
returns-in_err-savings-clause-held_up g c =
    found_no (IsPlanInTransaction c.args.low c.args.high) c.from_residual-in_err-savings.result c.from_residual-in_err-savings.ensures
    (held_up (command.Commit ∷ []) (way_on c.in_ok-begin.ensures.under_way c.find.ensures.went c.in_ok-current.ensures.done) c.find-2.ensures.went c.in_err-savings.ensures.err refl)

pub returns-in_err-commit-clause-held_up : goal.returns-in_err-commit-clause-held_up
returns-in_err-commit-clause-held_up g c =
    let one = finds Current c.args.low c.args.high c.in_ok-current.current in
    let second = c.in_ok-current.ensures.at [] c.in_ok-begin.ensures.at in
    let third = c.in_ok-savings.ensures.at (one ∷ []) second in
    found_no (IsPlanInTransaction c.args.low c.args.high) c.from_residual-in_err-commit.result c.from_residual-in_err-commit.ensures
    (held_up [] (way_on (way_on c.in_ok-begin.ensures.under_way c.find.ensures.went c.in_ok-current.ensures.done) c.find-2.ensures.went c.in_ok-savings.ensures.done) (c.in_err-commit.ensures.undone _ third) c.in_err-commit.ensures.err refl)

pub returns-clause-did : goal.returns-clause-did
returns-clause-did g c =
    let one = finds Current c.args.low c.args.high c.in_ok-current.current in
    let second = c.in_ok-current.ensures.at [] c.in_ok-begin.ensures.at in
    let third = c.in_ok-savings.ensures.at (one ∷ []) second in
    did_audit_in_transaction (way_on (way_on c.in_ok-begin.ensures.under_way c.find.ensures.went c.in_ok-current.ensures.done) c.find-2.ensures.went c.in_ok-savings.ensures.done) c.in_ok-commit.ensures.done (c.in_ok-commit.ensures.commits _ third) refl refl
