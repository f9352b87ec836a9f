use Rattle.std.proofs.Common.{[], ◌∷◌, refl}
use Rattle.erm_accounts.specs.Accounts.{Current, Savings}
use Rattle.erm_script.specs.declared.script.Command.TheVariants as command
use Rattle.erm_tellers.proofs.Behind.{did_audit, found_no, goes, held_at_once, held_up, way_on}
use Rattle.erm_tellers.proofs.audits.look.Goals as goal
use Rattle.erm_tellers.specs.Plans.{IsAuditPlan, scans}
use Rattle.erm_tellers.specs.Tellers.{finds}

pub returns-in_err-begin_snapshot-clause-held_up : goal.returns-in_err-begin_snapshot-clause-held_up
returns-in_err-begin_snapshot-clause-held_up g c =
    found_no (IsAuditPlan c.args.low c.args.high) c.from_residual.result c.from_residual.ensures (held_at_once (scans Current c.args.low c.args.high ∷ scans Savings c.args.low c.args.high ∷ command.Commit ∷ []) c.in_err-begin_snapshot.ensures.err refl c.begin_snapshot.ensures.went refl)

pub returns-in_err-current-clause-on : goal.returns-in_err-current-clause-on
returns-in_err-current-clause-on g c = goes c.begin_snapshot.ensures.on c.find.ensures.on

pub returns-in_err-current-clause-held_up : goal.returns-in_err-current-clause-held_up
returns-in_err-current-clause-held_up g c =
    found_no (IsAuditPlan c.args.low c.args.high) c.from_residual-in_err-current.result c.from_residual-in_err-current.ensures
    (held_up (scans Savings c.args.low c.args.high ∷ command.Commit ∷ []) c.in_ok-begin_snapshot.ensures.under_way c.find.ensures.went c.in_err-current.ensures.err refl)

pub returns-in_err-savings-clause-on : goal.returns-in_err-savings-clause-on
returns-in_err-savings-clause-on g c = goes (goes c.begin_snapshot.ensures.on c.find.ensures.on) c.find-2.ensures.on

pub returns-in_err-savings-clause-held_up : goal.returns-in_err-savings-clause-held_up
returns-in_err-savings-clause-held_up g c =
    found_no (IsAuditPlan c.args.low c.args.high) c.from_residual-in_err-savings.result c.from_residual-in_err-savings.ensures
    (held_up (command.Commit ∷ []) (way_on c.in_ok-begin_snapshot.ensures.under_way c.find.ensures.went c.in_ok-current.ensures.done) c.find-2.ensures.went c.in_err-savings.ensures.err refl)

pub returns-in_err-end_snapshot-clause-on : goal.returns-in_err-end_snapshot-clause-on
returns-in_err-end_snapshot-clause-on g c = goes (goes (goes c.begin_snapshot.ensures.on c.find.ensures.on) c.find-2.ensures.on) c.end_snapshot.ensures.on

pub returns-in_err-end_snapshot-clause-held_up : goal.returns-in_err-end_snapshot-clause-held_up
returns-in_err-end_snapshot-clause-held_up g c =
    let begin = c.in_ok-begin_snapshot.field-0 in
    let one = finds Current c.args.low c.args.high c.in_ok-current.current in
    let second = c.in_ok-current.ensures.seen begin [] c.in_ok-begin_snapshot.ensures.at in
    let third = c.in_ok-savings.ensures.seen begin (one ∷ []) second in
    found_no (IsAuditPlan c.args.low c.args.high) c.from_residual-in_err-end_snapshot.result c.from_residual-in_err-end_snapshot.ensures
    (held_up [] (way_on (way_on c.in_ok-begin_snapshot.ensures.under_way c.find.ensures.went c.in_ok-current.ensures.done) c.find-2.ensures.went c.in_ok-savings.ensures.done) c.in_err-end_snapshot.ensures.undone (c.in_err-end_snapshot.ensures.err begin _ third) refl)

pub returns-clause-on : goal.returns-clause-on
returns-clause-on g c = goes (goes (goes c.begin_snapshot.ensures.on c.find.ensures.on) c.find-2.ensures.on) c.end_snapshot.ensures.on

pub returns-clause-did : goal.returns-clause-did
returns-clause-did g c =
    let begin = c.in_ok-begin_snapshot.field-0 in
    let one = finds Current c.args.low c.args.high c.in_ok-current.current in
    let second = c.in_ok-current.ensures.seen begin [] c.in_ok-begin_snapshot.ensures.at in
    let third = c.in_ok-savings.ensures.seen begin (one ∷ []) second in
    did_audit (way_on (way_on c.in_ok-begin_snapshot.ensures.under_way c.find.ensures.went c.in_ok-current.ensures.done) c.find-2.ensures.went c.in_ok-savings.ensures.done) c.in_ok-end_snapshot.ensures.done (c.in_ok-end_snapshot.ensures.ends begin _ third) refl refl
