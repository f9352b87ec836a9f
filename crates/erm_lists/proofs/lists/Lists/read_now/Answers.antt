use Rattle.std.proofs.Common.{IfErr, subst, sym}
use Rattle.std.proofs.lemmas.Result.{err_from_is_err_and}
use Rattle.erm_model.specs.declared.row_stop.RowStop.{RowStop}
use Rattle.erm_world.specs.Calls.{DidNotRead}
use Rattle.erm_lists.specs.Stands.{lists_view}
use Rattle.erm_core_steps.proofs.Readings.{read_excluded, read_goes_on}
use Rattle.erm_lists.proofs.lists.Lists.read_now.Goals as goal

pub returns-clause-ok : goal.returns-clause-ok
returns-clause-ok g c =
    read_goes_on (lists_view c.args.self.now) (lists_view c.read_version.new.self) (lists_view c.test_early.new.self) c.args.seat c.args.oid c.in_ok-row.row c.requires.new
    c.requires.few c.in_ok-row.ensures.ok c.in_ok-test_early.ensures.ok

pub returns-in_err-test_early-clause-err : goal.returns-in_err-test_early-clause-err
returns-in_err-test_early-clause-err g c =
    let v = lists_view c.args.self.now in
    let t = lists_view c.test_early.new.self in
    let shown =
    read_excluded v (lists_view c.read_version.new.self) t c.args.seat c.args.oid c.in_ok-row.row c.in_err-test_early.field-0.0 c.requires.new c.requires.few
    c.in_ok-row.ensures.ok c.in_err-test_early.ensures.err
    in
    let failed = err_from_is_err_and c.from_residual-in_err-test_early.result c.from_residual-in_err-test_early.ensures.1 in
    subst (λ r. IfErr r (λ stop. DidNotRead v c.args.seat c.args.oid stop t)) (sym failed.1)
    (subst (λ (stop : RowStop). DidNotRead v c.args.seat c.args.oid stop t) (sym failed.2) shown)
