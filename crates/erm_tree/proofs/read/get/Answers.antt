use Rattle.std.proofs.Common.{◌≡◌, ℕ, List, Option, Some, sym, subst}
use Rattle.std.proofs.lemmas.Result.{err_from_is_err_and}
use Rattle.erm_model.specs.Database.{value_at}
use Rattle.erm_model.specs.Rows.{Rows}
use Rattle.erm_model.specs.RowTransaction.{StopsRead}
use Rattle.erm_node.specs.TreeMap.{map_of_rows}
use Rattle.erm_tree.specs.Calls.{SawIn}
use Rattle.erm_tree.specs.Reads.{IsOnWay, IsSought}
use Rattle.erm_tree.specs.Walk.{IsRecordFor}
use Rattle.erm_tree.proofs.Calls.{IsStopped-read, IsStopped-wider}
use Rattle.erm_tree.proofs.Lookups.{SawIn-sought, SawIn-no_value, SawIn-value}
use Rattle.erm_tree.proofs.Meetings.{IsMetIn-node}
use Rattle.erm_tree.proofs.read.get.Goals as goal

pub returns-in_err-oid-clause-err : goal.returns-in_err-oid-clause-err
returns-in_err-oid-clause-err g c =
    let p = err_from_is_err_and c.from_residual.result c.from_residual.ensures.1 in
    rw (p.1, p.2) (IsStopped-wider g.T.RowRead.face g.met.T.RowRead.goes_on (IsOnWay c.args.table c.args.key) (IsSought c.args.table c.args.key) StopsRead c.args.txn.now c.record_for.new.txn c.in_err-oid.field-0.0
    (λ array x on. IsMetIn-node array c.args.table c.args.key c.args.key x on) c.in_err-oid.ensures.err)

pub returns-in_err-row-in-Some-clause-err : goal.returns-in_err-row-in-Some-clause-err
returns-in_err-row-in-Some-clause-err g c =
    let t = g.met.T.RowRead in
    let face = g.T.RowRead.face in
    let p = err_from_is_err_and c.from_residual-in_err-row-in-Some.result c.from_residual-in_err-row-in-Some.ensures.1 in
    let found : Rows → Type 0 = λ (rows : Rows). IsRecordFor rows c.args.table c.args.key (Some c.in-Some.oid) in
    let seen = subst (λ (r : Option ℕ). SawIn face (IsOnWay c.args.table c.args.key) c.args.txn.now c.record_for.new.txn (λ (rows : Rows). IsRecordFor rows c.args.table c.args.key r)) c.in-Some.is c.in_ok-oid.ensures.ok in
    rw (p.1, p.2) (IsStopped-read face t.goes_on (IsSought c.args.table c.args.key) StopsRead c.args.txn.now c.record_for.new.txn c.read.new.self c.in-Some.oid c.in_err-row-in-Some.field-0.0
    found (λ array meets is. is.there.2) (SawIn-sought face t.goes_on c.requires.law c.args.table c.args.key c.args.txn.now c.record_for.new.txn found seen) c.in_err-row-in-Some.ensures.err)

pub returns-in_ok-row-in-Some-clause-ok : goal.returns-in_ok-row-in-Some-clause-ok
returns-in_ok-row-in-Some-clause-ok g c =
    let t = g.met.T.RowRead in
    let face = g.T.RowRead.face in
    let seen = subst (λ (r : Option ℕ). SawIn face (IsOnWay c.args.table c.args.key) c.args.txn.now c.record_for.new.txn (λ (rows : Rows). IsRecordFor rows c.args.table c.args.key r)) c.in-Some.is c.in_ok-oid.ensures.ok in
    let value = SawIn-value face t.goes_on c.requires.law c.args.table c.args.key c.map_has_values_of_records.ensures.value c.args.txn.now c.record_for.new.txn c.read.new.self c.in-Some.oid c.in_ok-row-in-Some.row c.requires.table seen c.in_ok-row-in-Some.ensures.ok in
    subst (λ (v : Option (List ℕ)). SawIn face (IsSought c.args.table c.args.key) c.args.txn.now c.read.new.self (λ (rows : Rows). v ≡ value_at (map_of_rows rows) c.args.table c.args.key)) (sym c.value_of.ensures.value) value

pub returns-in-None-clause-ok : goal.returns-in-None-clause-ok
returns-in-None-clause-ok g c =
    let t = g.met.T.RowRead in
    let face = g.T.RowRead.face in
    let seen = subst (λ (r : Option ℕ). SawIn face (IsOnWay c.args.table c.args.key) c.args.txn.now c.record_for.new.txn (λ (rows : Rows). IsRecordFor rows c.args.table c.args.key r)) c.in-None.is c.in_ok-oid.ensures.ok in
    SawIn-no_value face t.goes_on c.requires.law c.args.table c.args.key c.map_has_values_of_records.ensures.value c.args.txn.now c.record_for.new.txn c.requires.table seen
