use Rattle.std.proofs.Common.{◌≡◌, ℕ, List, [], ◌∷◌, Option, None, refl, sym, ap, subst, inl, inr}
use Rattle.std.specs.Prelude.{MatchOption, option_and_then}
use Rattle.std.specs.FinMap.{remove}
use Rattle.std.proofs.lemmas.List.{append-nil}
use Rattle.std.proofs.lemmas.Result.{IfOk-weaker, IfErr-weaker, err_from_is_err_and}
use Rattle.erm_model.specs.Database.{at}
use Rattle.erm_model.specs.Rows.{Rows}
use Rattle.erm_model.specs.RowTransaction.{Event, did_write, asked_claim, Does, StopsRead, StopsClaim}
use Rattle.erm_record.specs.Record.{absent_row, record_value}
use Rattle.erm_node.specs.TreeMap.{map_of_rows}
use Rattle.erm_tree.specs.Calls.{AsksReads, Reads, SawIn}
use Rattle.erm_tree.specs.Walk.{IsRecordFor}
use Rattle.erm_tree.specs.Change.{AreReadsThen, AsksDel, IsDel, StopsChange}
use Rattle.erm_tree.specs.Reads.{IsOnWay}
use Rattle.erm_tree.proofs.Calls.{IsRefused-among, IsStopped-after, IsStopped-among}
use Rattle.erm_tree.proofs.Changing.{DidBy-set_record, DidBy-nothing}
use Rattle.erm_tree.proofs.Refusals.{AsksDel-reads}
use Rattle.erm_tree.proofs.Settings.{IsSetAt, IsSetAt-nothing, map_of_rows-remove}
use Rattle.erm_tree.proofs.change.del.Goals as goal

pub returns-in_err-oid-clause-err : goal.returns-in_err-oid-clause-err
returns-in_err-oid-clause-err g c =
    let t = g.met.T.RowRead in
    let kind : List Event → Type 0 = Reads g.T.RowRead.face.law (IsOnWay c.args.table c.args.key) in
    let p = err_from_is_err_and c.from_residual.result c.from_residual.ensures.1 in
    rw (p.1, p.2) (IsStopped-among g.T.RowRead.face t.goes_on StopsRead StopsChange kind kind (AsksReads (IsOnWay c.args.table c.args.key)) (AsksDel c.args.table c.args.key) c.args.txn.now c.record_for.new.txn c.in_err-oid.field-0.0 (λ stop named. inl named) (λ es is. is)
    (λ es array asked is asks. AsksDel-reads c.args.table c.args.key es array asked asks) c.in_err-oid.ensures.err)

pub returns-in-Some-clause-ok : goal.returns-in-Some-clause-ok
returns-in-Some-clause-ok g c =
    let face = g.T.RowRead.face in
    let way : Rows → ℕ → Type 0 = IsOnWay c.args.table c.args.key in
    let seen = subst (λ (r : Option ℕ). SawIn face way c.args.txn.now c.record_for.new.txn (λ (rows : Rows). IsRecordFor rows c.args.table c.args.key r)) c.in-Some.is c.in_ok-oid.ensures.ok in
    let same = c.absent.ensures in
    IfOk-weaker c.write.result _ _ (λ ok does.
    DidBy-set_record face g.met.T.RowRead.goes_on c.requires.law c.nodes_are_read_back.ensures.record c.args.table c.args.key c.requires.table c.args.txn.now c.record_for.new.txn c.write.new.self c.in-Some.oid absent_row
    (λ (rows : Rows) (events : List Event). AreReadsThen (IsOnWay c.args.table c.args.key rows) [] events)
    (λ (old now : Rows). map_of_rows now ≡ remove (map_of_rows old) (at c.args.table c.args.key)) (inl refl) seen
    (subst (λ (row : List ℕ). Does face c.record_for.new.txn (did_write c.in-Some.oid row) c.write.new.self) same does)
    (λ rows now sound now_sound set. map_of_rows-remove c.map_has_values_of_records.ensures.value c.map_has_values_of_records.ensures.none rows now sound now_sound c.args.table c.args.key c.requires.table
    (subst (λ (v : Option (List ℕ)). IsSetAt rows now c.args.table c.args.key v) c.record_values.ensures.absent set)))
    c.write.ensures.ok

pub returns-in-Some-clause-err : goal.returns-in-Some-clause-err
returns-in-Some-clause-err g c =
    let t = g.met.T.RowRead in
    let face = g.T.RowRead.face in
    let seen = subst (λ (r : Option ℕ). SawIn face (IsOnWay c.args.table c.args.key) c.args.txn.now c.record_for.new.txn (λ (rows : Rows). IsRecordFor rows c.args.table c.args.key r)) c.in-Some.is c.in_ok-oid.ensures.ok in
    IfErr-weaker c.write.result _ _ (λ stop refused.
    IsStopped-after face t.goes_on StopsChange (Reads face.law (IsOnWay c.args.table c.args.key)) (AsksDel c.args.table c.args.key) c.args.txn.now c.record_for.new.txn c.write.new.self (asked_claim c.in-Some.oid) stop
    seen.saw.events seen.saw.goes_on seen.saw.follows seen.reads (λ array meets agrees. sym (seen.saw.saw array meets agrees).is)
    (IsRefused-among face t.goes_on StopsClaim StopsChange c.record_for.new.txn c.write.new.self (asked_claim c.in-Some.oid) stop (λ x named. inr named) refused))
    c.write.ensures.err

pub returns-in-None-clause-ok : goal.returns-in-None-clause-ok
returns-in-None-clause-ok g c =
    let face = g.T.RowRead.face in
    let way : Rows → ℕ → Type 0 = IsOnWay c.args.table c.args.key in
    let seen = subst (λ (r : Option ℕ). SawIn face way c.args.txn.now c.record_for.new.txn (λ (rows : Rows). IsRecordFor rows c.args.table c.args.key r)) c.in-None.is c.in_ok-oid.ensures.ok in
    DidBy-nothing face g.met.T.RowRead.goes_on way (λ (rows : Rows) (events : List Event). IsDel rows c.args.table c.args.key absent_row events) c.args.txn.now c.record_for.new.txn
    (λ (rows : Rows). IsRecordFor rows c.args.table c.args.key None)
    (λ (old now : Rows). map_of_rows now ≡ remove (map_of_rows old) (at c.args.table c.args.key)) seen
    (λ array meets is.
    let sound = (c.requires.law.meets array).0 meets in
    map_of_rows-remove c.map_has_values_of_records.ensures.value c.map_has_values_of_records.ensures.none array array sound sound c.args.table c.args.key c.requires.table
    (IsSetAt-nothing array c.args.table c.args.key (ap (option_and_then (λ (oid : ℕ). record_value (array oid))) (sym is.is))))
    (λ array meets is es only of.
    subst (λ (found : Option ℕ). MatchOption found (AreReadsThen (IsOnWay c.args.table c.args.key array) [] es) (λ x. AreReadsThen (IsOnWay c.args.table c.args.key array) (did_write x absent_row ∷ []) es)) is.is
    (record { reads = es; only = only; of = of; split = sym (append-nil es) }))
