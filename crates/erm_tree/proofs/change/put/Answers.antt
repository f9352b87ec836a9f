use Rattle.std.proofs.Common.{◌≡◌, ◌<◌, ℕ, List, ◌++◌, map, length, Option, Some, refl, sym, ap, ◌∙◌, subst, inl, inr, arith}
use Rattle.std.specs.List.{All}
use Rattle.std.specs.FinMap.{insert}
use Rattle.std.proofs.lemmas.List.{length-map}
use Rattle.std.proofs.lemmas.Result.{IfOk-weaker, IfErr-weaker, err_from_is_err_and}
use Rattle.erm_model.specs.declared.limits.TheConstants.{OID_LIMIT}
use Rattle.erm_model.specs.Database.{at}
use Rattle.erm_model.specs.Rows.{Rows}
use Rattle.erm_model.specs.RowTransaction.{Asked, Event, did_write, did_claim, Does, OnlyReads, StopsRead, StopsClaim, StopsMake}
use Rattle.erm_record.specs.Record.{value_row}
use Rattle.erm_node.specs.TreeMap.{map_of_rows}
use Rattle.erm_tree.specs.declared.plan.Step.{Step}
use Rattle.erm_tree.specs.Calls.{AreFirstMakes, AsksMake, AsksReads, ReadsAre, SawIn, Ran}
use Rattle.erm_tree.specs.Change.{AsksPut, IsPut, IsPutOfNew, StopsPut}
use Rattle.erm_tree.specs.Insert.{IsPathFor, Place, new_rows, objects_for}
use Rattle.erm_tree.specs.Reads.{IsOnWay}
use Rattle.erm_tree.specs.Step.{place_of, places_of}
use Rattle.erm_tree.proofs.Calls.{SawIn-possible, Runs-claimed}
use Rattle.erm_tree.proofs.Changing.{DidBy-set_record}
use Rattle.erm_tree.proofs.Paths.{Path-record}
use Rattle.erm_tree.proofs.Phases.{AreQuiet-first_makes}
use Rattle.erm_tree.proofs.Puts.{DidBy-put_new, rows_bounded, All-Each}
use Rattle.erm_tree.proofs.Refusals.{AreMakesThenClaims, AsksNextClaim, AsksPut-reads, AsksPut-makes, AsksPut-claims, IsPut-claims, IsPut-makes, IsPut-reads, IsStopped-made, Refused-reads, Refused-write, Refused-quiet}
use Rattle.erm_tree.proofs.Runs.{objects_for-most}
use Rattle.erm_tree.proofs.Settings.{IsSetAt, map_of_rows-insert}
use Rattle.erm_tree.proofs.change.put.Goals as goal

-- what was seen before the record is set, or a new key is put
abbrev path_seen : ℕ → ℕ → List Place → Option ℕ → Rows → Type 0
path_seen table key places found rows = IsPathFor rows table key places found

-- what a put of a value asks for, the reads among it
abbrev asks_put : ℕ → ℕ → List ℕ → List Event → Rows → Asked → Type 0
asks_put table key value events rows asked = AsksPut table key (value_row value) events rows asked

-- the events of such a put, and that reads on the way begin it
abbrev whole_put : ℕ → ℕ → List ℕ → Rows → List Event → Type 0
whole_put table key value rows events = IsPut rows table key (value_row value) events

reads_begin : (table key : ℕ) (value : List ℕ) (array : Rows) (es : List Event) → OnlyReads es → ReadsAre (IsOnWay table key array) es → (others : List Event) × whole_put table key value array (es ++ others)
reads_begin table key value array es only of = IsPut-reads table key (value_row value) array es only of

put_reads : (table key : ℕ) (value : List ℕ) (es : List Event) (array : Rows) (asked : Asked) → OnlyReads es → AsksReads (IsOnWay table key) es array asked → asks_put table key value es array asked
put_reads table key value es array asked only asks = AsksPut-reads table key (value_row value) es array asked only asks

pub returns-in_err-path-clause-err : goal.returns-in_err-path-clause-err
returns-in_err-path-clause-err g c =
    let t = g.met.T.RowRead in
    let p = err_from_is_err_and c.from_residual.result c.from_residual.ensures.1 in
    rw (p.1, p.2) (Refused-reads g.T.RowRead.face t.goes_on (IsOnWay c.args.table c.args.key) StopsRead StopsPut (λ stop named. inl (inl named)) (whole_put c.args.table c.args.key c.args.value.now) (reads_begin c.args.table c.args.key c.args.value.now) (asks_put c.args.table c.args.key c.args.value.now) (put_reads c.args.table c.args.key c.args.value.now) c.args.txn.now c.path_for.new.txn c.in_err-path.field-0.0 c.in_err-path.ensures.err)

pub returns-in-Some-clause-ok : goal.returns-in-Some-clause-ok
returns-in-Some-clause-ok g c =
    let face = g.T.RowRead.face in
    let row = value_row c.args.value.now in
    let places = places_of c.in_ok-path.path.steps.items in
    let seen = subst (λ (r : Option ℕ). SawIn face (IsOnWay c.args.table c.args.key) c.args.txn.now c.path_for.new.txn (path_seen c.args.table c.args.key places r)) c.in-Some.is c.in_ok-path.ensures.ok in
    let found = Path-record face g.met.T.RowRead.goes_on c.requires.law c.args.table c.args.key c.args.txn.now c.path_for.new.txn places (Some c.in-Some.oid) seen in
    IfOk-weaker c.write.result _ _ (λ ok does.
    DidBy-set_record face g.met.T.RowRead.goes_on c.requires.law c.nodes_are_read_back.ensures.record c.args.table c.args.key c.requires.table c.args.txn.now c.path_for.new.txn c.write.new.self c.in-Some.oid row
    (λ (rows : Rows) (events : List Event). IsPutOfNew rows c.args.table c.args.key row events)
    (λ (old now : Rows). map_of_rows now ≡ insert (map_of_rows old) (at c.args.table c.args.key) c.args.value.now) (inr (c.args.value.now, c.row_of-row.ensures.value, refl)) found
    (subst (λ (r : List ℕ). Does face c.path_for.new.txn (did_write c.in-Some.oid r) c.write.new.self) c.row_of-row.ensures.row does)
    (λ rows now sound now_sound set. map_of_rows-insert c.map_has_values_of_records.ensures.value c.map_has_values_of_records.ensures.none rows now sound now_sound c.args.table c.args.key c.requires.table c.args.value.now
    (subst (λ (v : Option (List ℕ)). IsSetAt rows now c.args.table c.args.key v) (c.record_values.ensures.given c.args.value.now c.row_of-row.ensures.value) set)))
    c.write.ensures.ok

pub returns-in-Some-clause-err : goal.returns-in-Some-clause-err
returns-in-Some-clause-err g c =
    let t = g.met.T.RowRead in
    let face = g.T.RowRead.face in
    let places = places_of c.in_ok-path.path.steps.items in
    let seen = subst (λ (r : Option ℕ). SawIn face (IsOnWay c.args.table c.args.key) c.args.txn.now c.path_for.new.txn (path_seen c.args.table c.args.key places r)) c.in-Some.is c.in_ok-path.ensures.ok in
    IfErr-weaker c.write.result _ _ (λ stop refused.
    Refused-write face t.goes_on (IsOnWay c.args.table c.args.key) StopsClaim StopsPut (λ x named. inl (inr named)) (whole_put c.args.table c.args.key c.args.value.now) (reads_begin c.args.table c.args.key c.args.value.now) (asks_put c.args.table c.args.key c.args.value.now) c.args.txn.now c.path_for.new.txn c.write.new.self c.in-Some.oid stop
    (path_seen c.args.table c.args.key places (Some c.in-Some.oid)) (λ es array meets is. inl (sym is.entry.is)) seen refused)
    c.write.ensures.err

pub make_all-requires-clause-room : goal.make_all-requires-clause-room
make_all-requires-clause-room g c =
    let steps = c.as_slice.result.now in
    omega (arith, c.objects_for.ensures, objects_for-most (places_of steps), length-map steps place_of, c.as_slice.ensures.fits)

pub returns-in_err-made-clause-err : goal.returns-in_err-made-clause-err
returns-in_err-made-clause-err g c =
    let t = g.met.T.RowRead in
    let face = g.T.RowRead.face in
    let p = err_from_is_err_and c.from_residual-in_err-made.result c.from_residual-in_err-made.ensures.1 in
    let count : c.objects_for.result ≡ objects_for (places_of c.in_ok-path.path.steps.items) = c.objects_for.ensures ∙ ap (λ (steps : List Step). objects_for (places_of steps)) c.as_slice.ensures.value in
    rw (p.1, p.2) (Refused-quiet face t.goes_on (IsOnWay c.args.table c.args.key) StopsMake StopsPut (λ stop named. inr named) (whole_put c.args.table c.args.key c.args.value.now) (reads_begin c.args.table c.args.key c.args.value.now) (asks_put c.args.table c.args.key c.args.value.now) (AreFirstMakes c.objects_for.result) (AsksMake c.objects_for.result) c.args.txn.now c.path_for.new.txn c.make_all.new.txn c.in_err-made.field-0.0
    (path_seen c.args.table c.args.key (places_of c.in_ok-path.path.steps.items) c.in_ok-path.path.found) (λ fs is. AreQuiet-first_makes c.objects_for.result fs is)
    (λ es fs array only of is so. IsPut-makes c.args.table c.args.key (value_row c.args.value.now) es fs array only of (sym so.entry.is ∙ c.in_default.is) c.objects_for.result (count ∙ ap objects_for so.nodes) is)
    (λ es fs array asked only of is so asks. AsksPut-makes c.args.table c.args.key (value_row c.args.value.now) es fs array only of (sym so.entry.is ∙ c.in_default.is) c.objects_for.result (count ∙ ap objects_for so.nodes) asked asks) c.in_ok-path.ensures.ok c.in_err-made.ensures.err)

pub claim_all-requires-clause-objects : goal.claim_all-requires-clause-objects
claim_all-requires-clause-objects g c =
    let face = g.T.RowRead.face in
    let t = g.met.T.RowRead in
    let key = c.args.key in
    let row = value_row c.args.value.now in
    let places = places_of c.in_ok-path.path.steps.items in
    let made = c.in_ok-made.made.items in
    let planned : c.plan-rows.result.items ≡ new_rows made key row places =
    c.plan-rows.ensures ∙ ap (λ (os : List ℕ). new_rows os key c.row_of-row.result (places_of c.as_slice-2.result.now)) c.as_slice-3.ensures.value
    ∙ ap (λ (r : List ℕ). new_rows made key r (places_of c.as_slice-2.result.now)) c.row_of-row.ensures.row ∙ ap (λ (steps : List Step). new_rows made key row (places_of steps)) c.as_slice-2.ensures.value in
    let many : length made ≡ objects_for places = c.in_ok-made.ensures.count ∙ c.objects_for.ensures ∙ ap (λ (steps : List Step). objects_for (places_of steps)) c.as_slice.ensures.value in
    let (array, meets, path) = SawIn-possible face t.goes_on (IsOnWay c.args.table key) c.args.txn.now c.path_for.new.txn (path_seen c.args.table key places c.in_ok-path.path.found) c.requires.ready.lawful c.in_ok-path.ensures.ok in
    let bounded = rows_bounded c.nodes_are_read_back.ensures.found array made c.args.table key row places ((c.requires.law.meets array).0 meets) c.requires.table c.ranges.key.fits path.nodes many c.in_ok-made.ensures.objects in
    subst (λ (ws : List (ℕ × List ℕ)). All (λ (e : ℕ × List ℕ). e.0 < OID_LIMIT) ws) (sym (c.as_slice-4.ensures.value ∙ planned)) bounded

pub returns-in_err-claim_all-clause-err : goal.returns-in_err-claim_all-clause-err
returns-in_err-claim_all-clause-err g c =
    let t = g.met.T.RowRead in
    let face = g.T.RowRead.face in
    let p = err_from_is_err_and c.from_residual-in_err-claim_all.result c.from_residual-in_err-claim_all.ensures.1 in
    let key = c.args.key in
    let row = value_row c.args.value.now in
    let places = places_of c.in_ok-path.path.steps.items in
    let made = c.in_ok-made.made.items in
    let ws = c.as_slice-4.result.now in
    let planned : ws ≡ new_rows made key row places =
    c.as_slice-4.ensures.value ∙ c.plan-rows.ensures ∙ ap (λ (os : List ℕ). new_rows os key c.row_of-row.result (places_of c.as_slice-2.result.now)) c.as_slice-3.ensures.value
    ∙ ap (λ (r : List ℕ). new_rows made key r (places_of c.as_slice-2.result.now)) c.row_of-row.ensures.row ∙ ap (λ (steps : List Step). new_rows made key row (places_of steps)) c.as_slice-2.ensures.value in
    let many : length made ≡ objects_for places = c.in_ok-made.ensures.count ∙ c.objects_for.ensures ∙ ap (λ (steps : List Step). objects_for (places_of steps)) c.as_slice.ensures.value in
    let stopped = IsStopped-made face t.goes_on StopsClaim c.path_for.new.txn c.make_all.new.txn c.claim_all.new.txn c.in_err-claim_all.field-0.0 made ws c.in_ok-made.ensures.ok c.in_err-claim_all.ensures.err in
    rw (p.1, p.2) (Refused-quiet face t.goes_on (IsOnWay c.args.table key) StopsClaim StopsPut (λ stop named. inl (inr named)) (whole_put c.args.table key c.args.value.now) (reads_begin c.args.table key c.args.value.now) (asks_put c.args.table key c.args.value.now) (AreMakesThenClaims made ws) (AsksNextClaim made ws)
    c.args.txn.now c.path_for.new.txn c.claim_all.new.txn c.in_err-claim_all.field-0.0 (path_seen c.args.table key places c.in_ok-path.path.found) (λ fs is. is.quiet)
    (λ es fs array only of is so. IsPut-claims c.args.table key row es fs array only of (sym so.entry.is ∙ c.in_default.is) made ws (many ∙ ap objects_for so.nodes) (planned ∙ ap (new_rows made key row) so.nodes) is)
    (λ es fs array asked only of is so asks. AsksPut-claims c.args.table key row es fs array only of (sym so.entry.is ∙ c.in_default.is) made ws (many ∙ ap objects_for so.nodes) (planned ∙ ap (new_rows made key row) so.nodes) asked asks) c.in_ok-path.ensures.ok stopped)

pub write_all-requires-clause-objects : goal.write_all-requires-clause-objects
write_all-requires-clause-objects g c =
    let face = g.T.RowRead.face in
    let t = g.met.T.RowRead in
    let key = c.args.key in
    let row = value_row c.args.value.now in
    let places = places_of c.in_ok-path.path.steps.items in
    let made = c.in_ok-made.made.items in
    let planned : c.plan-rows.result.items ≡ new_rows made key row places =
    c.plan-rows.ensures ∙ ap (λ (os : List ℕ). new_rows os key c.row_of-row.result (places_of c.as_slice-2.result.now)) c.as_slice-3.ensures.value
    ∙ ap (λ (r : List ℕ). new_rows made key r (places_of c.as_slice-2.result.now)) c.row_of-row.ensures.row ∙ ap (λ (steps : List Step). new_rows made key row (places_of steps)) c.as_slice-2.ensures.value in
    let many : length made ≡ objects_for places = c.in_ok-made.ensures.count ∙ c.objects_for.ensures ∙ ap (λ (steps : List Step). objects_for (places_of steps)) c.as_slice.ensures.value in
    let (array, meets, path) = SawIn-possible face t.goes_on (IsOnWay c.args.table key) c.args.txn.now c.path_for.new.txn (path_seen c.args.table key places c.in_ok-path.path.found) c.requires.ready.lawful c.in_ok-path.ensures.ok in
    let bounded = rows_bounded c.nodes_are_read_back.ensures.found array made c.args.table key row places ((c.requires.law.meets array).0 meets) c.requires.table c.ranges.key.fits path.nodes many c.in_ok-made.ensures.objects in
    subst (λ (ws : List (ℕ × List ℕ)). All (λ (e : ℕ × List ℕ). e.0 < OID_LIMIT) ws) (sym (c.as_slice-5.ensures.value ∙ planned)) bounded

pub write_all-requires-clause-claimed : goal.write_all-requires-clause-claimed
write_all-requires-clause-claimed g c =
    let face = g.T.RowRead.face in
    let each = Runs-claimed face g.met.T.RowRead.goes_on c.as_slice-4.result.now c.make_all.new.txn c.claim_all.new.txn c.in_ok-claim_all.ensures.ok.goes_on.runs in
    let claimed : ℕ × List ℕ → Type 0 = λ (e : ℕ × List ℕ). face.claims c.claim_all.new.txn e.0 in
    subst (λ (ws : List (ℕ × List ℕ)). All claimed ws) (c.as_slice-4.ensures.value ∙ sym c.as_slice-5.ensures.value) (All-Each claimed c.as_slice-4.result.now each)

pub returns-clause-ok : goal.returns-clause-ok
returns-clause-ok g c =
    let face = g.T.RowRead.face in
    let t = g.met.T.RowRead in
    let key = c.args.key in
    let row = value_row c.args.value.now in
    let places = places_of c.in_ok-path.path.steps.items in
    let made = c.in_ok-made.made.items in
    let planned : c.plan-rows.result.items ≡ new_rows made key row places =
    c.plan-rows.ensures ∙ ap (λ (os : List ℕ). new_rows os key c.row_of-row.result (places_of c.as_slice-2.result.now)) c.as_slice-3.ensures.value
    ∙ ap (λ (r : List ℕ). new_rows made key r (places_of c.as_slice-2.result.now)) c.row_of-row.ensures.row ∙ ap (λ (steps : List Step). new_rows made key row (places_of steps)) c.as_slice-2.ensures.value in
    let many : length made ≡ objects_for places = c.in_ok-made.ensures.count ∙ c.objects_for.ensures ∙ ap (λ (steps : List Step). objects_for (places_of steps)) c.as_slice.ensures.value in
    let absent = subst (λ (r : Option ℕ). SawIn face (IsOnWay c.args.table key) c.args.txn.now c.path_for.new.txn (path_seen c.args.table key places r)) c.in_default.is c.in_ok-path.ensures.ok in
    let claims = subst (λ (ws : List (ℕ × List ℕ)). Ran face c.make_all.new.txn (map (λ (e : ℕ × List ℕ). did_claim e.0) ws) c.claim_all.new.txn) c.as_slice-4.ensures.value c.in_ok-claim_all.ensures.ok in
    let writes = subst (λ (ws : List (ℕ × List ℕ)). Ran face c.claim_all.new.txn (map (λ (e : ℕ × List ℕ). did_write e.0 e.1) ws) c.write_all.new.txn) c.as_slice-5.ensures.value c.write_all.ensures in
    DidBy-put_new face t.goes_on c.requires.law c.nodes_are_read_back.ensures.found c.nodes_are_read_back.ensures.given c.args.table key c.requires.table c.ranges.key.fits
    c.args.txn.now c.path_for.new.txn c.make_all.new.txn c.claim_all.new.txn c.write_all.new.txn row places made c.plan-rows.result.items
    (λ (old now : Rows). map_of_rows now ≡ insert (map_of_rows old) (at c.args.table key) c.args.value.now) (inr (c.args.value.now, c.row_of-row.ensures.value, refl))
    absent c.in_ok-made.ensures.ok claims writes many planned c.in_ok-made.ensures.objects
    (λ rows now sound now_sound set. map_of_rows-insert c.map_has_values_of_records.ensures.value c.map_has_values_of_records.ensures.none rows now sound now_sound c.args.table key c.requires.table c.args.value.now
    (subst (λ (v : Option (List ℕ)). IsSetAt rows now c.args.table key v) (c.record_values.ensures.given c.args.value.now c.row_of-row.ensures.value) set))
