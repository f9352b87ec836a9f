use Rattle.std.proofs.Common.{◌≡◌, ℕ, ◌≤◌, List, ◌++◌, ◌∙◌, drop, length, length-append, ap, arith, refl, sym, subst}
use Rattle.std.proofs.lemmas.List.{drop-append-le}
use Rattle.erm_replica_rows.specs.Keeping.{Holds, Kept, Replicated, with_more}
use Rattle.erm_replica_rows.specs.declared.reader.Reader.{Reader}
use Rattle.erm_replica_rows.specs.declared.snapshot.Snapshot.{Snapshot}
use Rattle.erm_replica_rows.proofs.Keeping.{forgot_kept, held_fed, in_order, moved_fits, moved_kept, on_err}
use Rattle.erm_replica_rows.proofs.replica.Replica.add.Goals as goal

pub overflow_sub-self : goal.overflow_sub-self
overflow_sub-self c = c.forget_read-index.ensures.nearer

pub overflow_sub-self-2 : goal.overflow_sub-self-2
overflow_sub-self-2 c =
    let fits = c.self.invariant in
    let order = in_order fits.some.0 c.self.inside.end c.self.inside.snapshot c.self.inside.bytes.items fits.some.1 (omega (arith, fits.end_reads.within, c.self.inside.bytes.ok.0)) (omega (arith, fits.since_reads.within, c.self.inside.bytes.ok.0)) in
    omega (arith, order)

pub invariant_of-self : goal.invariant_of-self
invariant_of-self c =
    let fits = c.self.invariant in
    let e : Reader = c.self.inside.end in
    let s : Snapshot = c.self.inside.snapshot in
    let old = c.self.inside.bytes.items in
    let new = c.extend_from_slice.new.self.items in
    let at = c.forget_read-index.result in
    let within : e.index ≤ length old = omega (arith, fits.end_reads.within, c.self.inside.bytes.ok.0) in
    let order = in_order fits.some.0 e s old fits.some.1 within (omega (arith, fits.since_reads.within, c.self.inside.bytes.ok.0)) in
    let same : drop at new ≡ drop s.reader.index old = ap (drop at) c.in_err-extend_from_slice.ensures.items ∙ c.forget_read-index.ensures.rest in
    let inside : at ≤ length new = omega (arith, c.forget_read-index.ensures.within, c.forget_read-index.new.bytes.ok.0, ap length c.in_err-extend_from_slice.ensures.items) in
    moved_fits e _ s _ old new at _ _ _ _ fits.some.0 fits c.self.inside.bytes.ok.0 c.extend_from_slice.new.self.ok.0 (omega (arith, ap length same)) inside c.forget_read-index.ensures.nearer order refl refl
    (subst (λ (k : Kept). Holds fits.some.0 k) (sym (forgot_kept e _ s _ old new at same c.forget_read-index.ensures.nearer order within refl refl)) fits.some.1)

pub returns-in_err-extend_from_slice-clause-err : goal.returns-in_err-extend_from_slice-clause-err
returns-in_err-extend_from_slice-clause-err c =
    let fits = c.self.invariant in
    let e : Reader = c.self.inside.end in
    let s : Snapshot = c.self.inside.snapshot in
    let old = c.self.inside.bytes.items in
    let new = c.extend_from_slice.new.self.items in
    let at = c.forget_read-index.result in
    let within : e.index ≤ length old = omega (arith, fits.end_reads.within, c.self.inside.bytes.ok.0) in
    let order = in_order fits.some.0 e s old fits.some.1 within (omega (arith, fits.since_reads.within, c.self.inside.bytes.ok.0)) in
    let same : drop at new ≡ drop s.reader.index old = ap (drop at) c.in_err-extend_from_slice.ensures.items ∙ c.forget_read-index.ensures.rest in
    on_err c.from_residual.result _
    (ap (λ (k : Kept). let r : Replicated = record { kept = k; is_bad = c.self.inside.is_bad } in r) (forgot_kept e _ s _ old new at same c.forget_read-index.ensures.nearer order within refl refl) ∙ c.self.view_is)

pub invariant_of-self-2 : goal.invariant_of-self-2
invariant_of-self-2 c =
    let fits = c.self.invariant in
    let e : Reader = c.self.inside.end in
    let s : Snapshot = c.self.inside.snapshot in
    let old = c.self.inside.bytes.items in
    let new = c.extend_from_slice.new.self.items in
    let piece : List ℕ = c.args.piece.now in
    let at = c.forget_read-index.result in
    let within : e.index ≤ length old = omega (arith, fits.end_reads.within, c.self.inside.bytes.ok.0) in
    let order = in_order fits.some.0 e s old fits.some.1 within (omega (arith, fits.since_reads.within, c.self.inside.bytes.ok.0)) in
    let inside : at ≤ length c.forget_read-index.new.bytes.items = omega (arith, c.forget_read-index.ensures.within, c.forget_read-index.new.bytes.ok.0) in
    let same : drop at new ≡ drop s.reader.index old ++ piece =
    ap (drop at) c.in_ok-extend_from_slice.ensures.items ∙ drop-append-le at c.forget_read-index.new.bytes.items piece inside ∙ ap (λ (xs : List ℕ). xs ++ piece) c.forget_read-index.ensures.rest in
    moved_fits e _ s _ old new at _ _ _ _ (fits.some.0 ++ piece) fits c.self.inside.bytes.ok.0 c.extend_from_slice.new.self.ok.0 (omega (arith, ap length same, length-append (drop s.reader.index old) piece))
    (omega (arith, inside, ap length c.in_ok-extend_from_slice.ensures.items, length-append c.forget_read-index.new.bytes.items piece)) c.forget_read-index.ensures.nearer order refl refl
    (subst (λ (k : Kept). Holds (fits.some.0 ++ piece) k) (sym (moved_kept e _ s _ old new piece at same c.forget_read-index.ensures.nearer order within refl refl))
    (held_fed c.fronts_stay.ensures.part (λ log bytes part stands. (c.parts_are_announced.ensures log bytes part stands).1) fits.some.0 piece _ fits.some.1))

pub returns-clause-ok : goal.returns-clause-ok
returns-clause-ok c =
    let fits = c.self.invariant in
    let e : Reader = c.self.inside.end in
    let s : Snapshot = c.self.inside.snapshot in
    let old = c.self.inside.bytes.items in
    let new = c.extend_from_slice.new.self.items in
    let piece : List ℕ = c.args.piece.now in
    let at = c.forget_read-index.result in
    let within : e.index ≤ length old = omega (arith, fits.end_reads.within, c.self.inside.bytes.ok.0) in
    let order = in_order fits.some.0 e s old fits.some.1 within (omega (arith, fits.since_reads.within, c.self.inside.bytes.ok.0)) in
    let inside : at ≤ length c.forget_read-index.new.bytes.items = omega (arith, c.forget_read-index.ensures.within, c.forget_read-index.new.bytes.ok.0) in
    let same : drop at new ≡ drop s.reader.index old ++ piece =
    ap (drop at) c.in_ok-extend_from_slice.ensures.items ∙ drop-append-le at c.forget_read-index.new.bytes.items piece inside ∙ ap (λ (xs : List ℕ). xs ++ piece) c.forget_read-index.ensures.rest in (
      moved_kept e _ s _ old new piece at same c.forget_read-index.ensures.nearer order within refl refl ∙ ap (λ (r : Replicated). with_more r.kept piece) c.self.view_is,
      ap (λ (r : Replicated). r.is_bad) c.self.view_is,
    )
