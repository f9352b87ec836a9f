use Rattle.std.proofs.Common.{sym, ◌∙◌, arith}
use Rattle.std.proofs.Math.ListN.{length-set}
use Rattle.std.proofs.lemmas.Bool.{false≢true}
use Rattle.erm_recover.proofs.SetRows.{after_first, first_is, others_are, put_back, replaced, set_of_all, test_of_all}
use Rattle.erm_recover.proofs.rows.+set_rows.Goals as goal
use Rattle.erm_recover.proofs.rows.+set_rows.Goals.{then-meets-2, else-meets-2}

pub set_rows-is_set-requires : goal.set_rows-is_set-requires
set_rows-is_set-requires g t c = λ κs lives.
    let entry = first_is _ c.in-Some.others.now c.in-Some.first.now c.in-Some.ensures.cases.0 c.requires.entries in (
      omega (arith, c.in-Some.ensures.cases.1),
      (
        lives,
        (
          length-set c.args.rows.now c.in-Some.first.now.0 c.in-Some.first.now.1 ∙ c.requires.count,
          (
            others_are _ c.in-Some.others.now c.in-Some.first.now c.in-Some.ensures.cases.0 c.requires.entries,
            elim c.if-meets-2.branch [
              | then-meets-2 w ↦ λ so. replaced g.T.RowLaw.law.meets w.may_replace-still_meets.result c.args.rows.now _ c.in-Some.first.now.1 (omega (arith, entry.oid, c.requires.count)) w.may_replace-still_meets.ensures (c.requires.known w.if-meets-2.true) (sym w.still_meets-is ∙ so)
              | else-meets-2 w ↦ λ so. absurd (false≢true (sym w.if-meets-2.false ∙ sym w.still_meets-is ∙ so))
            ],
          ),
        ),
      ),
    )

pub slice_copy_out-before : goal.slice_copy_out-before
slice_copy_out-before g t c =
    let entry = first_is _ c.in-Some.others.now c.in-Some.first.now c.in-Some.ensures.cases.0 c.requires.entries in
    omega (arith, entry.oid, c.requires.count)

pub bounds-rows-place : goal.bounds-rows-place
bounds-rows-place g t c =
    let entry = first_is _ c.in-Some.others.now c.in-Some.first.now c.in-Some.ensures.cases.0 c.requires.entries in
    omega (arith, entry.oid, c.requires.count)

pub bounds-rows-place-then-not-is_set : goal.bounds-rows-place-then-not-is_set
bounds-rows-place-then-not-is_set g t c =
    let entry = first_is _ c.in-Some.others.now c.in-Some.first.now c.in-Some.ensures.cases.0 c.requires.entries in
    omega (arith, entry.oid, c.requires.count, length-set c.args.rows.now c.in-Some.first.now.0 c.in-Some.first.now.1, c.set_rows-is_set.auto.rows)

pub returns-then-not-is_set-clause-test : goal.returns-then-not-is_set-clause-test
returns-then-not-is_set-clause-test g t c =
    let entry = first_is _ c.in-Some.others.now c.in-Some.first.now c.in-Some.ensures.cases.0 c.requires.entries in
    let same = after_first c.args.rows.now c.args.entries.now c.in-Some.others.now c.in-Some.first.now c.in-Some.ensures.cases.0 (omega (arith, entry.oid, c.requires.count)) in
    test_of_all g.T.RowLaw.law.meets _ _ _ same c.set_rows-is_set.ensures.test

pub returns-then-not-is_set-clause-kept : goal.returns-then-not-is_set-clause-kept
returns-then-not-is_set-clause-kept g t c =
    put_back c.set_rows-is_set.result c.set_rows-is_set.new.rows c.args.rows.now c.in-Some.first.now.0 c.in-Some.first.now.1 c.set_rows-is_set.ensures.kept

pub returns-else-not-is_set-clause-test : goal.returns-else-not-is_set-clause-test
returns-else-not-is_set-clause-test g t c =
    let entry = first_is _ c.in-Some.others.now c.in-Some.first.now c.in-Some.ensures.cases.0 c.requires.entries in
    let same = after_first c.args.rows.now c.args.entries.now c.in-Some.others.now c.in-Some.first.now c.in-Some.ensures.cases.0 (omega (arith, entry.oid, c.requires.count)) in
    test_of_all g.T.RowLaw.law.meets _ _ _ same c.set_rows-is_set.ensures.test

pub returns-else-not-is_set-clause-set : goal.returns-else-not-is_set-clause-set
returns-else-not-is_set-clause-set g t c =
    let entry = first_is _ c.in-Some.others.now c.in-Some.first.now c.in-Some.ensures.cases.0 c.requires.entries in
    let same = after_first c.args.rows.now c.args.entries.now c.in-Some.others.now c.in-Some.first.now c.in-Some.ensures.cases.0 (omega (arith, entry.oid, c.requires.count)) in
    set_of_all c.set_rows-is_set.result _ _ _ same c.set_rows-is_set.ensures.set
