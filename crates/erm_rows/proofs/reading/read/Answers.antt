use Rattle.std.proofs.Common.{◌≡◌, ◌<◌, ◌≤◌, ℕ, length, arith, ap, ◌∙◌}
use Rattle.arrayvec.specs.ArrayVec.{ArrayVec}
use Rattle.erm_machine.specs.declared.limits.TheConstants.{READ_LIMIT}
use Rattle.erm_precommit.specs.declared.pre.KeptRead.{KeptRead}
use Rattle.erm_rows.proofs.Closed.{excludes, closed_in}
use Rattle.erm_rows.proofs.reading.read.Goals as goal
use Rattle.erm_rule.proofs.Wents.{went_none, loads_still}
use Rattle.erm_rows.proofs.Took.{read_still}
use Rattle.erm_entries.proofs.Took.{wait_loads}

-- fewer versions are read than may be
reads_left : (n many : ℕ) → n ≤ READ_LIMIT → (n ≡ READ_LIMIT → ⊥) → n ≡ many → many < READ_LIMIT
reads_left n many most other is = grind (arith, most, other, is)

pub returns-in-Some-clause-refused : goal.returns-in-Some-clause-refused
returns-in-Some-clause-refused g c =
    excludes c.args.p.now.me.0.view c.args.who c.args.oid c.requires.active c.in-Ok.row _ c.in-Ok.ensures.read _ c.in-Ok.ensures.kept c.in-Some.succ c.in-Some.pred c.in-Some.ensures

pub returns-in-Some-clause-took_none : goal.returns-in-Some-clause-took_none
returns-in-Some-clause-took_none g c =
    (c.in-Ok.ensures.took, closed_in c.args.p.now.me.0.view c.args.who c.args.oid c.requires.active c.in-Ok.row _ c.in-Ok.ensures.read _ c.in-Ok.ensures.kept c.in-Some.succ c.in-Some.pred c.in-Some.ensures)

pub returns-then-len-eq-READ_LIMIT-clause-still : goal.returns-then-len-eq-READ_LIMIT-clause-still
returns-then-len-eq-READ_LIMIT-clause-still g c = went_none _ _ _ _

pub returns-in-Err-clause-still : goal.returns-in-Err-clause-still
returns-in-Err-clause-still g c =
    let b = c.args.p.now.me.0 in
    let e = c.read_object.new.p.me.0 in
    loads_still g.L.RowLaw.law c.args.who b e (wait_loads g.L.RowLaw.law c.args.who c.args.oid _ c.in-Err.field-0 b e c.in-Err.ensures.took_wait)

pub returns-in-Some-clause-still : goal.returns-in-Some-clause-still
returns-in-Some-clause-still g c = read_still g.L.RowLaw.law c.args.who c.args.oid c.args.p.now.me.0 c.read_object.new.p.me.0 c.in-Ok.ensures.took

pub returns-in-None-clause-still : goal.returns-in-None-clause-still
returns-in-None-clause-still g c = read_still g.L.RowLaw.law c.args.who c.args.oid c.args.p.now.me.0 c.read_object.new.p.me.0 c.in-Ok.ensures.took

pub returns-in-Err-clause-took_none : goal.returns-in-Err-clause-took_none
returns-in-Err-clause-took_none g c =
    (reads_left c.len.result _ c.len.ensures.fits c.if-len-eq-READ_LIMIT.false (c.len.ensures.value ∙ ap (λ (l : ArrayVec KeptRead). length l.items) c.deref.ensures ∙ c.requires.kept.read_count), c.in-Err.ensures.took_wait)
