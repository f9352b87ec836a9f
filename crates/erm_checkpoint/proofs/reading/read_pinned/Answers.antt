use Rattle.std.proofs.Common.{◌<◌, ◌∙◌, subst, sym, ℕ}
use Rattle.std.proofs.lemmas.List.{length-set}
use Rattle.erm_model.specs.declared.limits.TheConstants.{OID_LIMIT}
use Rattle.erm_checkpoint.proofs.RowsRead.{read_more}
use Rattle.erm_checkpoint.proofs.reading.read_pinned.Goals as goal

pub loop-oid-preserved : goal.loop-oid-preserved
loop-oid-preserved g c =
    let known = c.pins_are_known.ensures in
    let s = c.loop-oid.log in
    let t = c.row_at.new.self in
    let oid = c.loop-oid.oid in
    let row = c.in_ok-rows.field-0 in
    let stands = c.loop-oid.invariant.stands in
    let reads = c.in_ok-rows.ensures.reads in
    let test = c.loop-oid-test.true in
    let less : oid < OID_LIMIT = test in
    let pin = c.loop-oid.invariant.pinned in
    record {
      stands = c.in_ok-rows.ensures.stands;
      keeps = g.met.V.LogView.keeps_on c.args.log.now s t c.loop-oid.invariant.keeps c.in_ok-rows.ensures.keeps;
      pinned = (pin.0, (known.row s t oid row pin.0 stands pin.1 less reads).0, pin.2);
      same = λ m knows. (known.row s t oid row m stands (c.loop-oid.invariant.same m knows) less reads).0;
      count = length-set c.loop-oid.rows oid row ∙ c.loop-oid.invariant.count;
      read = λ m knows.
          let both = known.row s t oid row m stands (c.loop-oid.invariant.same m knows) less reads in
          read_more m c.loop-oid.rows oid row (subst (λ (n : ℕ). oid < n) (sym c.loop-oid.invariant.count) less) (c.loop-oid.invariant.read m knows) both.1;
    }
