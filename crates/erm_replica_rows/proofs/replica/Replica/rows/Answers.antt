use Rattle.std.proofs.Common.{List, ℕ, arith, subst, sym}
use Rattle.erm_model.specs.Rows.{rows_of}
use Rattle.erm_node.specs.Sound.{IsSound}
use Rattle.erm_replica_rows.proofs.Keeping.{safe_sound}
use Rattle.erm_replica_rows.proofs.replica.Replica.rows.Goals as goal

pub returns-in-Some-clause-whole : goal.returns-in-Some-clause-whole
returns-in-Some-clause-whole c =
    let some = c.self.invariant.some in
    record {
      count = omega (arith, c.deref.ensures.len, c.self.invariant.since_reads.rows_are (omega arith));
      sound = subst (λ (rows : List (List ℕ)). IsSound (rows_of rows)) (sym c.deref.ensures.value) (safe_sound c.respects_rows.ensures.meets some.0 _ c.in-Some.field-0 some.1 c.in-Some.is);
    }
