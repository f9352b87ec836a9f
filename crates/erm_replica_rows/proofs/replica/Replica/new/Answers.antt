use Rattle.std.proofs.Common.{None, refl}
use Rattle.erm_replica_rows.proofs.Keeping.{first_fits, first_keeps}
use Rattle.erm_replica_rows.proofs.replica.Replica.new.Goals as goal

pub invariant_of-result : goal.invariant_of-result
invariant_of-result c =
    first_fits c.in_ok-end.end (record { base = 0; safe = None; reader = c.in_ok-reader.reader }) c.new.result.items _ _ c.in_ok-words.ensures.len c.in_ok-end.ensures c.in_ok-reader.ensures refl c.new.ensures.items

pub returns-clause-keeps : goal.returns-clause-keeps
returns-clause-keeps c =
    first_keeps c.in_ok-end.end (record { base = 0; safe = None; reader = c.in_ok-reader.reader }) c.new.result.items _ c.in_ok-end.ensures c.in_ok-reader.ensures refl c.new.ensures.items refl
