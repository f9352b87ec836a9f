use Rattle.std.proofs.Common.{◌≡◌, [], map, replicate}
use Rattle.erm_plain.proofs.savepoints.Savepoints.new.Given as goal

abbrev pub invariant-loop : goal.invariant-loop
invariant-loop l = map (λ by. map (λ saved. saved.items) by.items) l.held.items ≡ replicate l.counter []
