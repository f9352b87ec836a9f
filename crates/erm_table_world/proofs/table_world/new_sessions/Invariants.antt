use Rattle.std.proofs.Common.{◌≡◌, ◌≤◌, length}
use Rattle.std.specs.Prelude.{vec_capacity}
use Rattle.erm_table_world.specs.Stands.{AreNew}
use Rattle.erm_table_world.proofs.table_world.new_sessions.Given as goal

abbrev pub invariant-loop-q : goal.invariant-loop-q
invariant-loop-q l = (length l.sessions.items ≡ l.q) × (l.count ≤ vec_capacity l.sessions) × AreNew l.run l.sessions.items
