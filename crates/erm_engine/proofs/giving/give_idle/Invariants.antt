use Rattle.std.proofs.Common.{◌≤◌, ◌+◌}
use Rattle.std.specs.Prelude.{vec_capacity}
use Rattle.erm_model.specs.declared.limits.TheConstants.{SESSIONS}
use Rattle.erm_engine.specs.Opened.{AreIdle, HasGiven}
use Rattle.erm_engine.proofs.giving.give_idle.Given as goal

abbrev pub invariant-loop-q : goal.invariant-loop-q
invariant-loop-q g l = HasGiven g.L.RowLaw.law l.t.words.shared.table_id l.opening l.q l.p
    × AreIdle l.t.words.shared.table_id l.opening.run l.opening.tail l.count l.q l.passes.items
    × (SESSIONS ≤ l.count + vec_capacity l.passes)
