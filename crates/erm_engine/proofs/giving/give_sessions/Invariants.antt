use Rattle.std.proofs.Common.{◌≤◌}
use Rattle.std.specs.Prelude.{vec_capacity}
use Rattle.erm_engine.specs.Opened.{AreNew, HasGiven}
use Rattle.erm_engine.proofs.giving.give_sessions.Given as goal

abbrev pub invariant-loop-q : goal.invariant-loop-q
invariant-loop-q g l = HasGiven g.L.RowLaw.law l.t.words.shared.table_id l.opening l.q l.p × AreNew g.L.RowLaw.law l.t l.opening l.q l.sessions.items
    × (l.count ≤ vec_capacity l.sessions)
