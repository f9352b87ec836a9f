use Rattle.std.specs.Int.{bit_at}
use Rattle.std.proofs.Common.{◌≡◌, ℕ}
use Rattle.erm_rule.specs.Steps.{Fits}
use Rattle.erm_precommit.specs.Settle.{readers_task, HasRead}
use Rattle.erm_precommit.proofs.Loops.{Passes}
use Rattle.erm_precommit.proofs.writes.pass_readers.Given as goal
use Rattle.erm_rule.specs.Went.{IsLoadStep, Went}

-- the readers that are left
abbrev pub invariant-loop-bits : goal.invariant-loop-bits
invariant-loop-bits g l =
    Fits l.t.words.shared.table_id l.p × Passes l.fn.p.me.0.view l.who l.pre l.p.me.0.view (readers_task l.place l.bits) × ((q : ℕ) → bit_at l.bits q ≡ 1 → HasRead l.fn.p.me.0.view l.who l.place q)
    × Went g.L.RowLaw.law l.who IsLoadStep l.fn.p.me.0 l.p.me.0

abbrev pub decreases-loop-bits : goal.decreases-loop-bits
decreases-loop-bits g l = l.bits
