use Rattle.std.proofs.Common.{◌≡◌, length}
use Rattle.erm_machine.specs.declared.limits.TheConstants.{FLUSH_SEAT, RING_WORDS}
use Rattle.erm_rule.specs.Steps.{Fits}
use Rattle.erm_ring.proofs.Gathering.{GatherLoop}
use Rattle.erm_ring.specs.Took.{TookWords}
use Rattle.erm_ring.proofs.turns.gather.Given as goal
use Rattle.erm_rule.specs.Went.{IsLoadStep, Went}

abbrev pub invariant-loop-count : goal.invariant-loop-count
invariant-loop-count g l =
    Fits l.t.words.shared.table_id l.p × (length l.words ≡ RING_WORDS) × GatherLoop l.fn.p.me.0 l.tail l.from l.count l.end l.words l.p.me.0
    × Went g.L.RowLaw.law FLUSH_SEAT IsLoadStep l.fn.p.me.0 l.p.me.0 × TookWords g.L.RowLaw.law l.tail l.from l.count l.words l.fn.p.me.0 l.p.me.0
