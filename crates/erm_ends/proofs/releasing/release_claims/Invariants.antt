use Rattle.erm_rule.specs.Steps.{Fits}
use Rattle.erm_ends.proofs.Releases.{ReleaseLoop}
use Rattle.erm_ends.proofs.releasing.release_claims.Given as goal
use Rattle.erm_rule.specs.Views.{part_of}
use Rattle.erm_machine.specs.Core.{claim_at}
use Rattle.erm_ends.specs.Took.{InTurn, WasFreed}

abbrev pub invariant-loop-k : goal.invariant-loop-k
invariant-loop-k g l = Fits l.t.words.shared.table_id l.p × ReleaseLoop l.fn.p.me.0.view l.who l.k l.spare l.p.me.0.view × InTurn (λ k m n. WasFreed g.L.RowLaw.law l.who (part_of l.fn.p.me.0.view l.who).current.number (claim_at (part_of l.fn.p.me.0.view l.who).current k).version m n) l.k l.fn.p.me.0 l.p.me.0
