use Rattle.erm_rule.specs.Steps.{Fits}
use Rattle.erm_ends.proofs.Raises.{RaiseLoop}
use Rattle.erm_ends.proofs.raising.raise_reads.Given as goal
use Rattle.erm_rule.specs.Views.{part_of}
use Rattle.erm_machine.specs.Seat.{read_at}
use Rattle.erm_ends.specs.Took.{InTurn, WasRaised}

abbrev pub invariant-loop-k : goal.invariant-loop-k
invariant-loop-k g l = Fits l.t.words.shared.table_id l.p × RaiseLoop l.fn.p.me.0.view l.who l.k l.p.me.0.view × InTurn (λ k m n. WasRaised g.L.RowLaw.law l.who (read_at (part_of l.fn.p.me.0.view l.who).current k).version (part_of l.fn.p.me.0.view l.who).current.stamp m n) l.k l.fn.p.me.0 l.p.me.0
