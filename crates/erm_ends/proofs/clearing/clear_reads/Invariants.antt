use Rattle.erm_ends.proofs.Clears.{ClearLoop}
use Rattle.erm_ends.proofs.clearing.clear_reads.Given as goal
use Rattle.std.proofs.Common.{ℕ}
use Rattle.erm_rule.specs.Views.{part_of}
use Rattle.erm_machine.specs.declared.event.Kind.TheVariants.{ClearReader}
use Rattle.erm_machine.specs.Seat.{read_at}
use Rattle.erm_rule.specs.Steps.{Booked, Fits}
use Rattle.erm_ends.specs.Took.{InTurn}

abbrev pub invariant-loop-k : goal.invariant-loop-k
invariant-loop-k g l = Fits l.t.words.shared.table_id l.p × ClearLoop l.fn.p.me.0.view l.who l.k l.p.me.0.view × InTurn (λ k m n. (found : ℕ) × Booked g.L.RowLaw.law m l.who (ClearReader (read_at (part_of l.fn.p.me.0.view l.who).current k).version) found n) l.k l.fn.p.me.0 l.p.me.0
