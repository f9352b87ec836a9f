use Rattle.std.proofs.Common.{length}
use Rattle.erm_machine.specs.declared.task.Task.TheVariants as task
use Rattle.erm_rule.specs.Steps.{Fits}
use Rattle.erm_precommit.proofs.Loops.{Passes}
use Rattle.erm_precommit.proofs.writes.pass_writes.Given as goal
use Rattle.erm_rule.specs.Went.{IsLoadStep, Went}

-- so many versions are passed
abbrev pub invariant-loop-place : goal.invariant-loop-place
invariant-loop-place g l = Fits l.t.words.shared.table_id l.p × Passes l.fn.p.me.0.view l.who l.pre l.p.me.0.view (task.Settles (length l.pre.reads.value.items) l.place) × Went g.L.RowLaw.law l.who IsLoadStep l.fn.p.me.0 l.p.me.0
