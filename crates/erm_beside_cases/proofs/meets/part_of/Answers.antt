use Rattle.std.proofs.Common.{List, subst}
use Rattle.erm_script.specs.declared.script.ScriptLine.{ScriptLine}
use Rattle.erm_worker_cases.specs.Lines.{AreOf}
use Rattle.erm_beside_cases.proofs.meets.part_of.Goals as goal

pub returns-clause-lines : goal.returns-clause-lines
returns-clause-lines c = subst (λ (ls : List ScriptLine). AreOf c.args.seat ls) c.deref.ensures.value (c.are_of.ensures search)
