use Rattle.std.proofs.Common.{List, sym, ◌∙◌, subst}
use Rattle.erm_script.specs.declared.script.ScriptLine.{ScriptLine}
use Rattle.erm_worker_cases.specs.Lines.{AreOf}
use Rattle.erm_worker_cases.proofs.tests.a_worker_goes_back.Goals as goal

pub work-requires-clause-lines : goal.work-requires-clause-lines
work-requires-clause-lines g c = subst (λ (ls : List ScriptLine). AreOf 1 ls) (c.deref.ensures.value ∙ sym c.deref-2.ensures.value) (c.are_of.ensures search)
