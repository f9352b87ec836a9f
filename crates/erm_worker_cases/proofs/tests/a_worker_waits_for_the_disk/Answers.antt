use Rattle.std.proofs.Common.{◌≡◌, ◌<◌, ◌≤◌, List, sym, ◌∙◌, subst, arith}
use Rattle.erm_script.specs.declared.script.ScriptLine.{ScriptLine}
use Rattle.erm_worker_cases.specs.Lines.{AreOf}
use Rattle.erm_worker_cases.proofs.tests.a_worker_waits_for_the_disk.Goals as goal

pub work-requires-clause-lines : goal.work-requires-clause-lines
work-requires-clause-lines g c = subst (λ (ls : List ScriptLine). AreOf 1 ls) (c.deref.ensures.value ∙ sym c.deref-2.ensures.value) (c.are_of.ensures search)

pub work-requires-2-clause-lines : goal.work-requires-2-clause-lines
work-requires-2-clause-lines g c = subst (λ (ls : List ScriptLine). AreOf 2 ls) (c.deref-3.ensures.value ∙ sym c.deref-4.ensures.value) (c.are_of-2.ensures search)

pub work-requires-2-clause-new : goal.work-requires-2-clause-new
work-requires-2-clause-new g c =
    c.in_ok-world-2.ensures.others 2 (λ (is : 2 ≡ 1). omega arith)
    ∙ c.in_ok-world.ensures.opened.idle 2 (omega arith, (let so = c.in_ok-world.ensures.sessions in omega arith))
