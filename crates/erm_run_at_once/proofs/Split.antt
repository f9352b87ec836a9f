-- The lines of a script at once, by session, in the world of a table that was just opened.
use Rattle.std.proofs.Common.{◌≡◌, ℕ, ◌+◌, List, [], length, Some, refl, sym, ◌∙◌, arith}
use Rattle.std.specs.List.{slice_get}
use Rattle.std.proofs.lemmas.Option.{get_or_from_slice_get}
use Rattle.erm_node.specs.Sound.{sound_law}
use Rattle.erm_script.specs.declared.script.ScriptLine.{ScriptLine}
use Rattle.erm_world.specs.Laws.{IsSerializable}
use Rattle.erm_lines.specs.Executions.{IsOpened}
use Rattle.erm_rule.specs.declared.view.Opening.{Opening}
use Rattle.erm_rule.specs.Openings.{start_of}
use Rattle.erm_engine.specs.Opened.{opened_view}
use Rattle.erm_threads.specs.Parts.{AreParts, own_lines}
use Rattle.erm_threads.proofs.Jobs.{there_is}
use Rattle.erm_run_at_once.specs.Ran.{ScriptsAreSplit}

-- OPENED: nothing was done in that world
opened_just : (o : Opening) → IsSerializable sound_law (opened_view (start_of o)) → IsOpened (opened_view (start_of o))
opened_just o begins = record {
  idle = λ seat within. refl;
  tail = refl;
  flushed = refl;
  pinned = refl;
  given_up = λ seat. refl;
  serializable = begins;
}

-- each part has the lines of its session
part_is : (sessions : ℕ) (script : List ScriptLine) (parts : List (List ScriptLine)) (k : ℕ) (lines : List ScriptLine) → AreParts (λ p. p) sessions script parts
    → slice_get parts k ≡ Some lines → lines ≡ own_lines (k + 1) script
part_is sessions script parts k lines are at = sym (get_or_from_slice_get parts k lines [] at) ∙ are.own k [] (there_is parts k lines at)

pub are_split : ScriptsAreSplit
are_split o names script parts begins is are = record {
  opened = opened_just o begins;
  ranges = λ l m. (is.each l m).range;
  few = let short = is.short in omega (arith, short);
  seats = λ l m. let session = (is.each l m).session in let many = are.many in (session.0, omega (arith, session.1, many));
  sessions = let few = is.few in let many = are.many in omega (arith, few, many);
  own = λ k lines at. part_is (length names) script parts k lines are at;
}
