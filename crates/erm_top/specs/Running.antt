-- How the scripts of the commands `run` and `threads` are run on a disk: in what the two differ.
use Rattle.std.specs.Prelude.{ℕ, List, Option}
use Rattle.erm_ckpt.specs.Recovered.{State}
use Rattle.erm_outside.specs.Disk.{Step}
use Rattle.erm_report.specs.declared.line.Line.{Line}
use Rattle.erm_script.specs.declared.grammar.Grammar.{Grammar}
use Rattle.erm_script.specs.declared.script.ScriptLine.{ScriptLine}
use Rattle.erm_disk_at_once.specs.Runs.{WasCutAtOnce, WasRunAtOnce, WasStarvedAtOnce}
use Rattle.erm_disk_run.specs.Limits.{Limits, in_table}
use Rattle.erm_disk_run.specs.Runs.{WasCutOn, WasRunOn, WasStarvedOn}
use Rattle.erm_top.specs.Scripts.{run_grammar, threads_grammar}

-- which scripts there are, and how one of some sessions' names was run on a disk before and after, from a state that was found
pub record Running : Type 1 where
  pub grammar : Grammar
  -- to its end: these lines are its report
  pub ran : (before after : Option (List Step)) → State → (names : List (List ℕ)) → List ScriptLine → List Line → Type 0
  -- until the disk failed: these lines are the report up to then
  pub cut : (before after : Option (List Step)) → State → (names : List (List ℕ)) → List ScriptLine → List Line → Type 0
  -- memory ran out meanwhile, or for the report
  pub starved : (before after : Option (List Step)) → State → (names : List (List ℕ)) → List ScriptLine → Type 0

-- one line after another, over a world with these limits
abbrev pub running_over : Limits → Running
running_over limits = record { grammar = run_grammar; ran = WasRunOn limits; cut = WasCutOn limits; starved = WasStarvedOn limits }

-- the same over the word table: so the command `run` does
abbrev pub running_in_turn : Running
running_in_turn = running_over in_table

-- the sessions at once, each on a thread of its own, over the word table: so the command `threads` does
abbrev pub running_at_once : Running
running_at_once = record {
  grammar = threads_grammar;
  ran = WasRunAtOnce;
  cut = WasCutAtOnce;
  starved = WasStarvedAtOnce;
}
