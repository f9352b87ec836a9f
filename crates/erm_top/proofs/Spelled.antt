-- What lines that are spelled may ask for, where each session has a thread of its own.
use Rattle.std.proofs.Common.{◌≡◌, ℕ, ◌+◌, ◌≤◌, true, List, length, inl, inr}
use Rattle.std.proofs.lemmas.Bool.{true≢false}
use Rattle.erm_model.specs.declared.limits.TheConstants.{LAST_NUMBER, SESSIONS}
use Rattle.erm_script.specs.Keywords.{names_session}
use Rattle.erm_script.specs.Script.{IsScript, IsSpelled, kept_lines, keyword_of}
use Rattle.erm_script.specs.declared.script.Command.{Command}
use Rattle.erm_script.specs.declared.script.Command.TheVariants as command
use Rattle.erm_script.specs.declared.script.ScriptLine.{ScriptLine}
use Rattle.erm_worker.specs.Work.{IsOfSession}
use Rattle.erm_disk_at_once.specs.Runs.{IsScriptAtOnce, MayBeRunAtOnce}
use Rattle.erm_disk_run.proofs.Spelled.{names_table, numbered_at, spelled_at}
use Rattle.erm_top.specs.Scripts.{threads_grammar}

-- a command whose lines name a session is one of a session
of_session : (c : Command) → names_session (keyword_of c) ≡ true → IsOfSession c
of_session command.Flush named = absurd (cc)
of_session command.Checkpoint named = absurd (cc)
of_session c named = tt

-- where each session has a thread of its own, each line names one
may_run_at_once : (names : List (List ℕ)) (line : List ℕ) (l : ScriptLine) → IsSpelled threads_grammar names line l → l.session ≤ length names → MayBeRunAtOnce (length names) l
may_run_at_once names line l spelled high = elim spelled as (λ _. MayBeRunAtOnce (length names) l) [
  | inl named ↦ record {
    session = (named.0, high);
    asked = record { of_session = of_session l.command named.1.named; table = names_table l.command named.1.command_ok.in_range };
    range = named.1.command_ok.in_range;
  }
  | inr alone ↦ absurd (true≢false alone.1.one_thread)
]

-- So such a script that is not too long can be run, all sessions at once.
pub can_run_at_once : (bytes : List ℕ) (names : List (List ℕ)) (script : List ScriptLine) → IsScript threads_grammar bytes names script → length script + SESSIONS ≤ LAST_NUMBER → IsScriptAtOnce names script
can_run_at_once bytes names script is short = record {
  few = is.few;
  short = short;
  each = λ l at. let found = spelled_at threads_grammar names (kept_lines bytes) script at.0 l is.spelled at.1 in may_run_at_once names found.0 l found.1 (numbered_at 0 script (length names) at.0 l is.numbered at.1);
}
