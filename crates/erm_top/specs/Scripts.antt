-- The scripts of the commands `run` and `threads`.
use Rattle.std.specs.Prelude.{true, false}
use Rattle.erm_model.specs.declared.limits.TheConstants.{SESSIONS}
use Rattle.erm_script.specs.declared.grammar.Grammar.{Grammar}

-- up to 48 sessions, with the commands of an index, of a log and of checkpoints, and all on one thread
abbrev pub run_grammar : Grammar
run_grammar = record { sessions = SESSIONS; index = true; log = true; checkpoints = true; threads = false }

-- the same, but each session on a thread of its own, so that no line is of none
abbrev pub threads_grammar : Grammar
threads_grammar = record { sessions = SESSIONS; index = true; log = true; checkpoints = true; threads = true }
