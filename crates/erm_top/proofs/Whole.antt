-- What each status means, whatever the words ask for.
use Rattle.std.proofs.Common.{◌≡◌, ◌≢◌, ℕ, ◌+◌, true, false, List, Option, Some, None, Err, refl, sym, subst, inl, inr, arith}
use Rattle.std.specs.Prelude.{String}
use Rattle.std.specs.declared.alloc.Global.{Global}
use Rattle.erm_made.specs.Law.{CountsAddUp}
use Rattle.erm_report.specs.Texts.{line_text}
use Rattle.erm_report.specs.declared.line.Line.TheVariants as line
use Rattle.erm_command_line.specs.CommandLine.{IsCommand, IsNoCommand}
use Rattle.erm_command_line.specs.declared.command.Command.{Command}
use Rattle.erm_command_line.specs.declared.command.Command.TheVariants.{Run, Threads, Recover, Audit, Checkpoint, Ship, Follow, Replica, Make}
use Rattle.erm_inspect.specs.Audits.{HasAuditForm, IsAudit}
use Rattle.erm_inspect.specs.Recoveries.{HasRecoveryForm, IsRecovery}
use Rattle.erm_top.specs.Around.{Around, LeavesDisk, LeavesSource}
use Rattle.erm_top.specs.Commands.{usage_text}
use Rattle.erm_top.specs.Outcomes.{CommandEnds, Ends}
use Rattle.erm_top.specs.Running.{Running, running_at_once, running_in_turn}
use Rattle.erm_top.specs.Runs.{ScriptEnds}
use Rattle.erm_top.specs.Told.{Prints, TookAtMost}
use Rattle.erm_top.specs.declared.printing.Stop.TheVariants as stop
use Rattle.erm_top.specs.declared.reading.TheConstants.{SCRIPT_BYTES}
use Rattle.erm_top.proofs.Asked.{is_sized}
use Rattle.erm_top.proofs.Disks.{checkpoint_ends, make_ends}
use Rattle.erm_top.proofs.Inspected.{inspection_ends}
use Rattle.erm_top.proofs.Ran.{unread_ends}
use Rattle.erm_top.proofs.Rooms.{OneRecovery}
use Rattle.erm_top.proofs.Streaming.{StarvedReplicaEnds, StarvingEnds, follow_starved, replica_starved, ship_starved}

-- no command has the status of words that ask for none
no_usage : (command : Command) (status : ℕ) (a : Around) → CommandEnds command status a → status ≢ 2
no_usage Run status a ends two = omega (arith, two, ends.known)
no_usage Threads status a ends two = omega (arith, two, ends.known)
no_usage Recover status a ends two = omega (arith, two, ends.known)
no_usage Audit status a ends two = omega (arith, two, ends.known)
no_usage Checkpoint status a ends two = omega (arith, two, ends.known)
no_usage Ship status a ends two = omega (arith, two, ends.ships.known)
no_usage Follow status a ends two = omega (arith, two, ends.follows.known)
no_usage Replica status a ends two = omega (arith, two, ends.replicates.known)
no_usage (Make transactions sessions true) status a ends two = omega (arith, two, ends.known)
no_usage (Make transactions sessions false) status a ends two = omega (arith, two, ends.known)

-- nothing was taken
took_none : (before : Option (List ℕ)) → TookAtMost (SCRIPT_BYTES + 1) before before
took_none None = tt
took_none (Some bytes) = (0, omega arith, omega arith, refl)

-- memory ran out before anything was read
starved_unread : OneRecovery → (r : Running) (a : Around) → LeavesSource a → LeavesDisk a → Prints (line_text line.NoMemory) a.written_before a.written_after a.sink_before a.sink_after → ScriptEnds r 8 a
starved_unread one r a source still put =
    unread_ends one r 8 a (subst (λ (o : Option (List ℕ)). TookAtMost (SCRIPT_BYTES + 1) a.left_before o) (sym source.left) (took_none a.left_before)) (Err stop.Memory) source.sound (refl, put) still.told still.sound

-- memory ran out before anything was done
pub starved : OneRecovery → CountsAddUp → StarvingEnds → StarvedReplicaEnds → (words : List (String Global)) (command : Command) (a : Around) → IsCommand words command → LeavesSource a → LeavesDisk a
    → Prints (line_text line.NoMemory) a.written_before a.written_after a.sink_before a.sink_after → CommandEnds command 8 a
starved one sum starves replicas words Run a asked source still put = starved_unread one running_in_turn a source still put
starved one sum starves replicas words Threads a asked source still put = starved_unread one running_at_once a source still put
starved one sum starves replicas words Recover a asked source still put = inspection_ends IsRecovery HasRecoveryForm 8 a (Err stop.Memory) still.sound (refl, put) source still.told
starved one sum starves replicas words Audit a asked source still put = inspection_ends IsAudit HasAuditForm 8 a (Err stop.Memory) still.sound (refl, put) source still.told
starved one sum starves replicas words Checkpoint a asked source still put = checkpoint_ends one 8 a source (Err stop.Memory) (inl still.told, still.sound) (refl, put)
starved one sum starves replicas words Ship a asked source still put = ship_starved a source still put
starved one sum starves replicas words Follow a asked source still put = follow_starved starves a source still put
starved one sum starves replicas words Replica a asked source still put = replica_starved replicas a source still put
starved one sum starves replicas words (Make transactions sessions false) a asked source still put =
    make_ends one sum transactions sessions (is_sized words (Make transactions sessions false) asked).2 8 a source (Err stop.Memory) (inl (inl still.told), inl still.sound) (refl, put)
starved one sum starves replicas words (Make transactions sessions true) a asked source still put = record {
  known = inr (inr refl);
  success = λ e. absurd (omega (arith, e));
  sink_fault = λ e. absurd (omega (arith, e));
  no_memory = λ e. put;
  source = source;
  disk = still;
  complete = λ calm. inr refl;
}

-- so ends what the words ask for, which is one command
pub ends : (words : List (String Global)) (command : Command) (status : ℕ) (a : Around) → IsCommand words command
    → ((other : Command) → IsCommand words other → other ≡ command) → CommandEnds command status a → Ends words status a
ends words command status a asked only is = record {
  ended = λ other also. subst (λ (c : Command). CommandEnds c status a) (sym (only other also)) is;
  misused = λ none. absurd (none command asked);
  usage = λ two. absurd (no_usage command status a is two);
}

-- the usage line was printed
pub ends_misused : (words : List (String Global)) (a : Around) → IsNoCommand words → LeavesSource a → LeavesDisk a
    → Prints usage_text a.written_before a.written_after a.sink_before a.sink_after → Ends words 2 a
ends_misused words a none source still put = record {
  ended = λ command asked. absurd (none command asked);
  misused = λ _. record { known = inl refl; usage = λ e. put; no_memory = λ e. absurd (omega (arith, e)); source = source; disk = still };
  usage = λ two. none;
}

-- or no memory was left for the words
pub ends_starved : OneRecovery → CountsAddUp → StarvingEnds → StarvedReplicaEnds → (words : List (String Global)) (a : Around) → LeavesSource a → LeavesDisk a
    → Prints (line_text line.NoMemory) a.written_before a.written_after a.sink_before a.sink_after → Ends words 8 a
ends_starved one sum starves replicas words a source still put = record {
  ended = λ command asked. starved one sum starves replicas words command a asked source still put;
  misused = λ none. record { known = inr refl; usage = λ e. absurd (omega (arith, e)); no_memory = λ e. put; source = source; disk = still };
  usage = λ two. absurd (omega (arith, two));
}
