-- How the program ends.
use Rattle.std.specs.Prelude.{◌≡◌, ℕ, ◌⊎◌, List}
use Rattle.std.specs.Prelude.{String}
use Rattle.std.specs.declared.alloc.Global.{Global}
use Rattle.erm_report.specs.declared.line.Line.TheVariants as line
use Rattle.erm_inspect.specs.Audits.{HasAuditForm, IsAudit}
use Rattle.erm_inspect.specs.Recoveries.{HasRecoveryForm, IsRecovery}
use Rattle.erm_command_line.specs.CommandLine.{IsCommand, IsNoCommand}
use Rattle.erm_command_line.specs.declared.command.Command.{Command}
use Rattle.erm_command_line.specs.declared.command.Command.TheVariants.{Audit, Checkpoint, Follow, Make, Recover, Replica, Run, Ship, Threads}
use Rattle.erm_top.specs.Around.{Around, LeavesDisk, LeavesSource, PrintsLine, PrintsText}
use Rattle.erm_top.specs.Commands.{usage_text}
use Rattle.erm_top.specs.Inspections.{CheckpointEnds, InspectionEnds}
use Rattle.erm_top.specs.Makes.{MakeCommandEnds}
use Rattle.erm_top.specs.Runs.{RunEnds, ThreadsEnds}
use Rattle.erm_top.specs.Streams.{FollowingEnds, ReplicatingEnds, ShippingEnds}

-- the usage line was printed, or memory ran out, in place of a report: source and disk were left alone
pub record Misused (status : ℕ) (a : Around) : Type 0 where
  pub known : (status ≡ 2) ⊎ (status ≡ 8)
  pub usage : status ≡ 2 → PrintsText usage_text a
  pub no_memory : status ≡ 8 → PrintsLine line.NoMemory a
  pub source : LeavesSource a
  pub disk : LeavesDisk a

-- what it means for a command to end so
abbrev pub CommandEnds : Command → ℕ → Around → Type 0
CommandEnds Run status a = RunEnds status a
CommandEnds Threads status a = ThreadsEnds status a
CommandEnds Recover status a = InspectionEnds IsRecovery HasRecoveryForm status a
CommandEnds Audit status a = InspectionEnds IsAudit HasAuditForm status a
CommandEnds Checkpoint status a = CheckpointEnds status a
CommandEnds Ship status a = ShippingEnds status a
CommandEnds Follow status a = FollowingEnds status a
CommandEnds Replica status a = ReplicatingEnds status a
CommandEnds (Make transactions sessions as_text) status a = MakeCommandEnds transactions sessions as_text status a

-- What each status means, by what the words ask for.
pub record Ends (words : List (String Global)) (status : ℕ) (a : Around) : Type 0 where
  -- The command that the words ask for ends so.
  pub ended : (command : Command) → IsCommand words command → CommandEnds command status a
  -- Where they ask for none the usage line is printed; and its status comes only there.
  pub misused : IsNoCommand words → Misused status a
  pub usage : status ≡ 2 → IsNoCommand words
