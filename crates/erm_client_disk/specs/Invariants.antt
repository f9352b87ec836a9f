-- What an invariant that each program's commits keep gives of the disk.
use Rattle.std.specs.Prelude.{List, Option}
use Rattle.erm_ckpt.specs.Recovered.{State}
use Rattle.erm_client.specs.Dealings.{AllCommitted}
use Rattle.erm_client.specs.declared.transcript.Transcript.{Transcript}
use Rattle.erm_client_disk.specs.Leaves.{ClientsAreDone, ClientsOutlive}
use Rattle.erm_crash_invariant.specs.Crashes.{RecoversWith}
use Rattle.erm_disk_invariant.specs.Runs.{CrashesKeep}
use Rattle.erm_invariant.specs.Invariant.{Keeps}
use Rattle.erm_model.specs.Database.{Database}
use Rattle.erm_model.specs.Member.{◌∈◌}
use Rattle.erm_node.specs.TreeMap.{map_of_rows}
use Rattle.erm_outside.specs.Disk.{Step, Tells, contents}
use Rattle.erm_report.specs.declared.answer.Answer.{Answer}

-- each transaction that transcripts tell to have committed keeps it, when it is run alone
abbrev pub AllKeepIt : (Database → Type 0) → List Transcript → Type 0
AllKeepIt Invariant all = (c : Transcript) → c ∈ all → AllCommitted (Keeps Invariant) c

-- THE LAW. Where the map found has an invariant, and each commit of each client keeps it, each image that a crash leaves, at any moment, recovers to a map
-- that has it, where it shows each block and each slot whole, or none.
abbrev pub CrashesKeepForClients : (Database → Type 0) → Type 0
CrashesKeepForClients Invariant = (before after : Option (List Step)) (state : State) (all : List Transcript) → ClientsOutlive before after state all → Invariant (map_of_rows state.rows)
    → AllKeepIt Invariant all → CrashesKeep Invariant before after

-- And so does the disk at the end.
abbrev pub EndsKeepForClients : (Database → Type 0) → Type 0
EndsKeepForClients Invariant = (before after : Option (List Step)) (state : State) (all : List Transcript) (closed : List (Option Answer)) → ClientsAreDone before after state all closed
    → Invariant (map_of_rows state.rows) → AllKeepIt Invariant all
    → Tells (λ old new. RecoversWith Invariant (contents new)) before after
