-- What is made before the threads of a script's sessions start.
use Rattle.std.specs.Prelude.{◌≡◌, ℕ, ◌+◌, ◌-◌, ◌≤◌, ◌++◌, List, [], length, replicate, Option, vec_capacity}
use Rattle.erm_model.specs.declared.limits.TheConstants.{SESSIONS}
use Rattle.erm_ckpt.specs.Recovered.{State}
use Rattle.erm_disk_run.specs.Opened.{WasLogOpened}
use Rattle.erm_disk_run.specs.declared.log.OpenedLog.{OpenedLog}
use Rattle.erm_disk_at_once.specs.Runs.{IsScriptAtOnce}
use Rattle.erm_outside.specs.Disk.{Step}
use Rattle.erm_script.specs.declared.script.ScriptLine.{ScriptLine}
use Rattle.erm_threads.specs.Parts.{AreParts}
use Rattle.erm_run_at_once.specs.declared.room.Room.{Room}

-- behind so many names, a name without bytes for each other session of a table
abbrev pub spare_names : ℕ → List (List ℕ)
spare_names many = replicate (SESSIONS - many) []

-- The script is split into the lines of its sessions, a table's sessions have these names and spare ones, and there is room for the lines of a report
-- that is cut off.
pub record IsRoomFor (names : List (List ℕ)) (script : List ScriptLine) (room : Room) : Type 0 where
  pub parts : AreParts (λ p. p.items) (length names) script room.parts.items
  pub names_are : room.names.items ≡ names ++ spare_names (length names)
  pub none : room.lines.items ≡ []
  pub holds : length script + 2 ≤ vec_capacity room.lines

-- a disk's log was just opened, and all is made that a script of these sessions needs before they run
pub record MayRun (before mid : Option (List Step)) (state : State) (opened : OpenedLog) (names : List (List ℕ)) (script : List ScriptLine) (room : Room) : Type 0 where
  pub opens : WasLogOpened before mid state opened
  pub is_script : IsScriptAtOnce names script
  pub has_room : IsRoomFor names script room
