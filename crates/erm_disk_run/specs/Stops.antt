-- Why nothing was run on a disk.
use Rattle.std.specs.Prelude.{◌≡◌, ℕ, ◌<◌, ◌≤◌, ◌⊎◌, List, [], Option}
use Rattle.erm_block.specs.Spelling.{spelling}
use Rattle.erm_ckpt.specs.Recovered.{State}
use Rattle.erm_ckpt.specs.Slots.{removal_end}
use Rattle.erm_log_disk.specs.Writes.{OnlyWrites}
use Rattle.erm_model.specs.declared.limits.TheConstants.{LAST_RUN, STOP}
use Rattle.erm_node.specs.Sound.{sound_law}
use Rattle.erm_outside.specs.Faults.{Rose}
use Rattle.erm_outside.specs.Disk.{Step, Tells}
use Rattle.erm_recover.specs.Opening.{open_block}
use Rattle.erm_recover.specs.Recovering.{NoBaseTold}
use Rattle.erm_recover.specs.Waiting.{OnceSettled}
use Rattle.erm_disk_run.specs.declared.stops.DiskStop.{DiskStop}
use Rattle.erm_disk_run.specs.declared.stops.DiskStop.TheVariants.{DiskFault, LogEnd, Memory, NoBase, RunsEnd}
use Rattle.erm_disk_run.specs.Crashes.{KeepsCommits, KeepsOlder}
use Rattle.erm_disk_run.specs.Found.{IsFound}

-- Nothing was done to a disk, or its log was being opened, and a checkpoint taken: then nothing was done but to wait until nothing was pending, and from then
-- on each image at each moment recovers to the map found. No more of the log's older segments are gone than the checkpoint was to remove.
abbrev pub KeepsMap : Option (List Step) → Option (List Step) → Type 0
KeepsMap before after =
    (after ≡ before) ⊎ ((state : State) × IsFound before state × Tells (OnceSettled (KeepsCommits [] state state.at)) before after × Tells (KeepsOlder state removal_end) before after)

-- Nothing was done to a disk, or its log was being opened for the next run and no more: what came to the disk are words of the block that opens it, at
-- its place, and that behind nothing but waits until nothing was pending: from then on each image at each moment recovers to the map found.
abbrev pub OnlyOpens : Option (List Step) → Option (List Step) → Type 0
OnlyOpens before after = (after ≡ before)
    ⊎ ((state : State) × IsFound before state × OnlyWrites state.at (spelling (open_block state.at state.run)) before after
    × Tells (OnceSettled (KeepsCommits [] state state.at)) before after)

-- Why nothing was run or no checkpoint taken, and what was done to the disk meanwhile. Where no run comes after the last one, or the log is at its end, that is found.
abbrev pub StopsFor : DiskStop → Option (List Step) → Option (List Step) → Type 0
StopsFor NoBase before after = NoBaseTold sound_law.meets before × (after ≡ before)
StopsFor (RunsEnd run) before after = ((state : State) × IsFound before state × (run ≡ state.run)) × (LAST_RUN ≤ run) × (after ≡ before)
StopsFor (LogEnd tail) before after = ((state : State) × IsFound before state × (tail ≡ state.at) × (state.run < LAST_RUN)) × (STOP ≤ tail) × (after ≡ before)
StopsFor DiskFault before after = KeepsMap before after
StopsFor Memory before after = KeepsMap before after

-- Why nothing was run: then no more was done than to open the log.
abbrev pub StopsRun : DiskStop → Option (List Step) → Option (List Step) → Type 0
StopsRun DiskFault before after = OnlyOpens before after
StopsRun Memory before after = OnlyOpens before after
StopsRun stop before after = StopsFor stop before after

-- the disk's count of faults rose exactly where that is why nothing was run
abbrev pub CountsStop : DiskStop → ℕ → ℕ → Type 0
CountsStop DiskFault before now = Rose before now
CountsStop stop before now = now ≡ before
