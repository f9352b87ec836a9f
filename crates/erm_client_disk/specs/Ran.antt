-- Programs that ran on a disk.
use Rattle.std.specs.Prelude.{◌≡◌, ℕ, ◌+◌, ◌<◌, ◌≤◌, Bool, true, false, List, [], length, map, Option, Result, Ok, Err, Vec}
use Rattle.std.specs.declared.alloc.Global.{Global}
use Rattle.erm_ckpt.specs.Recovered.{State}
use Rattle.erm_client.specs.declared.transcript.Standing.TheVariants as standing
use Rattle.erm_client.specs.declared.transcript.Transcript.{Transcript}
use Rattle.erm_client.specs.Laws.{AreFrom, lines_of}
use Rattle.erm_client_beside.specs.declared.ran.ProgramRun.{ProgramRun}
use Rattle.erm_client_beside.specs.declared.ran.ProgramsRan.{ProgramsRan}
use Rattle.erm_client_beside.specs.Lists.{ArePaired}
use Rattle.erm_client_disk.specs.declared.run.ProgramsStop.{ProgramsStop}
use Rattle.erm_client_disk.specs.declared.run.ProgramsStop.TheVariants as stops
use Rattle.erm_client_disk.specs.Leaves.{ClientsAreDone, ClientsOutlive}
use Rattle.erm_disk_at_once.specs.Runs.{KeepsSegments, KeepsSlots}
use Rattle.erm_disk_run.specs.Found.{IsFound}
use Rattle.erm_disk_run.specs.Stops.{CountsStop, StopsRun}
use Rattle.erm_model.specs.declared.limits.TheConstants.{LAST_NUMBER, LAST_RUN, STOP}
use Rattle.erm_model.specs.Member.{◌∈◌}
use Rattle.erm_outside.specs.Disk.{Step, Tells}
use Rattle.erm_outside.specs.Faults.{Rose}
use Rattle.erm_report.specs.declared.answer.Answer.{Answer}

-- the transcripts of programs, by seat from 1 on, and how each session was closed
abbrev pub transcripts_of : {P : Type 0} → List (ProgramRun P) → List Transcript
transcripts_of runs = map (λ r. r.transcript) runs

abbrev pub closes_of : {P : Type 0} → List (ProgramRun P) → List (Option Answer)
closes_of runs = map (λ r. r.closed) runs

-- memory ran out for none within a line
abbrev pub NoneStarved : List Transcript → Type 0
NoneStarved all = (c : Transcript) → c ∈ all → c.standing ≡ standing.Starved → ⊥

-- they have no more lines in all than a session may have transactions
abbrev pub AreShort : List Transcript → Type 0
AreShort all = length (lines_of all) ≤ LAST_NUMBER

-- Programs ran on a disk from which a state was found, below the end of the log and of runs. Each keeps its promise. The commits that their transcripts tell
-- outlive a crash at any moment, also those of a client for which memory ran out within a line, and of the others beside it. The slots and the segments below
-- that of the place found are as they were. Where the disk hasn't failed none was told to stop; and where memory ran out for none within a line, at the end the
-- disk recovers to the map behind all commits.
pub record WereRun {P : Type 0} (promises : P → P → Transcript → Type 0) (before after : Option (List Step)) (state : State) (failed : Bool) (programs : List P) (runs : List (ProgramRun P)) : Type 0 where
  pub low : state.at < STOP
  pub run_low : state.run < LAST_RUN
  pub promised : ArePaired (λ k program r. (r.transcript.seat ≡ k + 1) × promises program r.program r.transcript) programs runs
  pub from_first : AreFrom 1 (transcripts_of runs)
  pub outlive : AreShort (transcripts_of runs) → ClientsOutlive before after state (transcripts_of runs)
  pub slots : Tells KeepsSlots before after
  pub segments : Tells (KeepsSegments state) before after
  pub opened : failed ≡ false → (c : Transcript) → c ∈ transcripts_of runs → (c.standing ≡ standing.Starved → ⊥) → c.standing ≡ standing.Open
  pub done : failed ≡ false → NoneStarved (transcripts_of runs) → AreShort (transcripts_of runs) → ClientsAreDone before after state (transcripts_of runs) (closes_of runs)

-- No program ran: the log wasn't opened, for this cause, or memory ran out behind that, and the disk has the map found, with its slots and older segments as they
-- were. The programs come back.
abbrev pub NoneRan : {P : Type 0} → ProgramsStop P → List P → Option (List Step) → Option (List Step) → Type 0
NoneRan (stops.Unopened stop back) programs before after = (back.items ≡ programs) × StopsRun stop before after
NoneRan (stops.Memory back) programs before after = (back.items ≡ programs) × ((state : State) × IsFound before state × ClientsOutlive before after state [] × Tells KeepsSlots before after × Tells (KeepsSegments state) before after)

-- the disk's count of faults rose exactly where that is why no program ran
abbrev pub CountsNone : {P : Type 0} → ProgramsStop P → ℕ → ℕ → Type 0
CountsNone (stops.Unopened stop back) before now = CountsStop stop before now
CountsNone (stops.Memory back) before now = now ≡ before

-- or where it failed while they ran
abbrev pub CountsRun : Bool → ℕ → ℕ → Type 0
CountsRun true before now = Rose before now
CountsRun false before now = now ≡ before

-- how a run on a disk ends whose log was opened
abbrev pub ended_of : {P : Type 0} → Result (ProgramsRan P) (Vec P Global) → Result (ProgramsRan P) (ProgramsStop P)
ended_of (Ok ran) = Ok ran
ended_of (Err back) = Err (stops.Memory back)
