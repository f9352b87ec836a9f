-- What clients leave on a disk.
use Rattle.std.specs.Prelude.{◌≡◌, ◌≤◌, List, [], ◌∷◌, ◌++◌, length, Option}
use Rattle.erm_ckpt.specs.Recovered.{State}
use Rattle.erm_client.specs.Dealings.{snapshots_told}
use Rattle.erm_client.specs.declared.transcript.Transcript.{Transcript}
use Rattle.erm_client.specs.Laws.{answers_of, lines_of}
use Rattle.erm_client_invariant.specs.Laws.{commits_of}
use Rattle.erm_client_told.specs.Told.{all_commits}
use Rattle.erm_disk_at_once.specs.Runs.{LeavesAll}
use Rattle.erm_disk_run.specs.Crashes.{Outlives}
use Rattle.erm_disk_run.specs.Found.{StartsFrom}
use Rattle.erm_good_report.specs.GoodReport.{answer_lines}
use Rattle.erm_good_report.specs.Opening.{Opening}
use Rattle.erm_invariant.specs.Commits.{EachFrontRuns}
use Rattle.erm_joined.specs.Merged.{closes_from}
use Rattle.erm_lines.specs.Executions.{IsOpeningOf}
use Rattle.erm_lines_at_once.specs.Executions.{IsRunAtOnce}
use Rattle.erm_model.specs.Committed.{Committed, HasSnapshotReplies, RunsInOrder, rank_of, state_after}
use Rattle.erm_model.specs.declared.limits.TheConstants.{SESSIONS}
use Rattle.erm_model.specs.Member.{◌∈◌}
use Rattle.erm_model.specs.SerialOrder.{IsSerialOrder}
use Rattle.erm_node.specs.TreeMap.{map_of_rows}
use Rattle.erm_outside.specs.Disk.{Step, Tells}
use Rattle.erm_report.specs.declared.answer.Answer.{Answer}
use Rattle.erm_report.specs.declared.line.Line.{Line}
use Rattle.erm_world.specs.World.{View}

-- the answers of transcripts, as lines that tell them
abbrev pub told_lines : List Transcript → List Line
told_lines [] = []
told_lines (c ∷ all) = answer_lines c.lines.items c.answers.items ++ told_lines all

-- Clients ran on a disk from which a state was found. The commits that their transcripts tell, those below any stamp, are a serial run from its map. They
-- outlive a crash at any moment; and once a transcript tells that a commit is on the disk, all below it do. Each snapshot that a transcript tells to have
-- ended was answered as on the state that the commits below its begin stamp make.
pub record ClientsOutlive (before after : Option (List Step)) (state : State) (all : List Transcript) : Type 0 where
  pub fronts : EachFrontRuns (all_commits all) (map_of_rows state.rows)
  pub outlives : Tells (Outlives (all_commits all) state (told_lines all)) before after
  pub snapshots : (c : Transcript) → c ∈ all → (x : Committed) → x ∈ snapshots_told c → HasSnapshotReplies (all_commits all) (map_of_rows state.rows) x.begin x.steps

-- They ran to their end: their transcripts are a script that was run at once, from the state's map, with these closings, and tell its commits. At the end
-- the disk recovers to the map behind the last of them in their serial order.
pub record ClientsAreDone (before after : Option (List Step)) (state : State) (all : List Transcript) (closed : List (Option Answer)) : Type 0 where
  pub v : View
  pub f : View
  pub opening : Opening
  pub starts : StartsFrom state opening
  pub view : IsOpeningOf v opening
  pub sessions : (length all ≤ v.opening.sessions) × (v.opening.sessions ≤ SESSIONS)
  pub run : IsRunAtOnce v (lines_of all) (answers_of all) (closes_from 1 closed) f
  pub commits : commits_of v.opening.sessions all (closes_from 1 closed) ≡ all_commits all
  pub order : List Committed
  pub serial : IsSerialOrder rank_of (all_commits all) order
  pub runs : RunsInOrder order (map_of_rows state.rows) (state_after order (map_of_rows state.rows))
  pub leaves : Tells (LeavesAll (all_commits all) state (state_after order (map_of_rows state.rows))) before after
