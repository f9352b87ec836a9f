-- The commits that transcripts tell outlive a crash.
use Rattle.std.proofs.Common.{◌++◌, List, [], map, Option, subst}
use Rattle.erm_block.specs.declared.block.Block.{Block}
use Rattle.erm_checkpoint.specs.Taken.{state_at}
use Rattle.erm_ckpt.specs.Recovered.{State}
use Rattle.erm_client.specs.Dealings.{snapshots_told}
use Rattle.erm_client.specs.declared.transcript.Transcript.{Transcript}
use Rattle.erm_client.specs.Laws.{answers_of, lines_of}
use Rattle.erm_client_disk.proofs.Told.{acknowledged, answers_tell}
use Rattle.erm_client_disk.specs.Laws.{EndedClientsOutlive, HaveEnded}
use Rattle.erm_client_disk.specs.Leaves.{told_lines}
use Rattle.erm_client_told.specs.Starved.{DidForClient, StarvedTranscriptsTellCommits, StarvedTranscriptsTellSnapshots, TranscriptsAreAStarvedRun}
use Rattle.erm_client_told.specs.Told.{all_commits, answers_by}
use Rattle.erm_desk.specs.Known.{flushed_log}
use Rattle.erm_disk_at_once.proofs.AtOnce.{logged_stand}
use Rattle.erm_disk_at_once.specs.Desks.{OpensTable, StandFor}
use Rattle.erm_disk_at_once.specs.Laws.{CommitsOutlive}
use Rattle.erm_good_report.specs.Opening.{Opening}
use Rattle.erm_good_report.specs.Phases.{Closed}
use Rattle.erm_invariant.specs.Commits.{EachFrontRuns}
use Rattle.erm_joined.specs.Merged.{closes_from, counts_of, told_when_cut}
use Rattle.erm_model.specs.Committed.{Committed, HasSnapshotReplies}
use Rattle.erm_model.specs.Database.{Database}
use Rattle.erm_model.specs.Member.{◌∈◌}
use Rattle.erm_node.specs.TreeMap.{map_of_rows}
use Rattle.erm_report.specs.declared.answer.Answer.{Answer}
use Rattle.erm_rule.specs.declared.view.Start.{Start}
use Rattle.erm_starved_at_once.specs.Laws.{StarvedRunsTell}
use Rattle.erm_told_crash.specs.Logged.{HasCommits}
use Rattle.erm_told_log_at_once.specs.Laws.{TellsStates}
use Rattle.erm_works.specs.Starved.{IsStarvedRunAtOnce}
use Rattle.erm_world.specs.World.{View}

-- what is known of executions for some of whose clients memory ran out
pub record StarvedLaws : Type 0 where
  pub run : TranscriptsAreAStarvedRun
  pub tell : StarvedTranscriptsTellCommits
  pub looks : StarvedTranscriptsTellSnapshots
  pub told : StarvedRunsTell

module _ (laws : StarvedLaws) (state : State) (o : Start) (flushed blocks : List Block) (v f : View) (opening : Opening) (all : List Transcript) (closed : List (Option Answer))
    (e : HaveEnded DidForClient state o flushed blocks v f opening all closed) where
  abbrev closes : List Closed
  closes = closes_from 1 (map told_when_cut closed)

  -- the script of all transcripts was run so
  pub run : IsStarvedRunAtOnce v (lines_of all) (counts_of (answers_by all)) (answers_of all) closes f
  run = laws.run v f all closed e.opened e.from_first e.few e.sessions.0 e.works

  pub states : TellsStates opening (all_commits all) e.logged.log
  states = subst (λ (cs : List Committed). TellsStates opening cs e.logged.log) (laws.tell v f all closes e.from_first e.sessions.0 run)
      (laws.told.states v f (lines_of all) (counts_of (answers_by all)) (answers_of all) closes opening run e.view e.logged.apart e.logged.log e.logged.of_view e.logged.is)

  pub commits : HasCommits e.logged.log (all_commits all)
  commits = subst (λ (cs : List Committed). HasCommits e.logged.log cs) (laws.tell v f all closes e.from_first e.sessions.0 run)
      (laws.told.commits v f (lines_of all) (counts_of (answers_by all)) (answers_of all) closes opening run e.view e.logged.apart e.logged.log e.logged.of_view e.logged.is)

  pub fronts : EachFrontRuns (all_commits all) (map_of_rows state.rows)
  fronts = subst (λ (m : Database). EachFrontRuns (all_commits all) m) e.starts.map
      (subst (λ (cs : List Committed). EachFrontRuns cs opening.map) (laws.tell v f all closes e.from_first e.sessions.0 run)
      (laws.told.fronts v f (lines_of all) (counts_of (answers_by all)) (answers_of all) closes opening run e.view))

  pub snapshots : (c : Transcript) → c ∈ all → (x : Committed) → x ∈ snapshots_told c → HasSnapshotReplies (all_commits all) (map_of_rows state.rows) x.begin x.steps
  snapshots c there x ended = subst (λ (m : Database). HasSnapshotReplies (all_commits all) m x.begin x.steps) e.starts.map
      (laws.looks v f all closes opening e.from_first e.sessions.0 run e.view c there x ended)

  -- the log's blocks stand for them
  pub stand : OpensTable state o → StandFor (all_commits all) state (state_at (flushed_log o blocks) []) blocks
  stand table = logged_stand (all_commits all) state o blocks f table e.logged opening.map e.starts.map states commits

pub outlive : CommitsOutlive → StarvedLaws → EndedClientsOutlive
outlive lasts laws state slots o before mid faults d has v f opening all closed e =
    let flushed = has.desk.blocks in
    let blocks = has.desk.blocks ++ has.desk.tried in
    record {
      fronts = fronts laws state o flushed blocks v f opening all closed e;
      snapshots = snapshots laws state o flushed blocks v f opening all closed e;
      outlives = lasts state slots o before mid faults d has (all_commits all) (stand laws state o flushed blocks v f opening all closed e has.table) (told_lines all) (answers_of all) (answers_tell all)
          (acknowledged f _ (answers_of all) e.synced
          (laws.told.flushed v f (lines_of all) (counts_of (answers_by all)) (answers_of all) (closes_from 1 (map told_when_cut closed)) (run laws state o flushed blocks v f opening all closed e)));
    }
