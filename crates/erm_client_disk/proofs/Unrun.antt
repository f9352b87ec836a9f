-- An opening behind which no program ran.
use Rattle.std.proofs.Common.{◌+◌, [], refl}
use Rattle.erm_ckpt.specs.Recovered.{State}
use Rattle.erm_client_disk.specs.Laws.{OpeningsOutlive}
use Rattle.erm_crash.specs.Kept.{KeepsOpening}
use Rattle.erm_desk.specs.Known.{flushed_log}
use Rattle.erm_disk_at_once.proofs.Starved.{none_runs}
use Rattle.erm_disk_run.proofs.Logged.{opening_told}
use Rattle.erm_disk_run.proofs.Opened.{MayOpenAll, opening_commits}
use Rattle.erm_disk_run.specs.Crashes.{KeepsCommits, KeepsTold, Outlives}
use Rattle.erm_disk_at_once.specs.Desks.{OpensTable}
use Rattle.erm_disk_run.specs.Opened.{OpensLog}
use Rattle.erm_log_run.proofs.Held.{tells_weaker}
use Rattle.erm_model.proofs.Members.{none_in_nil}
use Rattle.erm_node.specs.Sound.{sound_law}
use Rattle.erm_node.specs.TreeMap.{map_of_rows}
use Rattle.erm_recover.proofs.Waits.{since_then}
use Rattle.erm_model.specs.declared.limits.TheConstants.{LEAST_BLOCK}
use Rattle.erm_rule.specs.declared.view.Start.{Start}
use Rattle.erm_start.specs.Recovered.{IsOpenedLog}

-- the log of a table that was just opened is one that was opened on the state
opened_log : (state : State) (o : Start) → OpensTable state o → IsOpenedLog state.rows (state.at + LEAST_BLOCK) (state.run + 1) (flushed_log o [])
opened_log state o t = record { at = t.tail; run = t.run; rows = t.rows; tail = t.tail; flushed = t.tail; gathered = refl; pinned = refl }

pub unrun : MayOpenAll → OpeningsOutlive
unrun may state slots o before mid t opens = record {
  fronts = none_runs (map_of_rows state.rows);
  outlives = tells_weaker (OpensLog state (flushed_log o []) slots) (Outlives [] state []) before mid
      (λ a b is. record {
        moments = since_then (KeepsOpening sound_law.meets state is.pair) (KeepsCommits [] state state.at) a b b (λ first keeps. opening_commits may [] state is.pair first b refl refl keeps) is.keeps;
        logged = since_then (KeepsOpening sound_law.meets state is.pair) (KeepsTold [] state) a b b (λ first keeps. opening_told [] state is.pair first b refl refl keeps) is.keeps;
        acknowledged = λ place is. absurd (none_in_nil _ is.told);
      }) (opens (flushed_log o []) (opened_log state o t));
  snapshots = λ c there. absurd (none_in_nil c there);
}
