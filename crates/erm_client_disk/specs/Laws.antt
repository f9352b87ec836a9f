-- What clients leave on a disk, whose log a desk writes: the laws, as statements.
use Rattle.std.specs.Prelude.{◌≡◌, ℕ, ◌≤◌, List, [], ◌++◌, length, Option, false}
use Rattle.erm_block.specs.declared.block.Block.{Block}
use Rattle.erm_ckpt.specs.declared.slot.Slots.{Slots}
use Rattle.erm_ckpt.specs.Recovered.{State}
use Rattle.erm_client.specs.declared.transcript.Standing.TheVariants as standing
use Rattle.erm_client.specs.declared.transcript.Transcript.{Transcript}
use Rattle.erm_client.specs.Laws.{AreFrom, lines_of}
use Rattle.erm_client_disk.specs.Leaves.{ClientsAreDone, ClientsOutlive}
use Rattle.erm_client_told.specs.Starved.{DidForClient}
use Rattle.erm_client_told.specs.Told.{answers_by, parts_of}
use Rattle.erm_desk.specs.Desk.{Sees}
use Rattle.erm_disk_at_once.specs.Desks.{HasDesk, HasLogged, OpensTable}
use Rattle.erm_disk_run.specs.Found.{StartsFrom}
use Rattle.erm_disk_run.specs.Opened.{OpensEachLog}
use Rattle.erm_good_report.specs.Opening.{Opening}
use Rattle.erm_lines.specs.Executions.{IsOpened, IsOpeningOf}
use Rattle.erm_model.specs.declared.limits.TheConstants.{LAST_NUMBER, SESSIONS}
use Rattle.erm_model.specs.Member.{◌∈◌}
use Rattle.erm_outside.specs.Disk.{Step}
use Rattle.erm_report.specs.declared.answer.Answer.{Answer}
use Rattle.erm_rule.specs.declared.view.Start.{Start}
use Rattle.erm_threads.specs.Work.{DidWork}
use Rattle.erm_works.specs.Works.{AreComplete, Did, HaveDone}
use Rattle.erm_world.specs.Log.{place_behind}
use Rattle.erm_world.specs.World.{View}

-- Clients came to an end in one world, from another on that was just opened on a state: each session did so, by its transcript and by how it was closed. The
-- log there has these blocks, of which the first are flushed.
pub record HaveEnded (So : Did) (state : State) (o : Start) (flushed blocks : List Block) (v f : View) (opening : Opening) (all : List Transcript) (closed : List (Option Answer)) : Type 0 where
  pub starts : StartsFrom state opening
  pub view : IsOpeningOf v opening
  pub opened : IsOpened v
  pub from_first : AreFrom 1 all
  pub few : length (lines_of all) ≤ LAST_NUMBER
  pub sessions : (length all ≤ v.opening.sessions) × (v.opening.sessions ≤ SESSIONS)
  pub works : HaveDone So v f (parts_of all) (answers_by all) closed
  pub logged : HasLogged o blocks f
  pub synced : f.flushed ≡ place_behind o.tail flushed

-- Wherever clients were told to stop, or memory ran out for them, and whatever the disk did at the desk's last turn, the commits told outlive a crash.
abbrev pub EndedClientsOutlive : Type 0
EndedClientsOutlive = (state : State) (slots : Slots) (o : Start) (before mid : Option (List Step)) (faults : ℕ) (d : Sees) (has : HasDesk state slots o before mid faults d)
    → (v f : View) (opening : Opening) (all : List Transcript) (closed : List (Option Answer))
    → HaveEnded DidForClient state o has.desk.blocks (has.desk.blocks ++ has.desk.tried) v f opening all closed → ClientsOutlive before d.told state all

-- Where it hasn't failed, all of the log is flushed, each session did its work, was answered all its lines and doesn't wait, the clients are done.
abbrev pub EndedClientsAreDone : Type 0
EndedClientsAreDone = (state : State) (slots : Slots) (o : Start) (before mid : Option (List Step)) (faults : ℕ) (d : Sees) (has : HasDesk state slots o before mid faults d) → d.failed ≡ false
    → (v f : View) (opening : Opening) (all : List Transcript) (closed : List (Option Answer))
    → HaveEnded DidWork state o has.desk.blocks (has.desk.blocks ++ has.desk.tried) v f opening all closed
    → ((c : Transcript) → c ∈ all → c.standing ≡ standing.Open) → AreComplete f (parts_of all) (answers_by all) → f.flushed ≡ f.tail
    → ClientsAreDone before d.told state all closed

-- Where no program ran behind an opening, a crash leaves the map found.
abbrev pub OpeningsOutlive : Type 0
OpeningsOutlive = (state : State) (slots : Slots) (o : Start) (before mid : Option (List Step)) → OpensTable state o → OpensEachLog state slots before mid → ClientsOutlive before mid state []
