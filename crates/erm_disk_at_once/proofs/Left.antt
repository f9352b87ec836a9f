-- What is left where sessions at once have run and all of their log is flushed.
use Rattle.std.proofs.Common.{◌≡◌, ℕ, ◌+◌, ◌<◌, ◌≤◌, List, [], ◌∷◌, refl, arith}
use Rattle.erm_model.specs.Committed.{Committed, rank_of, state_after}
use Rattle.erm_model.specs.Database.{Database}
use Rattle.erm_model.specs.Member.{◌∈◌}
use Rattle.erm_model.specs.SerialOrder.{IsSerialOrder}
use Rattle.erm_block.specs.declared.block.Block.{Block}
use Rattle.erm_outside.specs.Disk.{Step}
use Rattle.erm_ckpt.specs.Recovered.{State}
use Rattle.erm_checkpoint.specs.Taken.{state_at}
use Rattle.erm_node.specs.Sound.{sound_law}
use Rattle.erm_node.specs.TreeMap.{map_of_rows}
use Rattle.erm_ckpt.specs.declared.slot.Slots.{Slots}
use Rattle.erm_world.specs.Log.{IsLog, place_behind}
use Rattle.erm_rule.specs.declared.view.Start.{Start}
use Rattle.erm_desk.specs.Known.{flushed_log}
use Rattle.erm_told_crash.specs.Logged.{HasCommits}
use Rattle.erm_disk_run.proofs.Left.{OrdersAreOne, run_state}
use Rattle.erm_disk_run.proofs.Meeting.{MeetsFound, MetLaws, audit_from_place, older_found, opening_met, opens_alone}
use Rattle.erm_disk_at_once.specs.Desks.{StandFor}
use Rattle.erm_disk_at_once.specs.Runs.{LeavesAll}
use Rattle.erm_disk_at_once.proofs.Files.{KeepsFiles, slots_stay}

place_rises : (at : ℕ) (blocks : List Block) → at ≤ place_behind at blocks
place_rises at [] = omega arith
place_rises at (b ∷ bs) = let rest = place_rises (at + b.size) bs in omega (arith, rest)

-- of a log all of which is flushed, behind the blocks that recovery met before
module _ (one : OrdersAreOne) (laws : MetLaws) (told : List Committed) (state : State) (o : Start) (blocks : List Block) (stand : StandFor told state (state_at (flushed_log o blocks) []) blocks)
    (is : IsLog sound_law.meets (flushed_log o blocks)) (has : HasCommits (flushed_log o blocks) told) where
  pub leaves_all : (order : List Committed) (opening end : Database) → opening ≡ map_of_rows state.rows → IsSerialOrder rank_of told order → end ≡ state_after order opening
      → (old new : List Step) → KeepsFiles state.at old new → (slots : Slots) → MeetsFound state (flushed_log o blocks) slots old new → LeavesAll told state end old new
  leaves_all order opening end same serial ends old new keeps slots met =
      let log = flushed_log o blocks in
      let h = met.tail.holds in
      let found : State = state_at log h.front in
      let to = h.to in
      let behind = stand.behind in
      let rises = place_rises o.tail blocks in
      let all : (c : Committed) → c ∈ told → c.stamp < found.at = λ c m. let within = has.within c m in omega (arith, within.1, to) in
      record {
        settled = h.ready.settled;
        found = found;
        pair = h.pair;
        there = h.there;
        run = stand.runs h.front h.rest h.split;
        low = omega (arith, behind, rises, to);
        above = all;
        map = run_state one told order (map_of_rows state.rows) opening end found.at (map_of_rows found.rows) all same (stand.states h.front h.rest h.split) serial ends;
        spared = λ before blocks_met recovers. slots_stay state.at old new keeps h.pair before h.there.blocks blocks_met h.there.recovers recovers;
        segments = keeps.segments;
        logged = λ best blocks_met recovers. audit_from_place laws state log is behind slots old new met best blocks_met recovers told has refl refl;
        opening = λ best blocks_met recovers low. opening_met laws state log is behind slots old new met best blocks_met recovers low;
        alone = λ best blocks_met recovers. opens_alone laws state log is behind slots old new met best blocks_met recovers;
        older = λ before best earlier blocks_met was recovers b low. older_found laws state log is behind slots old new met best blocks_met recovers before earlier was b low;
      }
