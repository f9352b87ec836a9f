-- What the blocks of a log stand for, that was opened behind a state.
use Rattle.std.proofs.Common.{◌≡◌, ℕ, ◌+◌, List, [], ◌++◌, refl, sym, ◌∙◌, subst, arith}
use Rattle.std.specs.List.{All}
use Rattle.erm_model.specs.Committed.{Committed, IsStateBelow}
use Rattle.erm_model.specs.Database.{Database}
use Rattle.erm_model.specs.Rows.{Rows}
use Rattle.erm_model.specs.declared.limits.TheConstants.{LEAST_BLOCK}
use Rattle.erm_block.specs.declared.block.Block.{Block}
use Rattle.erm_ckpt.specs.Recovered.{State}
use Rattle.erm_checkpoint.specs.Taken.{state_at}
use Rattle.erm_checkpoint.proofs.Taken.{All-front, place_is, rows_are, run_is}
use Rattle.erm_node.specs.Sound.{sound_law}
use Rattle.erm_node.specs.TreeMap.{map_of_rows}
use Rattle.erm_world.specs.Log.{IsLog, Log, place_behind, rows_behind}
use Rattle.erm_told_crash.specs.Logged.{HasCommits}
use Rattle.erm_disk_run.proofs.Logged.{front_told}
use Rattle.erm_disk_at_once.specs.Desks.{StandFor}

-- at each front of a log's blocks the rows stand for the state, as commits tell it, below the place there
abbrev pub TellFronts : Database → List Committed → Log → Type 0
TellFronts m told log = (front rest : List Block) → log.gathered ≡ front ++ rest
    → IsStateBelow told m (place_behind log.opened.at front) (map_of_rows (rows_behind log.opened.rows front))

-- blocks of one run leave that run
pub runs_of : (state : State) (log : Log) → log.opened.run ≡ state.run + 1 → IsLog sound_law.meets log → (front rest : List Block) → log.gathered ≡ front ++ rest
    → (state_at log front).run ≡ state.run + 1
runs_of state log next is front rest split =
    run_is log.opened.run (state_at log []) front refl (All-front (λ (b : Block). b.run ≡ log.opened.run) front rest (subst (All (λ (b : Block). b.run ≡ log.opened.run)) split is.one_run)) ∙ next

-- a log whose blocks tell the commits that it has stands for them
pub stand_for : (told : List Committed) (state : State) (log : Log) → log.opened.at ≡ state.at + LEAST_BLOCK → log.opened.run ≡ state.run + 1 → IsLog sound_law.meets log
    → TellFronts (map_of_rows state.rows) told log → HasCommits log told → StandFor told state (state_at log []) log.gathered
stand_for told state log at next is fronts has = record {
  behind = at;
  states = λ front rest split.
      subst (λ (place : ℕ). IsStateBelow told (map_of_rows state.rows) place (map_of_rows (state_at log front).rows)) (sym (place_is (state_at log []) front))
      (subst (λ (rows : Rows). IsStateBelow told (map_of_rows state.rows) (place_behind log.opened.at front) (map_of_rows rows)) (sym (rows_are (state_at log []) front))
      (fronts front rest split));
  runs = λ front rest split. runs_of state log next is front rest split;
  later = λ c m. let within = has.within c m in omega (arith, within.0, at);
  logged = λ place image past. front_told told state log is at has place image past;
}
