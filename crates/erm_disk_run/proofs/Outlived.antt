-- What a crash leaves at each moment of an opening and of a run so far.
use Rattle.std.proofs.Common.{◌≡◌, ℕ, ◌+◌, ◌≤◌, ◌++◌, List, [], ◌∷◌, append_assoc, inr, refl, sym, ap, ◌∙◌, subst, arith}
use Rattle.std.specs.List.{All}
use Rattle.erm_model.specs.Committed.{Committed, IsStateBelow, below}
use Rattle.erm_model.specs.Rows.{Rows}
use Rattle.erm_model.specs.declared.limits.TheConstants.{LEAST_BLOCK}
use Rattle.erm_block.specs.declared.block.Block.{Block}
use Rattle.erm_block.specs.LogList.{rows_after_block}
use Rattle.erm_outside.specs.Disk.{Image, Step}
use Rattle.erm_ckpt.specs.Recovered.{Pair, State, state_behind}
use Rattle.erm_checkpoint.specs.Taken.{state_at}
use Rattle.erm_checkpoint.proofs.Taken.{All-front, place_is, run_is}
use Rattle.erm_crash.specs.Kept.{KeepsBlocks, KeepsOpening, RecoversStopped}
use Rattle.erm_crash.proofs.Moments.{joined, weaker}
use Rattle.erm_node.specs.Sound.{sound_law}
use Rattle.erm_node.specs.TreeMap.{map_of_rows}
use Rattle.erm_report.specs.declared.answer.Answer.{Answer}
use Rattle.erm_report.specs.declared.line.Line.{Line}
use Rattle.erm_script.specs.declared.script.ScriptLine.{ScriptLine}
use Rattle.erm_world.specs.Log.{Log, place_behind, rows_behind}
use Rattle.erm_world.specs.World.{View}
use Rattle.erm_good_report.specs.Phases.{Closed}
use Rattle.erm_log_run.specs.Acknowledged.{AllLast}
use Rattle.erm_log_run.proofs.Told.{since_before, told_since}
use Rattle.erm_recover.specs.Waiting.{SinceSettled}
use Rattle.erm_recover.proofs.Waits.{since_then}
use Rattle.erm_told_crash.specs.Logged.{HasCommits}
use Rattle.erm_disk_run.specs.Crashes.{KeepsCommits, KeepsTold, Outlives, RecoversBelow}
use Rattle.erm_disk_run.proofs.Logged.{front_told, opening_told}
use Rattle.erm_disk_run.proofs.Told.{CourseLaws, RanOn, begins, commits, next_run, none_below, stamps_within, state_told}
use Rattle.erm_disk_run.proofs.Opened.{MayOpenAll, opening_commits}

-- the rows behind blocks
pub rows_are : (state : State) (blocks : List Block) → (state_behind state blocks).rows ≡ rows_behind state.rows blocks
rows_are state [] = refl
rows_are state (b ∷ bs) = rows_are (record { at = state.at + b.size; run = b.run; rows = rows_after_block b state.rows }) bs

-- while a log was opened
abbrev pub OpensAt : State → List Step → List Step → Type 0
OpensAt state old new = (pair : Pair) × SinceSettled (KeepsOpening sound_law.meets state pair) old new

-- the steps of an opening
steps_since : (state : State) (pair : Pair) (old mid : List Step) → SinceSettled (KeepsOpening sound_law.meets state pair) old mid → (more : List Step) × (mid ≡ more ++ old)
steps_since state pair old mid (s, whole) =
    let later = s.since.0 in
    let waits = s.waits in
    (later.0 ++ waits.0, later.1 ∙ ap (λ (ss : List Step). later.0 ++ ss) waits.1 ∙ sym (append_assoc later.0 waits.0 old))

module _ (laws : CourseLaws) (may : MayOpenAll) (state : State) (sessions : ℕ) (v t : View) (log : Log) (script : List ScriptLine) (answers : List Answer) (closed : List Closed)
    (ran : RanOn state sessions v t log script answers closed) where
  abbrev told : List Committed
  told = commits laws state sessions v t log script answers closed ran

  abbrev start : State
  start = state_at log []

  -- at each front of the log's blocks
  pub state_front : (front rest : List Block) → log.gathered ≡ front ++ rest → IsStateBelow told (map_of_rows state.rows) (state_at log front).at (map_of_rows (state_at log front).rows)
  state_front front rest split =
      subst (λ (place : ℕ). IsStateBelow told (map_of_rows state.rows) place (map_of_rows (state_at log front).rows)) (sym (place_is start front))
      (subst (λ (rows : Rows). IsStateBelow told (map_of_rows state.rows) (place_behind log.opened.at front) (map_of_rows rows)) (sym (rows_are start front))
      (state_told laws state sessions v t log script answers closed ran front rest split))

  pub run_front : (front rest : List Block) → log.gathered ≡ front ++ rest → (state_at log front).run ≡ state.run + 1
  run_front front rest split =
      run_is log.opened.run start front refl (All-front (λ (block : Block). block.run ≡ log.opened.run) front rest (subst (All (λ (block : Block). block.run ≡ log.opened.run)) split ran.is.one_run))
      ∙ next_run laws state sessions v t log script answers closed ran

  below_past : (place : ℕ) (now : List Step) (image : Image) → RecoversStopped sound_law.meets start log.gathered place now image → RecoversBelow told state place now image
  below_past place now image is = let past = is.past in
      record {
        found = state_at log past.front;
        pair = past.pair;
        there = past.there;
        low = past.low;
        run = inr (run_front past.front past.rest past.split);
        map = state_front past.front past.rest past.split;
        opens = may (state_at log past.front) past.pair image past.there;
        stops = is.stops;
      }

  below_lower : (place later : ℕ) (now : List Step) (image : Image) → place ≤ later → RecoversBelow told state later now image → RecoversBelow told state place now image
  below_lower place later now image lower is = let low = is.low in
      record { found = is.found; pair = is.pair; there = is.there; low = omega (arith, lower, low); run = is.run; map = is.map; opens = is.opens; stops = is.stops }

  -- no commit is below a place up to the end of the block that opened the log
  none_yet : (bound : ℕ) → bound ≤ state.at + LEAST_BLOCK → below bound told ≡ []
  none_yet bound low = none_below bound told (λ c m. let within = stamps_within laws state sessions v t log script answers closed ran c m in omega (arith, within.0, low))

  pub outlives : HasCommits log told → (lines : List Line) (place : ℕ) → state.at ≤ place → (old mid new : List Step) → OpensAt state old mid
      → KeepsBlocks sound_law.meets start log.gathered place mid new × AllLast sound_law.meets start log.gathered lines mid new → Outlives told state lines old new
  outlives has lines place low old mid new (pair, opening) (keeps, last) = record {
    moments =
        since_then (KeepsOpening sound_law.meets state pair) (KeepsCommits told state state.at) old mid new
        (λ first opens.
        joined _ first mid new (opening_commits may told state pair first mid (none_yet state.at (omega arith)) (none_yet (state.at + LEAST_BLOCK) (omega arith)) opens)
        (weaker _ _ mid new (λ now image is tears. below_lower state.at place now image low (below_past place now image (is tears))) keeps)) opening;
    logged =
        since_then (KeepsOpening sound_law.meets state pair) (KeepsTold told state) old mid new
        (λ first opens.
        joined _ first mid new (opening_told told state pair first mid (none_yet state.at (omega arith)) (none_yet (state.at + LEAST_BLOCK) (omega arith)) opens)
        (weaker _ _ mid new
        (λ now image is tears. let r = is tears in front_told told state log ran.is (begins laws state sessions v t log script answers closed ran) has place image r.past) keeps)) opening;
    acknowledged = λ known tells.
        let since = last known tells in
        let steps = steps_since state pair old mid opening in
        record {
          mid = since.mid;
          moment = since_before old mid new since.mid steps.0 steps.1 since.moment;
          holds = told_since sound_law.meets tells.answer known old mid since.mid steps.0 steps.1 since.holds;
          keeps = weaker _ _ since.mid new (λ now image is tears. below_past known now image (is tears)) since.keeps;
        };
  }
