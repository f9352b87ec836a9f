-- What a crash leaves at each moment of an opening, and of sessions at once behind it.
use Rattle.std.proofs.Common.{◌≡◌, ℕ, ◌+◌, ◌≤◌, ◌++◌, List, [], append_assoc, inr, sym, ap, ◌∙◌, subst, arith}
use Rattle.erm_model.specs.Committed.{Committed, below}
use Rattle.erm_model.specs.declared.limits.TheConstants.{LEAST_BLOCK}
use Rattle.erm_block.specs.declared.block.Block.{Block}
use Rattle.erm_outside.specs.Disk.{Image, Step}
use Rattle.erm_ckpt.specs.Recovered.{State, state_behind}
use Rattle.erm_checkpoint.specs.Taken.{state_at}
use Rattle.erm_crash.specs.Kept.{KeepsBlocks, KeepsOpening, RecoversStopped}
use Rattle.erm_crash.proofs.Moments.{joined, weaker}
use Rattle.erm_node.specs.Sound.{sound_law}
use Rattle.erm_report.specs.declared.answer.Answer.{Answer}
use Rattle.erm_report.specs.declared.answer.Answer.TheVariants as answer
use Rattle.erm_report.specs.declared.line.Line.{Line}
use Rattle.erm_world.specs.Log.{place_behind}
use Rattle.erm_log_run.specs.Acknowledged.{EndsAt, IsSavedAt}
use Rattle.erm_log_run.proofs.Lasting.{TellsFor}
use Rattle.erm_log_run.proofs.Told.{since_before}
use Rattle.erm_recover.specs.Waiting.{SinceSettled}
use Rattle.erm_recover.proofs.Waits.{since_then}
use Rattle.erm_rule.specs.declared.view.Start.{Start}
use Rattle.erm_desk.specs.Desk.{HeldSince}
use Rattle.erm_desk.specs.Known.{flushed_log}
use Rattle.erm_disk_run.specs.Crashes.{KeepsCommits, KeepsSince, KeepsTold, Outlives, RecoversBelow}
use Rattle.erm_disk_run.proofs.Logged.{opening_told}
use Rattle.erm_disk_run.proofs.Outlived.{OpensAt}
use Rattle.erm_disk_run.proofs.Opened.{MayOpenAll, opening_commits}
use Rattle.erm_disk_run.proofs.Told.{none_below}
use Rattle.erm_disk_at_once.specs.Desks.{AreAcknowledged, StandFor}

-- the steps of an opening
pub steps_since : (state : State) (old mid : List Step) → OpensAt state old mid → (more : List Step) × (mid ≡ more ++ old)
steps_since state old mid (pair, (s, whole)) =
    let later = s.since.0 in
    let waits = s.waits in
    (later.0 ++ waits.0, later.1 ∙ ap (λ (ss : List Step). later.0 ++ ss) waits.1 ∙ sym (append_assoc later.0 waits.0 old))

module _ (may : MayOpenAll) (told : List Committed) (state start : State) (blocks : List Block) (stand : StandFor told state start blocks) where
  below_past : (place : ℕ) (now : List Step) (image : Image) → RecoversStopped sound_law.meets start blocks place now image → RecoversBelow told state place now image
  below_past place now image is = let past = is.past in
      record {
        found = state_behind start past.front;
        pair = past.pair;
        there = past.there;
        low = past.low;
        run = inr (stand.runs past.front past.rest past.split);
        map = stand.states past.front past.rest past.split;
        opens = may (state_behind start past.front) past.pair image past.there;
        stops = is.stops;
      }

  below_lower : (place later : ℕ) (now : List Step) (image : Image) → place ≤ later → RecoversBelow told state later now image → RecoversBelow told state place now image
  below_lower place later now image lower is = let low = is.low in
      record { found = is.found; pair = is.pair; there = is.there; low = omega (arith, lower, low); run = is.run; map = is.map; opens = is.opens; stops = is.stops }

  -- no commit is below a place up to the end of the block that opened the log
  none_yet : (bound : ℕ) → bound ≤ state.at + LEAST_BLOCK → below bound told ≡ []
  none_yet bound low = none_below bound told (λ c m. let later = stand.later c m in omega (arith, later, low))

  -- at each moment since a log was opened each image recovers to the commits below a stamp
  pub moments : (place : ℕ) → state.at ≤ place → (old mid new : List Step) → OpensAt state old mid → KeepsBlocks sound_law.meets start blocks place mid new
      → SinceSettled (KeepsCommits told state state.at) old new
  moments place low old mid new (pair, opening) keeps =
      since_then (KeepsOpening sound_law.meets state pair) (KeepsCommits told state state.at) old mid new
      (λ first opens.
      joined _ first mid new (opening_commits may told state pair first mid (none_yet state.at (omega arith)) (none_yet (state.at + LEAST_BLOCK) (omega arith)) opens)
      (weaker _ _ mid new (λ now image is tears. below_lower state.at place now image low (below_past place now image (is tears))) keeps)) opening

  -- and its blocks tell just these
  pub logged : (place : ℕ) → (old mid new : List Step) → OpensAt state old mid → KeepsBlocks sound_law.meets start blocks place mid new → SinceSettled (KeepsTold told state) old new
  logged place old mid new (pair, opening) keeps =
      since_then (KeepsOpening sound_law.meets state pair) (KeepsTold told state) old mid new
      (λ first opens.
      joined _ first mid new (opening_told told state pair first mid (none_yet state.at (omega arith)) (none_yet (state.at + LEAST_BLOCK) (omega arith)) opens)
      (weaker _ _ mid new (λ now image is tears. let r = is tears in stand.logged place image r.past) keeps)) opening

module _ (may : MayOpenAll) (told : List Committed) (state : State) (o : Start) (blocks tried : List Block)
    (stand : StandFor told state (state_at (flushed_log o (blocks ++ tried)) []) (blocks ++ tried)) where
  abbrev all : List Block
  all = blocks ++ tried

  abbrev start : State
  start = state_at (flushed_log o all) []

  -- a place that such an answer tells is held since some moment
  acknowledged : (a : Answer) (stamp place : ℕ) → a ≡ answer.Durable stamp → place ≤ place_behind o.tail blocks → (old mid new : List Step) → OpensAt state old mid
      → HeldSince sound_law o blocks tried mid new → KeepsSince told state a place old new
  acknowledged a stamp place is low old mid new opening since =
      let steps = steps_since state old mid opening in
      let h = since.held.1 in
      let to = h.to in
      let found : State = state_at (flushed_log o blocks) h.front in
      record {
        mid = since.mid;
        moment = since_before old mid new since.mid steps.0 steps.1 since.moment;
        holds = record {
          settled = h.ready.settled;
          found = found;
          pair = h.pair;
          there = h.there;
          ends = subst (λ (x : Answer). EndsAt x place found.at) (sym is) (let at_end : place ≤ found.at = omega (arith, low, to) in at_end);
          saved = subst (λ (x : Answer). IsSavedAt sound_law.meets x h.pair old since.mid) (sym is) tt;
        };
        keeps = weaker _ _ since.mid new
            (λ now image recovers tears.
            below_lower may told state start all stand place (place_behind o.tail blocks) now image low
            (below_past may told state start all stand (place_behind o.tail blocks) now image (recovers tears))) since.keeps;
      }

  -- the commits outlive a crash
  pub outlives : (lines : List Line) (answers : List Answer) → TellsFor lines answers → AreAcknowledged (place_behind o.tail blocks) answers → (old mid new : List Step) → OpensAt state old mid
      → KeepsBlocks sound_law.meets start all o.tail mid new → HeldSince sound_law o blocks tried mid new → Outlives told state lines old new
  outlives lines answers of tells old mid new opening keeps since = record {
    moments = moments may told state start all stand o.tail (let behind = stand.behind in omega (arith, behind)) old mid new opening keeps;
    logged = logged may told state start all stand o.tail old mid new opening keeps;
    acknowledged = λ place is.
        let t = tells is.answer (of place is) place is.tells in
        acknowledged is.answer t.0 place t.1 t.2 old mid new opening since;
  }
