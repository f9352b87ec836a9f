-- Where the commits below each stamp leave a map with an invariant, a crash does.
use Rattle.std.proofs.Common.{ℕ, List, Option, sym, subst}
use Rattle.erm_model.specs.Committed.{Committed, IsStateBelow}
use Rattle.erm_model.specs.Database.{Database}
use Rattle.erm_ckpt.specs.Recovered.{State}
use Rattle.erm_node.specs.TreeMap.{map_of_rows}
use Rattle.erm_outside.specs.Disk.{Image, Step, Tells, contents}
use Rattle.erm_recover.specs.Waiting.{SinceSettled}
use Rattle.erm_report.specs.declared.answer.Answer.{Answer}
use Rattle.erm_report.specs.declared.line.Line.{Line}
use Rattle.erm_log_run.proofs.Held.{tells_weaker}
use Rattle.erm_disk_run.specs.Crashes.{KeepsCommits, Leaves, Outlives, RecoversBelow}
use Rattle.erm_disk_at_once.specs.Runs.{LeavesAll}
use Rattle.erm_crash_invariant.specs.Crashes.{KeepsInvariant, RecoversWith}
use Rattle.erm_disk_invariant.specs.Runs.{CrashesKeep}

module _ (Invariant : Database → Type 0) (commits : List Committed) (state : State)
    (holds : (bound : ℕ) (m : Database) → IsStateBelow commits (map_of_rows state.rows) bound m → Invariant m) where
  recovers : (place : ℕ) (now : List Step) (image : Image) → RecoversBelow commits state place now image → RecoversWith Invariant image
  recovers place now image r = record { found = r.found; pair = r.pair; there = r.there; holds = holds r.found.at (map_of_rows r.found.rows) r.map }

  keeps : (place : ℕ) (old new : List Step) → KeepsCommits commits state place old new → KeepsInvariant Invariant old new
  keeps place old new each = (each.0, λ now moment image is tears. recovers place now image (each.1 now moment image is tears))

  since : (place : ℕ) (old new : List Step) → SinceSettled (KeepsCommits commits state place) old new → SinceSettled (KeepsInvariant Invariant) old new
  since place old new settles = (
    record { mid = settles.0.mid; waits = settles.0.waits; settled = settles.0.settled; since = keeps place settles.0.mid new settles.0.since },
    λ settled. keeps place old new (settles.1 settled),
  )

  pub crashes_keep : (before after : Option (List Step)) → Tells (SinceSettled (KeepsCommits commits state state.at)) before after → CrashesKeep Invariant before after
  crashes_keep before after told =
      tells_weaker (SinceSettled (KeepsCommits commits state state.at)) (SinceSettled (KeepsInvariant Invariant)) before after (since state.at) told

  pub outliving_keeps : (lines : List Line) (before after : Option (List Step)) → Tells (Outlives commits state lines) before after → CrashesKeep Invariant before after
  outliving_keeps lines before after told =
      crashes_keep before after
      (tells_weaker (Outlives commits state lines) (SinceSettled (KeepsCommits commits state state.at)) before after (λ old new outlives. outlives.moments) told)

-- at the end the disk recovers to the map printed
pub end_keeps : (Invariant : Database → Type 0) (commits : List Committed) (state : State) (answers : List Answer) (m : Database) (before after : Option (List Step)) → Invariant m
    → Tells (λ old new. Leaves commits state answers m old new) before after → Tells (λ old new. RecoversWith Invariant (contents new)) before after
end_keeps Invariant commits state answers m before after holds told =
    tells_weaker (λ old new. Leaves commits state answers m old new) (λ old new. RecoversWith Invariant (contents new)) before after
    (λ old new leaves. record { found = leaves.found; pair = leaves.pair; there = leaves.there; holds = subst Invariant (sym leaves.map) holds }) told

-- and so it does where sessions ran at once
pub end_at_once_keeps : (Invariant : Database → Type 0) (commits : List Committed) (state : State) (m : Database) (before after : Option (List Step)) → Invariant m → Tells (LeavesAll commits state m) before after
    → Tells (λ old new. RecoversWith Invariant (contents new)) before after
end_at_once_keeps Invariant commits state m before after holds told =
    tells_weaker (LeavesAll commits state m) (λ old new. RecoversWith Invariant (contents new)) before after
    (λ old new leaves. record { found = leaves.found; pair = leaves.pair; there = leaves.there; holds = subst Invariant (sym leaves.map) holds }) told
