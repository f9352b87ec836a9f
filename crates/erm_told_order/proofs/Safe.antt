-- Snapshots that are kept safe: they are safe among the commits told, and are replied to as on the state below their begin stamps.
use Rattle.std.proofs.Common.{◌≡◌, ℕ, ◌<◌, List, sym, ap, subst, arith}
use Rattle.erm_model.specs.Committed.{Committed, HasSnapshotReplies}
use Rattle.erm_model.specs.Database.{Database}
use Rattle.erm_model.specs.History.{HasNewestRows, History, IsCertified, IsSnapshot}
use Rattle.erm_model.specs.Rows.{Rows}
use Rattle.erm_model.specs.Run.{RunsOne, Step}
use Rattle.erm_model.specs.Safe.{IsSafeAt}
use Rattle.erm_machine.proofs.Listed.{∈-map}
use Rattle.erm_node.specs.Sound.{IsSound, sound_law}
use Rattle.erm_node.specs.TreeMap.{map_of_rows}
use Rattle.erm_safe_laws.specs.Safe.{AreLate}
use Rattle.erm_world.specs.Laws.{IsSerializable}
use Rattle.erm_world.specs.World.{IsSession, View}
use Rattle.erm_world.specs.World as world
use Rattle.erm_maps.specs.Runs.{AreRuns, Told, told_commit, told_commits}
use Rattle.erm_good_report.specs.Snapshots.{IsSafeAmong}
use Rattle.erm_good_report.specs.Transactions.{history_of, looks_of, progress_of}
use Rattle.erm_told_order.specs.Told.{IsRepliedSafely, ToldHaveSafeSnapshots, told_in}
use Rattle.erm_told_order.proofs.Orders.{are_runs, commits_told}
use Rattle.erm_told_order.proofs.Places.{told_by}

abbrev pub StampsDivide : Type 0
StampsDivide = (h : History) (opening : Rows) → IsSnapshot h opening → IsCertified h → (b : ℕ) → IsSafeAt h b → AreLate h b

abbrev pub SafeReplies : Type 0
SafeReplies = (v : View) (told : Told) (b : ℕ) (steps : List Step) → IsSerializable sound_law v → AreRuns v told → 0 < b
    → ((rows : Rows) → IsSound rows → HasNewestRows (world.history_of v) v.opening.rows b rows → RunsOne (map_of_rows rows) steps)
    → HasSnapshotReplies (told_commits told (world.history_of v)) (map_of_rows v.opening.rows) b steps

safe_among : (told : Told) (h : History) (b : ℕ) → AreLate h b → IsSafeAmong (told_commits told h) b
safe_among told h b late c m above =
    let from = ∈-map (told_commit told) h c m in
    let stamp : from.0.stamp ≡ c.stamp = ap (λ (x : Committed). x.stamp) from.2 in
    let succ : from.0.succ ≡ c.succ = ap (λ (x : Committed). x.succ) from.2 in
    let is = late from.0 from.1 (omega (arith, above, stamp)) in
    omega (arith, is, succ)

pub replied_safely : StampsDivide → SafeReplies → ToldHaveSafeSnapshots
replied_safely divide replies f said told opening same begin s above kept =
    let progress = λ (seat : ℕ). progress_of seat said in
    let holds = told.serializable in
    let commits = commits_told f progress holds told.tells in
    let own = told_commits (told_by progress) (world.history_of f) in
    subst (λ (m : Database). IsRepliedSafely (history_of (told_in f said)) m s begin) (sym same)
    (subst (λ (cs : List Committed). IsRepliedSafely cs (map_of_rows f.opening.rows) s begin) (sym commits) (record {
      safe = safe_among (told_by progress) (world.history_of f) begin (divide (world.history_of f) f.opening.rows holds.snapshots holds.certified begin kept.stays.safe.history);
      replies = replies f (told_by progress) begin (looks_of s) holds (are_runs f progress holds told.tells) above kept.stays.replies;
    }))
