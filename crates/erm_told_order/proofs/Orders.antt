-- The serial order of what a report tells, and its snapshot replies.
use Rattle.std.proofs.Common.{◌≡◌, ℕ, List, sym, subst, arith}
use Rattle.std.specs.List.{flat_map, range_with_len}
use Rattle.erm_model.specs.Committed.{Committed, HasSnapshotReplies, RunsInOrder, state_after}
use Rattle.erm_model.specs.Database.{Database}
use Rattle.erm_model.specs.History.{History}
use Rattle.erm_model.specs.History as history
use Rattle.erm_model.specs.Run.{Step}
use Rattle.erm_model.specs.Member.{◌∈◌}
use Rattle.erm_node.specs.Sound.{sound_law}
use Rattle.erm_node.specs.TreeMap.{map_of_rows}
use Rattle.erm_world.specs.Laws.{IsSerializable}
use Rattle.erm_world.specs.World.{IsSession, View}
use Rattle.erm_world.specs.World as world
use Rattle.erm_maps.specs.Runs.{AreRuns, RepliesAreSnapshots, RunsAsOperations, told_commits}
use Rattle.erm_maps.proofs.Commits.{run_ends}
use Rattle.erm_good_report.specs.Transactions.{Progress, Transaction, history_of, steps_of}
use Rattle.erm_lines.specs.Told.{Tells}
use Rattle.erm_told_order.proofs.Histories.{all_commits, session_commits}
use Rattle.erm_told_order.proofs.Places.{all_of, stands_at, told_by}
use Rattle.erm_told_order.proofs.Sessions.{Stands, answered, over_told, run, stands}

-- replies that are told otherwise are the same ones
snapshot_as : (commits others : List Committed) (opening m : Database) (begin b : ℕ) (steps ss : List Step) → commits ≡ others → opening ≡ m → begin ≡ b → ss ≡ steps
    → HasSnapshotReplies others m b ss → HasSnapshotReplies commits opening begin steps
snapshot_as commits others opening m begin b steps ss same_commits same_map same_begin same_steps replies = rw (same_commits, same_map, same_begin, sym same_steps) replies

-- A view of which each session's transactions are told.
module _ (v : View) (progress : ℕ → Progress) (holds : IsSerializable sound_law v) (tells : (seat : ℕ) → IsSession v seat → Tells seat (progress seat) (v.session seat)) where
  abbrev all : List Transaction
  all = flat_map (λ seat. all_of (progress seat)) (range_with_len 1 v.opening.sessions)

  pub are_runs : AreRuns v (told_by progress)
  are_runs = record {
    answered = λ seat w session has. answered seat (progress seat) (v.session seat) (tells seat session) (holds.numbered seat session) w has;
    run = λ seat w stamp session has. run seat (progress seat) (v.session seat) (tells seat session) (holds.numbered seat session) w stamp has;
  }

  pub commits_told : history_of (flat_map (λ seat. all_of (progress seat)) (range_with_len 1 v.opening.sessions)) ≡ told_commits (told_by progress) (world.history_of v)
  commits_told =
      all_commits (told_by progress) (λ seat. all_of (progress seat)) v.session v.opening.sessions
      (λ seat above within.
      session_commits (told_by progress) seat (progress seat) (v.session seat)
      (over_told seat (progress seat) (v.session seat) (tells seat (above, within)) (holds.numbered seat (above, within)))
      (tells seat (above, within)).now)

  pub snapshots_told : (opening : Database) → opening ≡ map_of_rows v.opening.rows → RepliesAreSnapshots v (told_by progress)
      → (t : Transaction) → t ∈ flat_map (λ seat. all_of (progress seat)) (range_with_len 1 v.opening.sessions)
      → HasSnapshotReplies (history_of (flat_map (λ seat. all_of (progress seat)) (range_with_len 1 v.opening.sessions))) opening t.begin (steps_of t)
  snapshots_told opening same replies t m =
      let there = stands_at (λ seat. all_of (progress seat)) 1 v.opening.sessions t m in
      let above = there.above in
      let below = there.below in
      let session : IsSession v there.at = (omega (arith, above), omega (arith, below)) in
      let own : Stands (v.session there.at) (told_by progress there.at) t = stands there.at (progress there.at) (v.session there.at) (tells there.at session) (holds.numbered there.at session) t there.stands in
      snapshot_as (history_of all) (told_commits (told_by progress) (world.history_of v)) opening (map_of_rows v.opening.rows) t.begin own.work.begin (steps_of t) (told_by progress there.at own.work.number)
      commits_told same own.begin own.steps (replies there.at own.work session own.is)

  pub serial_told : (opening : Database) → opening ≡ map_of_rows v.opening.rows → (order : History) → RunsAsOperations v (told_by progress) order
      → (told : List Committed) → told ≡ told_commits (told_by progress) order → RunsInOrder told opening (state_after told opening)
  serial_told opening same order runs told is =
      let own = told_commits (told_by progress) order in
      let opened = map_of_rows v.opening.rows in
      let end = run_ends own opened (map_of_rows (history.rows_after order v.opening.rows)) runs.run.run in
      subst (λ m. RunsInOrder told m (state_after told m)) (sym same)
      (subst (λ commits. RunsInOrder commits opened (state_after commits opened)) (sym is) (subst (λ m. RunsInOrder own opened m) end runs.run))
