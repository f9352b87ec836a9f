-- What a session met of others' commits: it stays so in each world in which all may end, and the log's end lies above their stamps.
use Rattle.std.proofs.Common.{◌≡◌, ℕ, ◌<◌, ◌⊎◌, ⊎_elim, inl, inr, Bool, true, false, filter, map, refl, sym, ap, subst, arith}
use Rattle.std.specs.Prelude.{if◌then◌else◌, is_none, nat_lt, not}
use Rattle.erm_model.specs.declared.history.VersionWritten.{VersionWritten}
use Rattle.erm_model.specs.declared.history.TransactionRecord.{TransactionRecord}
use Rattle.erm_model.specs.declared.limits.TheConstants.{SESSIONS}
use Rattle.erm_model.specs.History.{History, OverwritesFrom, OverwritesReadOf, ReadsFrom}
use Rattle.erm_model.specs.Member.{◌∈◌}
use Rattle.erm_model.specs.RowTransaction.{Law}
use Rattle.erm_machine.specs.declared.attempt.Attempt.{Attempt}
use Rattle.erm_machine.specs.declared.attempt.Claim.{Claim}
use Rattle.erm_machine.specs.Core.{Core}
use Rattle.erm_machine.specs.Decided.{counted, written_of}
use Rattle.erm_machine.specs.Decided as machine
use Rattle.erm_machine.specs.Sound.{Sound}
use Rattle.erm_machine.proofs.Histories.{history_has}
use Rattle.erm_machine.proofs.Listed.{∈-filter, ∈-map, ∈-map_from}
use Rattle.erm_core_shown.specs.Shown.{HasOnly, shown_of}
use Rattle.erm_core_shown.proofs.Only.{none_after, only_sessions}
use Rattle.erm_core_stays.proofs.Commits.{event_commits}
use Rattle.erm_core_view.specs.Views.{work_of}
use Rattle.erm_rule.specs.declared.view.Book.{Book}
use Rattle.erm_rule.specs.Books.{IsAfter, IsBookOf}
use Rattle.erm_world.specs.World.{View}
use Rattle.erm_world.specs.World as world
use Rattle.erm_own_view.specs.Own.{EndsIn, WasOf}
use Rattle.erm_own_view.proofs.Along.{none_of, of_later, was_before}

-- what each state has committed, as it shows it
abbrev pub Shows : Type 0
Shows = (c : Core) → Sound c → HasOnly SESSIONS c → world.history_of (shown_of SESSIONS c) ≡ machine.history_of c.seats

module _ (law : Law) (seat : ℕ) (m e : Book) (own f : View) (goes : IsAfter m e) (end : EndsIn law seat e own f) (shows : Shows) where
  was : WasOf m end.core
  was = was_before m e end.core goes end.was

  in_end : (t : TransactionRecord) → t ∈ machine.history_of end.core.seats → t ∈ world.history_of f
  in_end t there =
      let only = only_sessions end.core end.under.sound (none_of none_after m end.core (λ q none. refl) was) in
      subst (λ (v : View). t ∈ world.history_of v) (sym end.shows) (subst (λ (h : History). t ∈ h) (sym (shows end.core end.under.sound only)) there)

  -- where each state of a book has some commit of which this is so, the world in which all end has one
  pub commit_met : (Q : TransactionRecord → Type 0) → ((c : Core) → IsBookOf m c → (t : TransactionRecord) × (t ∈ machine.history_of c.seats) × Q t)
      → (t : TransactionRecord) × (t ∈ world.history_of f) × Q t
  commit_met Q so =
      let there =
      of_later (λ (c : Core). (t : TransactionRecord) × (t ∈ machine.history_of c.seats) × Q t)
      (λ c d passes had. (had.0, event_commits c d passes.1.0 passes.1.1 passes.0 passes.1.2 had.0 had.1, had.2)) m end.core so was
      in
      (there.0, in_end there.0 there.1, there.2)

-- the stamp of a commit lies below the log's end
pub stamp_low : (c : Core) (u : TransactionRecord) → Sound c → u ∈ machine.history_of c.seats → u.stamp < c.shared.tail
stamp_low c u sound there =
    let r = history_has c.seats u there in
    let low = (sound.own r.seat).decided.drawn r.attempt r.stands in
    let is : r.attempt.stamp ≡ u.stamp = ap (λ (v : TransactionRecord). v.stamp) r.is in
    omega (arith, low, is)

-- WHAT COUNTS for a transaction without the claims that have no cell yet counts for it.
counted_in : (all : Bool) (t : Attempt) (w : VersionWritten) → w ∈ map written_of (if all then t.writes else filter (λ c. not (is_none c.own)) t.writes) → w ∈ map written_of t.writes
counted_in true t w m = m
counted_in false t w m =
    let c = ∈-map written_of (filter (λ c. not (is_none c.own)) t.writes) w m in
    subst (λ (v : VersionWritten). v ∈ map written_of t.writes) c.2 (∈-map_from written_of t.writes c.0 (∈-filter (λ (d : Claim). not (is_none d.own)) c.0 t.writes c.1).0)

pub counts_all : (seat : ℕ) (t : Attempt) (u : TransactionRecord)
    → (ReadsFrom (machine.record_of seat (counted t)) u ⊎ OverwritesFrom (machine.record_of seat (counted t)) u ⊎ OverwritesReadOf (machine.record_of seat (counted t)) u)
    → (ReadsFrom (world.record_of seat (work_of t) 0 0 0) u ⊎ OverwritesFrom (world.record_of seat (work_of t) 0 0 0) u ⊎ OverwritesReadOf (world.record_of seat (work_of t) 0 0 0) u)
counts_all seat t u counts =
    ⊎_elim
    (λ (reads : ReadsFrom (machine.record_of seat (counted t)) u). inl reads)
    (λ (more : OverwritesFrom (machine.record_of seat (counted t)) u ⊎ OverwritesReadOf (machine.record_of seat (counted t)) u).
    inr (⊎_elim
    (λ (over : OverwritesFrom (machine.record_of seat (counted t)) u). inl (over.0, counted_in (nat_lt 0 t.stamp) t over.0 over.1, over.2, over.3))
    (λ (read : OverwritesReadOf (machine.record_of seat (counted t)) u).
    let over = read.2 in inr (read.0, read.1, (over.0, counted_in (nat_lt 0 t.stamp) t over.0 over.1, over.2, over.3)))
    more))
    counts
