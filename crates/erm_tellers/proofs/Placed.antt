-- Commits at their places in the serial order.
use Rattle.std.proofs.Common.{◌≡◌, ℕ, zero, suc, ◌<◌, ◌≤◌, ◌^◌, List, [], ◌∷◌, ◌++◌, Option, Some, inl, inr, refl, sym, ap, subst, arith}
use Rattle.std.proofs.lemmas.List.Sorted.{All-permutation, IsPermutation-sym}
use Rattle.std.specs.List.Sorted.{IsPermutation}
use Rattle.erm_accounts.proofs.Found.{All-from_in, in_all}
use Rattle.erm_accounts.specs.Accounts.{Account, AreReadable, AreSolvent, Current, IsBalance, Savings, table_of}
use Rattle.erm_accounts.specs.Totals.{AddUpTo, FoundTotalsAreTotals, HoldInAll, SolventCustomersHold}
use Rattle.erm_client_invariant.specs.Laws.{ClientsAreSerial, CommitsAreOfKind, SnapshotsSeeInvariantsForClients, SnapshotsStandAmongCommits, ToldCommitsAreThere, commits_of}
use Rattle.erm_good_report.specs.Transactions.{steps_of}
use Rattle.erm_invariant.specs.Commits.{transactions_in}
use Rattle.erm_invariant.specs.Invariant.{Keeps}
use Rattle.erm_model.proofs.Members.{none_in_nil, ∈-behind}
use Rattle.erm_model.specs.Committed.{Committed, state_after}
use Rattle.erm_model.specs.Database.{AreFound, Database, value_at}
use Rattle.erm_model.specs.declared.operation.Reply.{Reply}
use Rattle.erm_model.specs.declared.operation.Reply.TheVariants as reply
use Rattle.erm_model.specs.Member.{◌∈◌}
use Rattle.erm_model.specs.Run.{RunsAll, RunsOne, Step, after_all, ops_of}
use Rattle.erm_tellers.proofs.Balance.{all_move, among_keep}
use Rattle.erm_tellers.specs.Denials.{AreUnreadable}
use Rattle.erm_tellers.specs.Laws.{AuditsHaveTotals, AuditsInTransactionsShowTotals, AuditsShowTotals, AuditsShowWhatIsKept, ShowsTotal, TellersMoveTotals}
use Rattle.erm_tellers.specs.Moves.{AreOfTellers, TransactionsMoveTotals}
use Rattle.erm_tellers.specs.Tellers.{Audits, IsOfTellers}

-- the same commits, in another order
permuted : (xs ys : List Committed) → IsPermutation xs ys → (x : Committed) → x ∈ xs → x ∈ ys
permuted xs ys same x there =
    in_all (λ (y : Committed). y ∈ ys) xs x (All-permutation (λ (y : Committed). y ∈ ys) ys xs (IsPermutation-sym xs ys same) (All-from_in {P = λ (y : Committed). y ∈ ys} ys (λ y inside. inside))) there

in_front : (front rest : List Committed) (x : Committed) → x ∈ front → x ∈ (front ++ rest)
in_front [] rest x there = absurd (none_in_nil x there)
in_front (y ∷ front) rest x (zero, at) = (zero, at)
in_front (y ∷ front) rest x (suc k, at) = ∈-behind y (front ++ rest) x (in_front front rest x (k, at))

are_of : (xs : List Committed) → ((x : Committed) → x ∈ xs → IsOfTellers x.steps) → AreOfTellers xs
are_of [] each = tt
are_of (x ∷ xs) each = (each x (zero, refl), are_of xs (λ y there. each y (∈-behind x xs y there)))

-- one stands behind others
record IsPlaced (order : List Committed) (x : Committed) : Type 0 where
  pub front : List Committed
  pub rest : List Committed
  pub is : order ≡ front ++ x ∷ rest

place_of : (order : List Committed) (x : Committed) → x ∈ order → IsPlaced order x
place_of [] x there = absurd (none_in_nil x there)
place_of (y ∷ order) x (zero, at) = let same : y ≡ x = cc in record { front = []; rest = order; is = ap (λ (z : Committed). z ∷ order) same }
place_of (y ∷ order) x (suc k, at) =
    let place = place_of order x (k, at) in record { front = y ∷ place.front; rest = place.rest; is = ap (λ (zs : List Committed). y ∷ zs) place.is }

-- and is answered on what these leave
runs_at : (front rest : List Committed) (x : Committed) (m n : Database) → RunsAll m (transactions_in (front ++ x ∷ rest)) n → RunsOne (state_after front m) x.steps
runs_at [] rest x m n run = run.0
runs_at (y ∷ front) rest x m n run = runs_at front rest x (after_all (ops_of y.steps) m) n run.1

-- AN AUDIT answered on a map
abbrev found_in : Reply → List (ℕ × List ℕ)
found_in (reply.Found found) = found
found_in r = []

scanned : (m : Database) (table low high : ℕ) (found : List (ℕ × List ℕ))
    → (other : List (ℕ × List ℕ)) × (reply.Found found ≡ reply.Found other) × AreFound m table low high other → AreFound m table low high found
scanned m table low high found answered =
    let same : found ≡ answered.0 = ap found_in answered.1 in
    subst (λ (l : List (ℕ × List ℕ)). AreFound m table low high l) (sym same) answered.2

pub shows : FoundTotalsAreTotals → (m : Database) (low high : ℕ) (current savings : List (ℕ × List ℕ)) (steps : List Step) → high < 2 ^ 64 → Audits low high current savings steps → RunsOne m steps
    → ShowsTotal m low high current savings
shows totals m low high current savings steps bound audits run =
    let runs = subst (RunsOne m) audits run in
    let one = scanned m (table_of Current) low high current runs.0 in
    let other = scanned m (table_of Savings) low high savings runs.1.0 in
    record { current_is = one; savings_is = other; total_is = totals m low high current savings bound one other }

pub audits_show : FoundTotalsAreTotals → SnapshotsStandAmongCommits → AuditsShowTotals
audits_show totals stand v f all closed opening run is are opened order in_order c there x ended low high current savings bound audits =
    let place = stand v f all closed opening run is are opened order in_order c there x ended in
    (place, shows totals (state_after place.front opening.map) low high current savings x.steps bound audits place.answered)

pub tracked_show : FoundTotalsAreTotals → ToldCommitsAreThere → ClientsAreSerial → AuditsInTransactionsShowTotals
tracked_show totals told serial v f all closed opening run is are opened enough order in_order c there x commits low high current savings bound audits =
    let all_commits = commits_of v.opening.sessions all closed in
    let place = place_of order x (permuted all_commits order in_order.same x (told v.opening.sessions all closed are opened enough c there x commits)) in
    let runs = (serial v f all closed opening run is order in_order).run in
    let here = runs_at place.front place.rest x opening.map (state_after order opening.map)
    (subst (λ (l : List Committed). RunsAll opening.map (transactions_in l) (state_after order opening.map)) place.is runs) in
    (place.front, place.rest, place.is, shows totals (state_after place.front opening.map) low high current savings x.steps bound audits here)

pub tellers_move : TransactionsMoveTotals → CommitsAreOfKind IsOfTellers → ClientsAreSerial → TellersMoveTotals
tellers_move moves of_kind serial v f all closed opening run is tellers order in_order front rest split low high =
    let all_commits = commits_of v.opening.sessions all closed in
    let each : (x : Committed) → x ∈ front → IsOfTellers x.steps = λ x there.
    of_kind v f all closed run (record { from_first = tellers.from_first; opened = tellers.opened; kept = tellers.kept }) x
    (permuted order all_commits (IsPermutation-sym all_commits order in_order.same) x (subst (λ (l : List Committed). x ∈ l) (sym split) (in_front front rest x there))) in
    let are = are_of front each in
    let runs = (serial v f all closed opening run is order in_order).run in
    (are, all_move moves front rest are opening.map (state_after order opening.map) (subst (λ (l : List Committed). RunsAll opening.map (transactions_in l) (state_after order opening.map)) split runs) low high)

-- WHAT IS KEPT is what each audit adds up to.
pub kept_shows : FoundTotalsAreTotals → TransactionsMoveTotals → ((low high n : ℕ) → SnapshotsSeeInvariantsForClients (λ (m : Database). HoldInAll m low high n)) → AuditsShowWhatIsKept
kept_shows totals moves sees v f all closed opening run is low high n moving holds order in_order c there x ended current savings bound audits =
    let seen = sees low high n v f all closed opening run is
    (record {
      from_first = moving.from_first;
      opened = moving.opened;
      kept = λ d within t stamp succ pred over commits. among_keep moves low high n (steps_of t) (moving.kept d within t stamp succ pred over commits);
    }) holds order in_order c there x ended in
    let shown = shows totals (state_after seen.0.front opening.map) low high current savings x.steps bound audits seen.1.run in
    (shown.total_is n).1 seen.1.holds

-- NO AUDIT LACKS a total.
unreadable_none : (m : Database) (account : Account) (low high : ℕ) (found : List (ℕ × List ℕ)) → AreReadable m → AreFound m (table_of account) low high found → AreUnreadable found → ⊥
unreadable_none m account low high found readable are (pair, inside, not) =
    let there = in_all (λ (x : ℕ × List ℕ). (low ≤ x.0) × (x.0 ≤ high) × (x.0 < 2 ^ 64) × (value_at m (table_of account) x.0 ≡ Some x.1)) found pair are.within inside in
    not (subst (λ (o : Option (List ℕ)). IsBalance o) there.3 (readable account pair.0))

pub totals_there : FoundTotalsAreTotals → SolventCustomersHold → ((steps : List Step) → IsOfTellers steps → Keeps AreSolvent steps) → ((steps : List Step) → IsOfTellers steps → Keeps AreReadable steps)
    → SnapshotsSeeInvariantsForClients (λ (m : Database). AreSolvent m × AreReadable m) → AuditsHaveTotals
totals_there totals hold solvency readability sees v f all closed opening run is tellers solvent readable order in_order c there x ended low high current savings bound audits none =
    let seen = sees v f all closed opening run is
    (record {
      from_first = tellers.from_first;
      opened = tellers.opened;
      kept = λ d within t stamp succ pred over commits m both runs.
          let kind = tellers.kept d within t stamp succ pred over commits in
          (solvency (steps_of t) kind m both.0 runs, readability (steps_of t) kind m both.1 runs);
    }) (solvent, readable) order in_order c there x ended in
    let m = state_after seen.0.front opening.map in
    let shown = shows totals m low high current savings x.steps bound audits seen.1.run in
    let held = hold m seen.1.holds.0 low high in
    let adds : AddUpTo current savings held.0 = (shown.total_is held.0).1 held.1 in
    elim none as (λ _. ⊥) [
      | inl bad ↦ unreadable_none m Current low high current seen.1.holds.1 shown.current_is bad
      | inr others ↦ elim others as (λ _. ⊥) [
        | inl bad ↦ unreadable_none m Savings low high savings seen.1.holds.1 shown.savings_is bad
        | inr owes ↦ omega (arith, adds, owes)
      ]
    ]
