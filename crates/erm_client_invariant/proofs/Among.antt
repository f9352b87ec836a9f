-- A snapshot that ended stands among the commits in their serial order.
use Rattle.std.proofs.Common.{◌≡◌, ℕ, ◌<◌, ◌≤◌, ⊎_elim, Bool, true, false, cond, nat_lt, List, [], ◌∷◌, ◌++◌, length, Option, Some, None, option_map, option_to_list, take, refl, sym, ap, ◌∙◌, subst, arith}
use Rattle.std.proofs.lemmas.Bool.{cases_lt, lt-ltb, ltb-true}
use Rattle.std.proofs.lemmas.List.Sorted.{IsPermutation-sym}
use Rattle.erm_client.proofs.Commits.{from_history}
use Rattle.erm_client.specs.Dealings.{dealings_of}
use Rattle.erm_client.specs.Laws.{answers_of, lines_of}
use Rattle.erm_client_invariant.proofs.There.{from_filter, snapshot_there}
use Rattle.erm_client_invariant.specs.Laws.{InvariantLastsForClients, SnapshotsSeeInvariantsForClients, SnapshotsStandAmongCommits, StandsAmong}
use Rattle.erm_causes_at_once.specs.Laws.{RunsAtOnceHaveCauses}
use Rattle.erm_core_ssn.proofs.Members.{∈-permutation}
use Rattle.erm_core_ssn.proofs.OneOrder.{Ascends-once}
use Rattle.erm_core_ssn.proofs.Orders.{Ascends, Ascends-from_AllPairs}
use Rattle.erm_good_report.specs.Causes.{HasCauseOf}
use Rattle.erm_good_report.specs.GoodReport.{places_of}
use Rattle.erm_good_report.specs.Snapshots.{IsSafeAmong}
use Rattle.erm_good_report.specs.Transactions.{Commits, Ending, Snapshot, Transaction, ended_as, history_of, looks_of, placed_at, progress_of, said_of, transactions_of}
use Rattle.erm_invariant.specs.Commits.{transactions_in}
use Rattle.erm_invariant.specs.Invariant.{map_after}
use Rattle.erm_lines_at_once.specs.Laws.{RunsAtOnceHaveSafeSnapshots}
use Rattle.erm_machine.proofs.Listed.{∈-cons, ∈-either, ∈-filter, ∈-filter_from, ∈-first}
use Rattle.erm_model.proofs.Members.{none_in_nil}
use Rattle.erm_model.specs.Committed.{Committed, HasSnapshotReplies, below, rank_of, state_after}
use Rattle.erm_model.specs.Database.{Database}
use Rattle.erm_model.specs.Member.{◌∈◌}
use Rattle.erm_model.specs.Run.{RunsOne, Step, after_all, ops_of}
use Rattle.erm_model.specs.SerialOrder.{ComesBefore, IsSerialOrder}
use Rattle.erm_safe_laws.proofs.Between.{ascends_front}

-- A SNAPSHOT THAT ENDED was told safe, at its begin stamp.
pub record HasBegun (seat : ℕ) (s : Snapshot) (x : Committed) : Type 0 where
  pub begin : ℕ
  pub told : s.begin ≡ Some begin
  pub is : placed_at seat s begin ≡ x

pub has_begun : (seat : ℕ) (s : Snapshot) (x : Committed) → ended_as seat s ≡ Some x → HasBegun seat s x
has_begun seat s x is = by_place s.placed s.begin refl is
  where
    by_place : (b : Bool) (o : Option ℕ) → s.begin ≡ o → cond b (option_map (placed_at seat s) o) None ≡ Some x → HasBegun seat s x
    by_place false o at is = absurd (let no : None ≡ Some x = is in cc)
    by_place true None at is = absurd (let no : None ≡ Some x = is in cc)
    by_place true (Some begin) at is = record { begin = begin; told = at; is = cc }

-- THE CUT of a serial order, where successor stamps reach a bound
record Cut (b : ℕ) (order : List Committed) : Type 0 where
  front : List Committed
  rest : List Committed
  whole : order ≡ front ++ rest
  low : (x : Committed) → x ∈ front → x.succ < b
  high : (x : Committed) → x ∈ rest → b ≤ x.succ

not_after : (x y : Committed) (b : ℕ) → ComesBefore (rank_of x) (rank_of y) → b ≤ x.succ → b ≤ y.succ
not_after x y b before high = grind arith

cut_at : (b : ℕ) (order : List Committed) → Ascends rank_of order → Cut b order
cut_at b [] ascends = record { front = []; rest = []; whole = refl; low = λ x m. absurd (none_in_nil x m); high = λ x m. absurd (none_in_nil x m) }
cut_at b (x ∷ xs) ascends =
    ⊎_elim
    (λ (less : x.succ < b).
    let c = cut_at b xs ascends.1 in
    record {
      front = x ∷ c.front;
      rest = c.rest;
      whole = ap (λ (l : List Committed). x ∷ l) c.whole;
      low = λ y m. ⊎_elim (λ (e : x ≡ y). subst (λ (z : Committed). z.succ < b) e less) (λ (k : y ∈ c.front). c.low y k) (∈-cons y x c.front m);
      high = c.high;
    })
    (λ (up : b ≤ x.succ).
    record {
      front = [];
      rest = x ∷ xs;
      whole = refl;
      low = λ y m. absurd (none_in_nil y m);
      high = λ y m. ⊎_elim (λ (e : x ≡ y). subst (λ (z : Committed). b ≤ z.succ) e up) (λ (k : y ∈ xs). not_after x y b (ascends.0 y k) up) (∈-cons y x xs m);
    })
    (cases_lt x.succ b)

-- AT A SAFE STAMP. What is before the cut is what committed below the stamp, in the serial order of that.
module _ (commits order : List Committed) (opening : Database) (b : ℕ) (steps : List Step) (within : (x : Committed) → x ∈ commits → x.succ ≤ x.stamp) (safe : IsSafeAmong commits b)
    (serial : IsSerialOrder rank_of commits order) (replies : HasSnapshotReplies commits opening b steps) where
  ascends : Ascends rank_of order
  ascends = Ascends-from_AllPairs rank_of order serial.ascends

  cut : Cut b order
  cut = cut_at b order ascends

  of_commits : (x : Committed) → x ∈ order → x ∈ commits
  of_commits x m = ∈-permutation x order commits (IsPermutation-sym commits order serial.same) m

  abbrev own : List Committed
  own = replies.below_begin.order

  in_front : (x : Committed) → x ∈ cut.front → x ∈ below b commits
  in_front x m =
      let there = of_commits x (subst (λ (l : List Committed). x ∈ l) (sym cut.whole) (∈-first cut.front cut.rest x m)) in
      let low = cut.low x m in
      ∈-filter_from (λ y. nat_lt (rank_of y).stamp b) x commits there
      (lt-ltb x.stamp b (⊎_elim (λ (less : x.stamp < b). less) (λ (up : b ≤ x.stamp). let late = safe x there up in absurd (omega (arith, late, low))) (cases_lt x.stamp b)))

  from_below : (x : Committed) → x ∈ below b commits → x ∈ cut.front
  from_below x m =
      let there = ∈-filter (λ y. nat_lt (rank_of y).stamp b) x commits m in
      let low = ltb-true x.stamp b there.1 in
      let most = within x there.0 in
      ⊎_elim (λ (k : x ∈ cut.front). k)
      (λ (k : x ∈ cut.rest). let up = cut.high x k in absurd (omega (arith, up, low, most)))
      (∈-either cut.front cut.rest x (subst (λ (l : List Committed). x ∈ l) cut.whole (∈-permutation x commits order serial.same there.0)))

  same_front : own ≡ cut.front
  same_front =
      let below_serial = replies.below_begin.serial in
      Ascends-once rank_of own cut.front (Ascends-from_AllPairs rank_of own below_serial.ascends) (ascends_front rank_of cut.front cut.rest (subst (Ascends rank_of) cut.whole ascends))
      (λ x m. from_below x (∈-permutation x own (below b commits) (IsPermutation-sym (below b commits) own below_serial.same) m))
      (λ x m. ∈-permutation x (below b commits) own below_serial.same (in_front x m))

  answered_there : RunsOne (state_after cut.front opening) steps
  answered_there = subst (λ (m : Database). RunsOne m steps) (replies.below_begin.state ∙ ap (λ (l : List Committed). state_after l opening) same_front) replies.replies

  pub stands_at : (x : Committed) → x.succ ≡ b → x.steps ≡ steps → StandsAmong order opening x
  stands_at x at same = record {
    front = cut.front;
    rest = cut.rest;
    split = cut.whole;
    before = λ c m. let low = cut.low c m in omega (arith, low, at);
    behind = λ c m. let high = cut.high c m in omega (arith, high, at);
    answered = subst (λ (s : List Step). RunsOne (state_after cut.front opening) s) (sym same) answered_there;
  }

-- A commit that is told has its turn at its stamp or below.
closes : (told : List Transaction) (t : Transaction) (e : Ending) (stamp succ pred : ℕ) → e ≡ Commits stamp succ pred → HasCauseOf e told t → succ ≤ stamp
closes told t e stamp succ pred is cause = (subst (λ (x : Ending). HasCauseOf x told t) is cause).closes

-- THE LAWS
pub stand_among : RunsAtOnceHaveSafeSnapshots → RunsAtOnceHaveCauses → SnapshotsStandAmongCommits
stand_among safe causes v f all closed opening run is are opened order in_order c there x told =
    let script = lines_of all in
    let answers = answers_of all in
    let transactions = transactions_of v.opening.sessions (places_of script answers closed) in
    let agree = safe v f script answers closed opening run is in
    let (s, over, ended) = from_filter (ended_as c.seat) (dealings_of c).snapshots x told in
    let begun = has_begun c.seat s x ended in
    let p = progress_of c.seat (said_of script answers) in
    let has = ∈-first p.snapshots (option_to_list p.snapshot) s (snapshot_there s all are opened c there over) in
    stands_at (history_of transactions) order opening.map begun.begin (looks_of s)
    (λ y m.
    let one = from_history transactions y m in
    let most = closes transactions one.of one.of.ending one.stamp one.succ one.pred one.commits (causes v f script answers closed opening run is one.of one.there) in
    let stamp = ap (λ (z : Committed). z.stamp) one.same in
    let succ = ap (λ (z : Committed). z.succ) one.same in
    omega (arith, most, stamp, succ))
    (agree.safe c.seat begun.begin s has begun.told) in_order (agree.replies c.seat begun.begin s has begun.told) x
    (ap (λ (z : Committed). z.succ) (sym begun.is)) (ap (λ (z : Committed). z.steps) (sym begun.is))

-- the map after the first ones of some transactions
first_state : (front rest : List Committed) (m : Database) → map_after (take (length front) (transactions_in (front ++ rest))) m ≡ state_after front m
first_state [] rest m = none (transactions_in rest)
  where
    none : (ts : List (List Step)) → map_after (take 0 ts) m ≡ m
    none [] = refl
    none (t ∷ ts) = refl
first_state (x ∷ front) rest m = first_state front rest (after_all (ops_of x.steps) m)

pub see : (Invariant : Database → Type 0) → SnapshotsStandAmongCommits → InvariantLastsForClients Invariant → SnapshotsSeeInvariantsForClients Invariant
see Invariant stand lasts v f all closed opening run is kept begins order in_order c there x told =
    let place = stand v f all closed opening run is kept.from_first kept.opened order in_order c there x told in
    let throughout = (lasts v f all closed opening run is kept begins order in_order).throughout in
    let here : Invariant (map_after (take (length place.front) (transactions_in (place.front ++ place.rest))) opening.map) =
    subst (λ (l : List Committed). Invariant (map_after (take (length place.front) (transactions_in l)) opening.map)) place.split (throughout (length place.front)) in
    (place, record { holds = subst Invariant (first_state place.front place.rest opening.map) here; run = place.answered })
