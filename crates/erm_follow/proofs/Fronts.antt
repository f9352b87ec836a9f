-- What was told is the serial order so far, and where safe stamps keep what they promise the front of each later one.
use Rattle.std.proofs.Common.{◌≡◌, ℕ, ◌<◌, ◌≤◌, ◌⊎◌, ⊎_elim, Bool, true, not, nat_lt, List, [], ◌∷◌, ◌++◌, filter, sym, ap, ◌∙◌, subst, arith}
use Rattle.std.proofs.lemmas.Bool.{ltb-true, lt-ltb}
use Rattle.std.proofs.lemmas.Bool.Decides.{nat_tests}
use Rattle.std.proofs.lemmas.List.Sorted.{IsPermutation-sym}
use Rattle.erm_model.specs.declared.history.Commit.{Commit}
use Rattle.erm_model.specs.Member.{◌∈◌}
use Rattle.erm_model.specs.SerialOrder.{IsSerialOrder, below_by, rank_of_commit}
use Rattle.erm_machine.proofs.Listed.{∈-either, ∈-first, ∈-second, ∈-filter, ∈-filter_from}
use Rattle.erm_core_ssn.proofs.Members.{∈-permutation, TellsApart-filter}
use Rattle.erm_core_ssn.proofs.Orders.{Ascends, Ascends-from_AllPairs}
use Rattle.erm_core_ssn.proofs.OneOrder.{Ascends-once, some_order}
use Rattle.erm_follow.specs.declared.seen.Broken.{Broken}
use Rattle.erm_follow.specs.declared.seen.Seen.{Seen}
use Rattle.erm_follow.specs.declared.seen.Seen.TheVariants as seen
use Rattle.erm_follow.specs.Follow.{BreaksNow, Followed, greatest}
use Rattle.erm_follow.specs.Given.{GoesOn, HasGiven, IsShipped, commits_of, greatest_of}
use Rattle.erm_follow.proofs.Logs.{commits_of-append, greatest_of-push, greatest_there, Ascends-append}
use Rattle.erm_follow.proofs.Told.{before_all, heard_of}

stamp_of : Commit → ℕ
stamp_of c = c.stamp

module _ (base : ℕ) (log : List Seen) (lines : List Commit) (f : Followed) (has : HasGiven base log lines f) where
  is_below : Commit → Bool
  is_below c = nat_lt c.stamp f.safe

  pub order_so_far : IsSerialOrder rank_of_commit (below_by rank_of_commit f.safe (commits_of log)) lines
  order_so_far =
      let below = below_by rank_of_commit f.safe (commits_of log) in
      let order = some_order rank_of_commit below (TellsApart-filter (λ c. (rank_of_commit c).stamp) (λ c. nat_lt (rank_of_commit c).stamp f.safe) (commits_of log) has.differ) in
      let one : order.0 ≡ lines =
      Ascends-once rank_of_commit order.0 lines (Ascends-from_AllPairs rank_of_commit order.0 order.1.ascends) (Ascends-from_AllPairs rank_of_commit lines has.order)
      (λ c there.
      let in_below = ∈-filter (λ c. nat_lt (rank_of_commit c).stamp f.safe) c (commits_of log) (∈-permutation c order.0 below (IsPermutation-sym below order.0 order.1.same) there) in
      has.all c in_below.0 (ltb-true c.stamp f.safe in_below.1))
      (λ c there.
      let of = has.given c there in
      ∈-permutation c below order.0 order.1.same (∈-filter_from (λ c. nat_lt (rank_of_commit c).stamp f.safe) c (commits_of log) of.0 (lt-ltb c.stamp f.safe of.1)))
      in
      subst (λ l. IsSerialOrder rank_of_commit below l) one order.1

  -- where safe stamps keep what they promise, a commit at or above the greatest has a successor stamp at or above it
  high_succ : (longer : List Seen) → ((s : Seen) → s ∈ log → s ∈ longer) → IsShipped longer → (c : Commit) → c ∈ commits_of longer → f.safe ≤ c.stamp → f.safe ≤ c.succ
  high_succ longer within shipped c there high =
      ⊎_elim
      (λ (none : greatest_of base 0 log ≡ 0). omega (arith, has.safe, none))
      (λ (some : seen.Safe (greatest_of base 0 log) ∈ log).
      subst (λ n. n ≤ c.succ) (sym has.safe) (shipped (greatest_of base 0 log) c (within _ some) there (subst (λ n. n ≤ c.stamp) has.safe high)))
      (greatest_there base 0 log)

  module _ (more : List Seen) (order : List Commit) (goes : GoesOn f log more) (shipped : IsShipped (log ++ more)) (serial : IsSerialOrder rank_of_commit (commits_of (log ++ more)) order) where
    all : List Commit
    all = commits_of (log ++ more)

    is_late : Commit → Bool
    is_late c = not (nat_lt c.stamp f.safe)

    late : List Commit
    late = filter (λ c. not (nat_lt c.stamp f.safe)) (commits_of (log ++ more))

    late_high : (c : Commit) → not (nat_lt c.stamp f.safe) ≡ true → f.safe ≤ c.stamp
    late_high c is = grind (arith, nat_tests)

    high_late : (c : Commit) → f.safe ≤ c.stamp → not (nat_lt c.stamp f.safe) ≡ true
    high_late c high = grind (arith, nat_tests)

    low_or_high : (n m : ℕ) → (n < m) ⊎ (m ≤ n)
    low_or_high n m = grind arith

    told_in : (c : Commit) → c ∈ commits_of (log ++ more) → c.stamp < f.safe → c ∈ lines
    told_in c there low =
        ⊎_elim
        (λ (h : c ∈ commits_of log). has.all c h low)
        (λ (h : c ∈ commits_of more). let high = goes.later c h in absurd (omega (arith, low, high)))
        (∈-either (commits_of log) (commits_of more) c (subst (λ l. c ∈ l) (commits_of-append log more) there))

    in_all : (c : Commit) → c ∈ lines → c ∈ commits_of (log ++ more)
    in_all c there =
        subst (λ l. c ∈ l) (sym (commits_of-append log more)) (∈-first (commits_of log) (commits_of more) c (has.given c there).0)

    pub front : (rest : List Commit) × (order ≡ lines ++ rest)
    unfolding late
    front =
        let later = some_order rank_of_commit late (TellsApart-filter (λ c. (rank_of_commit c).stamp) (λ c. not (nat_lt c.stamp f.safe)) (commits_of (log ++ more)) goes.differ) in
        let of_late : (c : Commit) → c ∈ later.0 → (c ∈ commits_of (log ++ more)) × (f.safe ≤ c.stamp) = λ c there.
        let found = ∈-filter (λ c. not (nat_lt c.stamp f.safe)) c (commits_of (log ++ more)) (∈-permutation c later.0 late (IsPermutation-sym late later.0 later.1.same) there) in
        (found.0, late_high c found.1)
        in
        let ascends : Ascends rank_of_commit (lines ++ later.0) =
        Ascends-append rank_of_commit lines later.0 (Ascends-from_AllPairs rank_of_commit lines has.order) (Ascends-from_AllPairs rank_of_commit later.0 later.1.ascends)
        (λ a b at_a at_b.
        let given = has.given a at_a in
        let of = of_late b at_b in
        before_all a b f.safe (has.within a given.0) given.1 (high_succ (log ++ more) (λ s there. ∈-first log more s there) shipped b of.0 of.1))
        in (
          later.0,
          Ascends-once rank_of_commit order (lines ++ later.0) (Ascends-from_AllPairs rank_of_commit order serial.ascends) ascends
              (λ c there.
              let of_all = ∈-permutation c order (commits_of (log ++ more)) (IsPermutation-sym (commits_of (log ++ more)) order serial.same) there in
              ⊎_elim
              (λ (low : c.stamp < f.safe). ∈-first lines later.0 c (told_in c of_all low))
              (λ (high : f.safe ≤ c.stamp). ∈-second lines later.0 c (∈-permutation c late later.0 later.1.same (∈-filter_from (λ c. not (nat_lt c.stamp f.safe)) c (commits_of (log ++ more)) of_all (high_late c high))))
              (low_or_high c.stamp f.safe))
              (λ c there.
              ∈-permutation c (commits_of (log ++ more)) order serial.same
              (⊎_elim (λ (h : c ∈ lines). in_all c h) (λ (h : c ∈ later.0). (of_late c h).0) (∈-either lines later.0 c there))),
        )

  pub never_breaks : (g : Followed) (s : Seen) (b : Broken) → IsShipped (log ++ s ∷ []) → BreaksNow f s b g → ⊥
  never_breaks g s b shipped breaks =
      let there = heard_of log f.waiting s (λ c h. (has.waits c h).0) breaks.by breaks.there in
      let is : b.safe ≡ greatest_of base 0 (log ++ s ∷ []) =
      breaks.safe ∙ ap (λ n. greatest n f.safe s) has.from ∙ ap (λ n. greatest base n s) has.safe ∙ sym (greatest_of-push base 0 log s)
      in
      ⊎_elim
      (λ (none : greatest_of base 0 (log ++ s ∷ []) ≡ 0). omega (arith, is, none, breaks.breaks.1))
      (λ (some : seen.Safe (greatest_of base 0 (log ++ s ∷ [])) ∈ (log ++ s ∷ [])).
      let high = shipped (greatest_of base 0 (log ++ s ∷ [])) breaks.by some there (subst (λ n. n ≤ breaks.by.stamp) is breaks.breaks.0) in
      omega (arith, is, high, breaks.breaks.1))
      (greatest_there base 0 (log ++ s ∷ []))
