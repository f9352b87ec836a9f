-- Turns in order: the places of commits, sorted by their turns, are in the serial order.
use Rattle.std.proofs.Common.{◌≡◌, ℕ, zero, suc, ◌+◌, ◌<◌, ◌≤◌, ◌⊎◌, ⊎_elim, inl, inr, false, eqb, List, [], ◌∷◌, Some, None, slice_get, get_or, length, map, AllPairs, IsPermutation, IsSortedBy, Contains, refl, sym, ap, ◌∙◌, subst, arith, add-zero, zero-add}
use Rattle.std.specs.List.{range_with_len, enumerate_from, IsDistinct, cons_option}
use Rattle.std.specs.Cmp.{IsTotalOrder}
use Rattle.std.specs.declared.cmp.Ordering.{Ordering}
use Rattle.std.specs.Ordering.{nat_cmp, ordering_then, is_lt}
use Rattle.std.proofs.lemmas.Bool.{eqb-false, ne_eqb}
use Rattle.std.proofs.lemmas.Bool.Decides.{nat_tests}
use Rattle.std.proofs.lemmas.Cmp.{nat_cmp_total, on_total, then_total, back_total}
use Rattle.std.proofs.lemmas.List.{get_or-map, length-map}
use Rattle.std.proofs.lemmas.List.Elements.{Contains-get_or}
use Rattle.std.proofs.lemmas.List.FromFn.{get_or-range_with_len, length-range_with_len, fill_by_all}
use Rattle.std.proofs.lemmas.List.Sorted.{sorted_far, ranks_by, length_permutation, Contains-permutation, IsPermutation-sym, IsPermutation-map, IsPermutation-refl}
use Rattle.std.proofs.lemmas.Map.Keys.{IsDistinct-from_apart, IsDistinct-IsPermutation, apart_from_distinct}
use Rattle.std.proofs.lemmas.Option.{slice_get-get_or, slice_get_cases}
use Rattle.erm_model.specs.declared.history.Commit.{Commit}
use Rattle.erm_model.specs.SerialOrder.{Rank, ComesBefore, IsSerialOrder, StampsDiffer, rank_of_commit}
use Rattle.erm_audit.specs.declared.order.Turn.{Turn}
use Rattle.erm_audit.specs.Order.{commits_at, HasTurnBefore}

-- the turn of a commit at a place
abbrev pub turn_from : ℕ × Commit → Turn
turn_from c = record { succ = c.1.succ; stamp = record { 0 = c.1.stamp }; place = c.0 }

-- the turns of commits from a place on
abbrev pub turns_from : ℕ → List Commit → List Turn
turns_from n commits = map turn_from (enumerate_from n commits)

-- turns ascend by successor stamp, then descend by commit stamp, then ascend by place
abbrev pub turn_cmp : Turn → Turn → Ordering
turn_cmp a b = ordering_then (nat_cmp a.succ b.succ) (ordering_then (nat_cmp b.stamp.0 a.stamp.0) (nat_cmp a.place b.place))

turns_total : IsTotalOrder turn_cmp
turns_total =
    then_total (on_total (λ t. t.succ) nat_cmp_total) (then_total (on_total (λ (t : Turn). t.stamp.0) (back_total nat_cmp_total)) (on_total (λ t. t.place) nat_cmp_total))

-- how a turn stands to one that is not before it
abbrev NotAfter : Turn → Turn → Type 0
NotAfter a b = (a.succ < b.succ) ⊎ ((a.succ ≡ b.succ) × (b.stamp.0 < a.stamp.0)) ⊎ ((a.succ ≡ b.succ) × (a.stamp.0 ≡ b.stamp.0) × (a.place ≤ b.place))

not_after : (a b : Turn) → is_lt (turn_cmp b a) ≡ false → NotAfter a b
not_after a b h = grind (arith, nat_tests)

-- a turn is that of the commit at its place
abbrev IsTurnOf : List Commit → Turn → Type 0
IsTurnOf commits t = (c : Commit) × (slice_get commits t.place ≡ Some c) × (t.succ ≡ c.succ) × (t.stamp.0 ≡ c.stamp)

turns_from-at : (n k : ℕ) (commits : List Commit) (c : Commit) (d : Turn) → slice_get commits k ≡ Some c → get_or (turns_from n commits) k d ≡ turn_from (n + k, c)
turns_from-at n k [] c d at = cc
turns_from-at n zero (b ∷ commits) c d at =
    let e : b ≡ c = cc in ap (λ v. turn_from (n, v)) e ∙ ap (λ m. turn_from (m, c)) (sym (add-zero n))
turns_from-at n (suc k) (b ∷ commits) c d at =
    turns_from-at (n + 1) k commits c d at ∙ ap (λ m. turn_from (m, c)) (omega arith)

length-turns_from : (n : ℕ) (commits : List Commit) → length (turns_from n commits) ≡ length commits
length-turns_from n [] = refl
length-turns_from n (c ∷ commits) = ap suc (length-turns_from (n + 1) commits)

abbrev pub place_of : Turn → ℕ
place_of t = t.place

-- the places of turns
pub places_from : (n : ℕ) (commits : List Commit) → map place_of (turns_from n commits) ≡ range_with_len n (length commits)
places_from n [] = refl
places_from n (c ∷ commits) = ap (λ l. n ∷ l) (places_from (n + 1) commits)

one_of_turns : (commits : List Commit) (t : Turn) → Contains (turns_from 0 commits) t → IsTurnOf commits t
one_of_turns commits t there =
    let k = there.0 in
    ⊎_elim
    (λ (found : (c : Commit) × (k < length commits) × (slice_get commits k ≡ Some c) × (get_or commits k c ≡ c)).
    let is : turn_from (k, found.0) ≡ t =
    ap (λ m. turn_from (m, found.0)) (sym (zero-add k)) ∙ sym (turns_from-at 0 k commits found.0 t found.2) ∙ there.2
    in
    subst (λ v. IsTurnOf commits v) is (found.0, found.2, refl, refl))
    (λ (past : (length commits ≤ k) × (slice_get commits k ≡ None)). absurd (omega (arith, there.1, past.0, length-turns_from 0 commits)))
    (slice_get_cases commits k).1

below_since : (i j : ℕ) → i ≤ j → (i ≡ j → ⊥) → i < j
below_since i j upto differ = omega (arith, upto, differ)

-- the order of two turns is that of their commits
turn_before : (a b : Commit) (i j : ℕ) (s t : Turn) → (s.succ ≡ a.succ) × (s.stamp.0 ≡ a.stamp) × (i ≡ s.place) → (t.succ ≡ b.succ) × (t.stamp.0 ≡ b.stamp) × (j ≡ t.place) → (i ≡ j → ⊥) → NotAfter s t → ComesBefore (rank_of_commit a) (rank_of_commit b) ⊎ ((rank_of_commit a ≡ rank_of_commit b) × (i < j))
turn_before a b i j s t first second differ order =
    ⊎_elim
    (λ (succ : s.succ < t.succ). inl (inl (omega (arith, first.0, second.0, succ))))
    (⊎_elim
    (λ (stamp : (s.succ ≡ t.succ) × (t.stamp.0 < s.stamp.0)).
    inl (inr (omega (arith, first.0, second.0, stamp.0), omega (arith, first.1, second.1, stamp.1))))
    (λ (tie : (s.succ ≡ t.succ) × (s.stamp.0 ≡ t.stamp.0) × (s.place ≤ t.place)).
    let succ : a.succ ≡ b.succ = omega (arith, first.0, second.0, tie.0) in
    let stamp : a.stamp ≡ b.stamp = omega (arith, first.1, second.1, tie.1) in
    let ranks : rank_of_commit a ≡ rank_of_commit b = cc in
    inr (ranks, below_since i j (omega (arith, first.2, second.2, tie.2)) differ)))
    order

-- places that are those of a range are different
places_differ : (n : ℕ) (places : List ℕ) → IsPermutation (range_with_len 0 n) places → (i j d : ℕ) → i < j → j < length places → get_or places i d ≡ get_or places j d → ⊥
places_differ n places same i j d before within equal =
    let differ : IsDistinct eqb (range_with_len 0 n) =
    IsDistinct-from_apart eqb (range_with_len 0 n)
    (λ k l e less inside.
    let low : l < n = omega (arith, length-range_with_len 0 n) in
    ne_eqb (get_or (range_with_len 0 n) k e) (get_or (range_with_len 0 n) l e)
    (λ one. omega (arith, one, get_or-range_with_len 0 n k e (omega arith), get_or-range_with_len 0 n l e low)))
    in
    let still : IsDistinct eqb places = IsDistinct-IsPermutation eqb (λ x y. grind (arith, nat_tests)) (range_with_len 0 n) places same differ in
    eqb-false (get_or places i d) (get_or places j d) (apart_from_distinct eqb places i j d still before within) equal

module _ (commits : List Commit) (sorted : List Turn) (same : IsPermutation (turns_from 0 commits) sorted) (ascends : IsSortedBy (λ a b. is_lt (turn_cmp a b)) sorted) where
  pub all_places : IsPermutation (range_with_len 0 (length commits)) (map place_of sorted)
  all_places =
      subst (λ l. IsPermutation l (map place_of sorted)) (places_from 0 commits) (IsPermutation-map place_of (turns_from 0 commits) sorted same)

  each_turn : (k : ℕ) (d : Turn) → k < length sorted → IsTurnOf commits (get_or sorted k d)
  each_turn k d within =
      one_of_turns commits (get_or sorted k d) (Contains-permutation sorted (turns_from 0 commits) (get_or sorted k d) (IsPermutation-sym (turns_from 0 commits) sorted same) (Contains-get_or sorted k d within))

  -- the turn at a place of a sorted list is that of the commit there
  stamps_at : (k d : ℕ) (z : Turn) (a : Commit) → k < length sorted → slice_get commits (get_or (map place_of sorted) k d) ≡ Some a → ((get_or sorted k z).succ ≡ a.succ) × ((get_or sorted k z).stamp.0 ≡ a.stamp) × (get_or (map place_of sorted) k d ≡ (get_or sorted k z).place)
  stamps_at k d z a within at =
      let turn = each_turn k z within in
      let place : get_or (map place_of sorted) k d ≡ (get_or sorted k z).place = get_or-map place_of sorted k z d within in
      let found : slice_get commits (get_or sorted k z).place ≡ Some turn.0 = turn.1 in
      let one : turn.0 ≡ a = cc in
      (turn.2 ∙ ap (λ (c : Commit). c.succ) one, turn.3 ∙ ap (λ (c : Commit). c.stamp) one, place)

  pub in_turn : AllPairs (HasTurnBefore commits) (map place_of sorted)
  in_turn i j d before within a b at_a at_b =
      let z : Turn = record { succ = 0; stamp = record { 0 = 0 }; place = 0 } in
      let inside : j < length sorted = omega (arith, length-map sorted place_of) in
      let first = stamps_at i d z a (omega arith) at_a in
      let second = stamps_at j d z b inside at_b in
      let differ = places_differ (length commits) (map place_of sorted) all_places i j d before within in
      let order = not_after (get_or sorted i z) (get_or sorted j z)
      (sorted_far (λ a b. is_lt (turn_cmp a b)) (ranks_by turns_total (λ t. t)) sorted ascends i j z (omega arith) inside)
      in
      turn_before a b (get_or (map place_of sorted) i d) (get_or (map place_of sorted) j d) (get_or sorted i z) (get_or sorted j z) first second differ order

empty_list : (xs : List ℕ) → length xs ≡ 0 → xs ≡ []
empty_list [] none = refl
empty_list (x ∷ xs) none = absurd (omega (arith, none))

-- the commits at places, all of which there are, are the commits in another order
at_places : (c : Commit) (cs : List Commit) (places : List ℕ) → ((k : ℕ) → k < length places → get_or places k 0 < length (c ∷ cs)) → commits_at (c ∷ cs) places ≡ map (λ k. get_or (c ∷ cs) k c) places
at_places c cs [] within = refl
at_places c cs (p ∷ places) within =
    let here : slice_get (c ∷ cs) p ≡ Some (get_or (c ∷ cs) p c) = slice_get-get_or (c ∷ cs) p c (within zero (omega arith)) in
    let there = at_places c cs places (λ k less. within (suc k) (omega arith)) in
    ap (λ o. cons_option o (commits_at (c ∷ cs) places)) here ∙ ap (λ l. get_or (c ∷ cs) p c ∷ l) there

places_within : (n : ℕ) (places : List ℕ) → IsPermutation (range_with_len 0 n) places → (k : ℕ) → k < length places → get_or places k 0 < n
places_within n places same k less =
    let there : Contains (range_with_len 0 n) (get_or places k 0) =
    Contains-permutation places (range_with_len 0 n) (get_or places k 0) (IsPermutation-sym (range_with_len 0 n) places same) (Contains-get_or places k 0 less)
    in
    let low : there.0 < n = omega (arith, there.1, length-range_with_len 0 n) in
    omega (arith, there.2, low, get_or-range_with_len 0 n there.0 (get_or places k 0) low)

-- where the commits' stamps differ, places that are in turn have the commits in the serial order
order_of_places : (commits : List Commit) (places : List ℕ) → IsPermutation (range_with_len 0 (length commits)) places → AllPairs (HasTurnBefore commits) places → StampsDiffer rank_of_commit commits → IsSerialOrder rank_of_commit commits (commits_at commits places)
order_of_places [] places same turns differ =
    let none : length places ≡ 0 = length_permutation [] places same in
    let e : places ≡ [] = empty_list places none in
    subst (λ l. IsSerialOrder rank_of_commit [] (commits_at [] l)) (sym e) (record {
      same = IsPermutation-refl [];
      ascends = λ i j d before within. absurd (omega (arith, within));
    })
order_of_places (c ∷ cs) places same turns differ =
    let n = length (c ∷ cs) in
    let at : ℕ → Commit = λ k. get_or (c ∷ cs) k c in
    let is : commits_at (c ∷ cs) places ≡ map at places = at_places c cs places (places_within n places same) in
    let whole : (c ∷ cs) ≡ map at (range_with_len 0 n) = fill_by_all at (c ∷ cs) n c refl (λ k less. refl) in
    subst (λ l. IsSerialOrder rank_of_commit (c ∷ cs) l) (sym is) (record {
      same = subst (λ l. IsPermutation l (map at places)) (sym whole) (IsPermutation-map at (range_with_len 0 n) places same);
      ascends = λ i j d before within.
          let inside : j < length places = omega (arith, within, length-map places at) in
          let first : get_or (map at places) i d ≡ at (get_or places i 0) = get_or-map at places i 0 d (omega arith) in
          let second : get_or (map at places) j d ≡ at (get_or places j 0) = get_or-map at places j 0 d inside in
          let found_i = slice_get-get_or (c ∷ cs) (get_or places i 0) c (places_within n places same i (omega arith)) in
          let found_j = slice_get-get_or (c ∷ cs) (get_or places j 0) c (places_within n places same j inside) in
          subst (λ v. ComesBefore (rank_of_commit v) (rank_of_commit (get_or (map at places) j d))) (sym first)
          (subst (λ v. ComesBefore (rank_of_commit (at (get_or places i 0))) (rank_of_commit v)) (sym second)
          (⊎_elim
          (λ (less : ComesBefore (rank_of_commit (at (get_or places i 0))) (rank_of_commit (at (get_or places j 0)))). less)
          (λ (tie : (rank_of_commit (at (get_or places i 0)) ≡ rank_of_commit (at (get_or places j 0))) × (get_or places i 0 < get_or places j 0)).
          absurd (omega (arith, tie.1, differ (get_or places i 0) (get_or places j 0) (at (get_or places i 0)) (at (get_or places j 0)) found_i found_j (ap (λ (r : Rank). r.stamp) tie.0))))
          (turns i j 0 before inside (at (get_or places i 0)) (at (get_or places j 0)) found_i found_j)));
    })

module _ (commits : List Commit) (sorted : List Turn) (same : IsPermutation (turns_from 0 commits) sorted) (ascends : IsSortedBy (λ a b. is_lt (turn_cmp a b)) sorted) where
  pub in_order : StampsDiffer rank_of_commit commits → IsSerialOrder rank_of_commit commits (commits_at commits (map place_of sorted))
  in_order = order_of_places commits (map place_of sorted) (all_places commits sorted same ascends) (in_turn commits sorted same ascends)
