-- Safe snapshots run among the commits.
use Rattle.std.proofs.Common.{◌≡◌, ℕ, ◌<◌, ◌≤◌, ⊎_elim, Bool, true, false, nat_lt, List, [], ◌∷◌, ◌++◌, filter, map, refl, sym, ap, ◌∙◌, subst, arith}
use Rattle.std.proofs.lemmas.Bool.{cases_Bool, cases_lt, cond-false, cond-true, lt-ltb, ltb-false, ltb-true}
use Rattle.std.proofs.lemmas.List.Sorted.{IsPermutation-sym}
use Rattle.erm_model.specs.declared.operation.Op.{Op}
use Rattle.erm_model.specs.declared.operation.Op.TheVariants.{Get, Put, Del, Next, Scan, Save, Back}
use Rattle.erm_model.specs.Committed.{Committed, RunsInOrder, below, rank_of, state_after}
use Rattle.erm_model.specs.Database.{Database}
use Rattle.erm_model.specs.Member.{◌∈◌}
use Rattle.erm_model.specs.Run.{AreOnMap, IsOnMap, RunsAll, RunsOne, Step, after_all, change, change_all, ops_of}
use Rattle.erm_model.specs.SerialOrder.{ComesBefore, IsSerialOrder}
use Rattle.erm_model.proofs.OnMap.{after_all_plainly}
use Rattle.erm_model.proofs.Members.{none_in_nil}
use Rattle.erm_machine.proofs.Listed.{∈-cons, ∈-either, ∈-filter, ∈-filter_from, ∈-first, ∈-head, ∈-second}
use Rattle.erm_core_ssn.proofs.Members.{∈-permutation}
use Rattle.erm_core_ssn.proofs.OneOrder.{Ascends-once}
use Rattle.erm_core_ssn.proofs.Orders.{Ascends, Ascends-from_AllPairs}
use Rattle.erm_safe_laws.specs.Safe.{AreCommits, AreReadings, IsReading, IsSafeSnapshot}
use Rattle.erm_safe_laws.proofs.Between.{ascends_front}

-- readings are on the map alone
reading_on_map : (op : Op) → IsReading op → IsOnMap op
reading_on_map (Get table key) r = tt
reading_on_map (Next table from) r = tt
reading_on_map (Scan table low high) r = tt
reading_on_map (Put table key value) r = absurd r
reading_on_map (Del table key) r = absurd r
reading_on_map Save r = absurd r
reading_on_map (Back n) r = absurd r

pub readings_on_map : (steps : List Step) → AreReadings steps → AreOnMap steps
readings_on_map [] all = tt
readings_on_map (step ∷ steps) all = (reading_on_map step.op all.0, readings_on_map steps all.1)

-- and leave it
reading_leaves : (op : Op) (m : Database) → IsReading op → change op m ≡ m
reading_leaves (Get table key) m r = refl
reading_leaves (Next table from) m r = refl
reading_leaves (Scan table low high) m r = refl
reading_leaves (Put table key value) m r = absurd r
reading_leaves (Del table key) m r = absurd r
reading_leaves Save m r = absurd r
reading_leaves (Back n) m r = absurd r

pub readings_change : (steps : List Step) (m : Database) → AreReadings steps → change_all (ops_of steps) m ≡ m
readings_change [] m all = refl
readings_change (step ∷ steps) m all = ap (λ (n : Database). change_all (ops_of steps) n) (reading_leaves step.op m all.0) ∙ readings_change steps m all.1

pub readings_leave : (steps : List Step) (m : Database) → AreReadings steps → after_all (ops_of steps) m ≡ m
readings_leave steps m all = after_all_plainly steps m (readings_on_map steps all) ∙ readings_change steps m all

-- what a filter leaves of what ascends ascends
ascends_filter : (p : Committed → Bool) (xs : List Committed) → Ascends rank_of xs → Ascends rank_of (filter p xs)
ascends_filter p [] all = tt
ascends_filter p (x ∷ xs) all =
    let rest = ascends_filter p xs all.1 in
    ⊎_elim
    (λ (kept : p x ≡ true).
    subst (Ascends rank_of) (sym (cond-true (p x) (x ∷ filter p xs) (filter p xs) kept)) ((λ y m. all.0 y (∈-filter p y xs m).0), rest))
    (λ (left : p x ≡ false). subst (Ascends rank_of) (sym (cond-false (p x) (x ∷ filter p xs) (filter p xs) left)) rest)
    (cases_Bool (p x))

-- one more behind
filter_push : (p : Committed → Bool) (xs : List Committed) (x : Committed) → p x ≡ true → filter p (xs ++ x ∷ []) ≡ filter p xs ++ x ∷ []
filter_push p [] x kept = cond-true (p x) (x ∷ []) [] kept
filter_push p (y ∷ ys) x kept =
    let rest = filter_push p ys x kept in
    ⊎_elim
    (λ (yes : p y ≡ true).
    cond-true (p y) (y ∷ filter p (ys ++ x ∷ [])) (filter p (ys ++ x ∷ [])) yes ∙ ap (λ (l : List Committed). y ∷ l) rest
    ∙ ap (λ (l : List Committed). l ++ x ∷ []) (sym (cond-true (p y) (y ∷ filter p ys) (filter p ys) yes)))
    (λ (no_y : p y ≡ false).
    cond-false (p y) (y ∷ filter p (ys ++ x ∷ [])) (filter p (ys ++ x ∷ [])) no_y ∙ rest ∙ ap (λ (l : List Committed). l ++ x ∷ []) (sym (cond-false (p y) (y ∷ filter p ys) (filter p ys) no_y)))
    (cases_Bool (p y))

filter_pass : (p : Committed → Bool) (xs : List Committed) (x : Committed) → p x ≡ false → filter p (xs ++ x ∷ []) ≡ filter p xs
filter_pass p [] x left = cond-false (p x) (x ∷ []) [] left
filter_pass p (y ∷ ys) x left =
    let rest = filter_pass p ys x left in
    ⊎_elim
    (λ (yes : p y ≡ true).
    cond-true (p y) (y ∷ filter p (ys ++ x ∷ [])) (filter p (ys ++ x ∷ [])) yes ∙ ap (λ (l : List Committed). y ∷ l) rest ∙ sym (cond-true (p y) (y ∷ filter p ys) (filter p ys) yes))
    (λ (no_y : p y ≡ false).
    cond-false (p y) (y ∷ filter p (ys ++ x ∷ [])) (filter p (ys ++ x ∷ [])) no_y ∙ rest ∙ sym (cond-false (p y) (y ∷ filter p ys) (filter p ys) no_y))
    (cases_Bool (p y))

state_push : (xs : List Committed) (x : Committed) (m : Database) → state_after (xs ++ x ∷ []) m ≡ after_all (ops_of x.steps) (state_after xs m)
state_push [] x m = refl
state_push (y ∷ ys) x m = state_push ys x (after_all (ops_of y.steps) m)

-- one more element of the front
shift : (xs : List Committed) (x : Committed) (ys : List Committed) → xs ++ (x ∷ ys) ≡ (xs ++ x ∷ []) ++ ys
shift [] x ys = refl
shift (y ∷ xs) x ys = ap (λ (l : List Committed). y ∷ l) (shift xs x ys)

-- a commit before a snapshot, and one behind it
before_snapshot : (c s : Committed) (limit : ℕ) → ComesBefore (rank_of c) (rank_of s) → c.stamp < limit → limit ≤ s.stamp → s.succ ≡ s.begin → c.succ < s.begin
before_snapshot c s limit before low high placed = grind arith

behind_snapshot : (c s : Committed) → ComesBefore (rank_of s) (rank_of c) → s.succ ≡ s.begin → s.begin ≤ c.succ
behind_snapshot c s before placed = grind arith

-- of a list that ascends the first elements come before the later ones
pub parted : (xs ys : List Committed) → Ascends rank_of (xs ++ ys) → (x y : Committed) → x ∈ xs → y ∈ ys → ComesBefore (rank_of x) (rank_of y)
parted [] ys all x y m n = absurd (none_in_nil x m)
parted (z ∷ xs) ys all x y m n =
    ⊎_elim (λ (e : z ≡ x). subst (λ (v : Committed). ComesBefore (rank_of v) (rank_of y)) e (all.0 y (∈-second xs ys y n))) (λ (k : x ∈ xs). parted xs ys all.1 x y k n) (∈-cons x z xs m)

module _ (commits safes order : List Committed) (opening : Database) (limit : ℕ) (are : AreCommits commits limit) (safe : (s : Committed) → s ∈ safes → IsSafeSnapshot commits opening limit s)
    (all : IsSerialOrder rank_of (commits ++ safes) order) where
  abbrev is_commit : Committed → Bool
  is_commit c = nat_lt c.stamp limit

  ascends : Ascends rank_of order
  ascends = Ascends-from_AllPairs rank_of order all.ascends

  -- whoever stands in the order is a commit or a snapshot, by the stamp
  of_order : (x : Committed) → x ∈ order → x ∈ (commits ++ safes)
  of_order x m = ∈-permutation x order (commits ++ safes) (IsPermutation-sym (commits ++ safes) order all.same) m

  commit_by : (x : Committed) → x ∈ order → is_commit x ≡ true → x ∈ commits
  commit_by x m low =
      ⊎_elim (λ (c : x ∈ commits). c)
      (λ (s : x ∈ safes). let up = (safe x s).above in let less = ltb-true x.stamp limit low in absurd (omega (arith, up, less)))
      (∈-either commits safes x (of_order x m))

  snapshot_by : (x : Committed) → x ∈ order → is_commit x ≡ false → x ∈ safes
  snapshot_by x m high =
      ⊎_elim
      (λ (c : x ∈ commits). let less = are.below x c in let up = ltb-false x.stamp limit high in absurd (omega (arith, up, less)))
      (λ (s : x ∈ safes). s)
      (∈-either commits safes x (of_order x m))

  commit_stands : (x : Committed) → x ∈ commits → (x ∈ order) × (is_commit x ≡ true)
  commit_stands x m = (∈-permutation x (commits ++ safes) order all.same (∈-first commits safes x m), lt-ltb x.stamp limit (are.below x m))

  -- the commits among all are the commits' own order
  pub own_order : (serial : List Committed) → IsSerialOrder rank_of commits serial → filter (λ x. nat_lt x.stamp limit) order ≡ serial
  own_order serial own =
      Ascends-once rank_of (filter is_commit order) serial (ascends_filter is_commit order ascends) (Ascends-from_AllPairs rank_of serial own.ascends)
      (λ x m. let there = ∈-filter is_commit x order m in ∈-permutation x commits serial own.same (commit_by x there.0 there.1))
      (λ x m.
      let there = commit_stands x (∈-permutation x serial commits (IsPermutation-sym commits serial own.same) m) in
      ∈-filter_from is_commit x order there.0 there.1)

  -- at a snapshot's place the commits before it are those below its begin stamp
  module _ (front : List Committed) (s : Committed) (rest : List Committed) (whole : order ≡ front ++ (s ∷ rest)) (is_safe : IsSafeSnapshot commits opening limit s) where
    parts : Ascends rank_of (front ++ (s ∷ rest))
    parts = subst (Ascends rank_of) whole ascends

    front_in : (x : Committed) → x ∈ front → x ∈ order
    front_in x m = subst (λ (l : List Committed). x ∈ l) (sym whole) (∈-first front (s ∷ rest) x m)

    front_below : (x : Committed) → x ∈ filter is_commit front → x ∈ below s.begin commits
    front_below x m =
        let there = ∈-filter is_commit x front m in
        let c = commit_by x (front_in x there.0) there.1 in
        let less = before_snapshot x s limit (parted front (s ∷ rest) parts x s there.0 (∈-head s rest)) (are.below x c) is_safe.above is_safe.placed in
        ∈-filter_from (λ y. nat_lt (rank_of y).stamp s.begin) x commits c
        (lt-ltb x.stamp s.begin
        (⊎_elim (λ (low : x.stamp < s.begin). low) (λ (up : s.begin ≤ x.stamp). let late = is_safe.safe x c up in absurd (omega (arith, late, less))) (cases_lt x.stamp s.begin)))

    below_front : (x : Committed) → x ∈ below s.begin commits → x ∈ filter is_commit front
    below_front x m =
        let there = ∈-filter (λ y. nat_lt (rank_of y).stamp s.begin) x commits m in
        let low = ltb-true x.stamp s.begin there.1 in
        let most = are.succ x there.0 in
        let in_all = commit_stands x there.0 in
        let high = is_safe.above in
        let own = are.below x there.0 in
        ⊎_elim
        (λ (k : x ∈ front). ∈-filter_from is_commit x front k in_all.1)
        (λ (k : x ∈ (s ∷ rest)).
        ⊎_elim
        (λ (e : s ≡ x). let same = ap (λ (v : Committed). v.stamp) e in absurd (omega (arith, same, high, own)))
        (λ (later : x ∈ rest).
        let up = behind_snapshot x s ((after_front front parts).0 x later) is_safe.placed in
        absurd (omega (arith, up, low, most)))
        (∈-cons x s rest k))
        (∈-either front (s ∷ rest) x (subst (λ (l : List Committed). x ∈ l) whole in_all.0))
      where
        after_front : (xs : List Committed) → Ascends rank_of (xs ++ (s ∷ rest)) → Ascends rank_of (s ∷ rest)
        after_front [] a = a
        after_front (y ∷ ys) a = after_front ys a.1

    -- so the map there is the snapshot
    snapshot_here : is_safe.replies.snapshot ≡ state_after (filter is_commit front) opening
    snapshot_here =
        let state = is_safe.replies.below_begin in
        state.state
        ∙ ap (λ (l : List Committed). state_after l opening)
        (Ascends-once rank_of state.order (filter is_commit front) (Ascends-from_AllPairs rank_of state.order state.serial.ascends)
        (ascends_filter is_commit front (ascends_front rank_of front (s ∷ rest) parts))
        (λ x m. below_front x (∈-permutation x state.order (below s.begin commits) (IsPermutation-sym (below s.begin commits) state.order state.serial.same) m))
        (λ x m. ∈-permutation x (below s.begin commits) state.order state.serial.same (front_below x m)))

    pub runs_here : RunsOne (state_after (filter is_commit front) opening) s.steps
    runs_here = subst (λ (m : Database). RunsOne m s.steps) snapshot_here is_safe.replies.replies

  -- from a place of the order on
  runs_from : (m : Database) (rest front : List Committed) → order ≡ front ++ rest → RunsAll (state_after (filter is_commit front) opening) (map (λ c. c.steps) (filter is_commit rest)) m →
      RunsAll (state_after (filter is_commit front) opening) (map (λ c. c.steps) rest) m
  runs_from m [] front whole run = run
  runs_from m (x ∷ rest) front whole run =
      let there : x ∈ order = subst (λ (l : List Committed). x ∈ l) (sym whole) (∈-second front (x ∷ rest) x (∈-head x rest)) in
      let next = whole ∙ shift front x rest in
      let here = state_after (filter is_commit front) opening in
      ⊎_elim
      (λ (c : is_commit x ≡ true).
      let both : RunsAll here (x.steps ∷ map (λ y. y.steps) (filter is_commit rest)) m =
      subst (λ (l : List Committed). RunsAll here (map (λ y. y.steps) l) m) (cond-true (is_commit x) (x ∷ filter is_commit rest) (filter is_commit rest) c) run
      in
      let after_x : state_after (filter is_commit (front ++ x ∷ [])) opening ≡ after_all (ops_of x.steps) here = ap (λ (l : List Committed). state_after l opening) (filter_push is_commit front x c) ∙ state_push (filter is_commit front) x opening in (
        both.0,
        subst (λ (n : Database). RunsAll n (map (λ y. y.steps) rest) m) after_x
            (runs_from m rest (front ++ x ∷ []) next (subst (λ (n : Database). RunsAll n (map (λ y. y.steps) (filter is_commit rest)) m) (sym after_x) both.1)),
      ))
      (λ (s : is_commit x ≡ false).
      let is_safe = safe x (snapshot_by x there s) in
      let rest_run : RunsAll here (map (λ y. y.steps) (filter is_commit rest)) m =
      subst (λ (l : List Committed). RunsAll here (map (λ y. y.steps) l) m) (cond-false (is_commit x) (x ∷ filter is_commit rest) (filter is_commit rest) s) run
      in
      let after_x : state_after (filter is_commit (front ++ x ∷ [])) opening ≡ here = ap (λ (l : List Committed). state_after l opening) (filter_pass is_commit front x s) in (
        runs_here front x rest whole is_safe,
        subst (λ (n : Database). RunsAll n (map (λ y. y.steps) rest) m) (after_x ∙ sym (readings_leave x.steps here is_safe.reads))
            (runs_from m rest (front ++ x ∷ []) next (subst (λ (n : Database). RunsAll n (map (λ y. y.steps) (filter is_commit rest)) m) (sym after_x) rest_run)),
      ))
      (cases_Bool (is_commit x))

  pub runs_among : (serial : List Committed) (m : Database) → IsSerialOrder rank_of commits serial → RunsInOrder serial opening m → RunsInOrder order opening m
  runs_among serial m own runs = record {
    run = runs_from m order [] refl (subst (λ (l : List Committed). RunsAll opening (map (λ c. c.steps) l) m) (sym (own_order serial own)) runs.run);
  }
