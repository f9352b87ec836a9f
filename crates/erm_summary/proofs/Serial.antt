-- Commits at places that are in the serial order.
use Rattle.std.proofs.Common.{◌≡◌, ℕ, zero, suc, ◌<◌, List, [], ◌∷◌, Option, Some, None, Result, Ok, Err, IfOk, slice_get, get_or, length, map, AllPairs, IsPermutation, Contains, refl, sym, ap, ◌∙◌, subst, arith}
use Rattle.std.specs.List.{range_with_len, cons_option}
use Rattle.std.specs.Option.{option_map}
use Rattle.std.proofs.lemmas.List.{get_or-map, length-map}
use Rattle.std.proofs.lemmas.List.Elements.{Contains-get_or}
use Rattle.std.proofs.lemmas.List.FromFn.{get_or-range_with_len, length-range_with_len, fill_by_all}
use Rattle.std.proofs.lemmas.List.Sorted.{length_permutation, Contains-permutation, IsPermutation-sym, IsPermutation-map, IsPermutation-refl}
use Rattle.std.proofs.lemmas.Option.{slice_get-get_or, slice_get-map}
use Rattle.erm_model.specs.Committed.{Committed, rank_of}
use Rattle.erm_model.specs.SerialOrder.{ComesBefore, IsSerialOrder, StampsDiffer, rank_of_commit}
use Rattle.erm_model.specs.declared.history.Commit.{Commit}
use Rattle.erm_report.specs.declared.answer.Answer.{Answer}
use Rattle.erm_script.specs.declared.script.ScriptLine.{ScriptLine}
use Rattle.erm_summary.specs.declared.told.ToldCommit.{ToldCommit}
use Rattle.erm_summary.specs.Told.{committed_as_told, history_told}
use Rattle.erm_summary.specs.Summary.{at_places, commit_named}

-- those at places of what a function gives
one_mapped : {X Y : Type 0} (f : X → Y) (o : Option X) (q : Option Y) (xs : List X) (ys : List Y) → q ≡ option_map f o → ys ≡ map f xs → cons_option q ys ≡ map f (cons_option o xs)
one_mapped f None q xs ys first rest = ap (λ v. cons_option v ys) first ∙ rest
one_mapped f (Some x) q xs ys first rest = ap (λ v. cons_option v ys) first ∙ ap (λ l. f x ∷ l) rest

pub at_places-map : {X Y : Type 0} (f : X → Y) (xs : List X) (places : List ℕ) → at_places (map f xs) places ≡ map f (at_places xs places)
at_places-map f xs [] = refl
at_places-map f xs (p ∷ places) =
    one_mapped f (slice_get xs p) (slice_get (map f xs) p) (at_places xs places) (at_places (map f xs) places) (slice_get-map f xs p) (at_places-map f xs places)

-- those at all places, in any order, are a permutation
empty_list : (xs : List ℕ) → length xs ≡ 0 → xs ≡ []
empty_list [] none = refl
empty_list (x ∷ xs) none = absurd (omega (arith, none))

places_within : (n : ℕ) (places : List ℕ) → IsPermutation (range_with_len 0 n) places → (k : ℕ) → k < length places → get_or places k 0 < n
places_within n places same k less =
    let there : Contains (range_with_len 0 n) (get_or places k 0) =
    Contains-permutation places (range_with_len 0 n) (get_or places k 0) (IsPermutation-sym (range_with_len 0 n) places same) (Contains-get_or places k 0 less)
    in
    let low : there.0 < n = omega (arith, there.1, length-range_with_len 0 n) in
    omega (arith, there.2, low, get_or-range_with_len 0 n there.0 (get_or places k 0) low)

each_there : {X : Type 0} (c : X) (cs : List X) (places : List ℕ) → ((k : ℕ) → k < length places → get_or places k 0 < length (c ∷ cs)) → at_places (c ∷ cs) places ≡ map (λ k. get_or (c ∷ cs) k c) places
each_there c cs [] within = refl
each_there c cs (p ∷ places) within =
    let here : slice_get (c ∷ cs) p ≡ Some (get_or (c ∷ cs) p c) = slice_get-get_or (c ∷ cs) p c (within zero (omega arith)) in
    let there = each_there c cs places (λ k less. within (suc k) (omega arith)) in
    ap (λ o. cons_option o (at_places (c ∷ cs) places)) here ∙ ap (λ l. get_or (c ∷ cs) p c ∷ l) there

pub all_there : {X : Type 0} (xs : List X) (places : List ℕ) → IsPermutation (range_with_len 0 (length xs)) places → IsPermutation xs (at_places xs places)
all_there {X} [] places same =
    let e : places ≡ [] = empty_list places (length_permutation [] places same) in
    let P : List ℕ → Type 0 = λ l. IsPermutation {X = X} [] (at_places [] l) in
    subst P (sym e) (IsPermutation-refl [])
all_there {X} (c ∷ cs) places same =
    let at : ℕ → X = λ k. get_or (c ∷ cs) k c in
    let is : at_places (c ∷ cs) places ≡ map at places = each_there c cs places (places_within (length (c ∷ cs)) places same) in
    let whole : (c ∷ cs) ≡ map at (range_with_len 0 (length (c ∷ cs))) = fill_by_all at (c ∷ cs) (length (c ∷ cs)) c refl (λ k less. refl) in
    subst (IsPermutation (c ∷ cs)) (sym is) (subst (λ l. IsPermutation l (map at places)) (sym whole) (IsPermutation-map at (range_with_len 0 (length (c ∷ cs))) places same))

-- what is so of each two of a list, of what a function gives of it
pairs_before : {X Y : Type 0} (f : X → Y) (R : Y → Y → Type 0) (xs : List X) → AllPairs R (map f xs) → AllPairs (λ a b. R (f a) (f b)) xs
pairs_before f R xs all i j d less within =
    let inside : j < length (map f xs) = omega (arith, within, length-map xs f) in
    subst (λ a. R a (f (get_or xs j d))) (get_or-map f xs i d (f d) (omega (arith, less, within)))
    (subst (R (get_or (map f xs) i (f d))) (get_or-map f xs j d (f d) within) (all i j (f d) less inside))

pairs_behind : {X Y : Type 0} (f : X → Y) (R : Y → Y → Type 0) (xs : List X) → AllPairs (λ a b. R (f a) (f b)) xs → AllPairs R (map f xs)
pairs_behind f R [] all i j d less within = absurd (omega (arith, within))
pairs_behind f R (x ∷ xs) all i j d less within =
    let inside : j < length (x ∷ xs) = omega (arith, within, length-map (x ∷ xs) f) in
    subst (λ a. R a (get_or (map f (x ∷ xs)) j d)) (sym (get_or-map f (x ∷ xs) i x d (omega (arith, less, inside))))
    (subst (R (f (get_or (x ∷ xs) i x))) (sym (get_or-map f (x ∷ xs) j x d inside)) (all i j x less inside))

came_from : {X Y : Type 0} (f : X → Y) (xs : List X) (i : ℕ) (y : Y) → slice_get (map f xs) i ≡ Some y → (x : X) × (slice_get xs i ≡ Some x) × (f x ≡ y)
came_from f [] i y at = cc
came_from f (x ∷ xs) zero y at = (x, refl, cc)
came_from f (x ∷ xs) (suc i) y at = came_from f xs i y at

module _ (script : List ScriptLine) (answers : List Answer) (commits : List ToldCommit) where
  stamps_of_names : StampsDiffer rank_of (history_told script answers commits) → StampsDiffer rank_of_commit (map commit_named commits)
  stamps_of_names differ i j a b at_i at_j same =
      let x = came_from commit_named commits i a at_i in
      let y = came_from commit_named commits j b at_j in
      let told = committed_as_told script answers in
      let stamps : x.0.stamp ≡ y.0.stamp = ap (λ (c : Commit). c.stamp) x.2 ∙ same ∙ sym (ap (λ (c : Commit). c.stamp) y.2) in
      differ i j (told x.0) (told y.0) (slice_get-map told commits i ∙ ap (option_map told) x.1) (slice_get-map told commits j ∙ ap (option_map told) y.1) stamps

  -- Places that are those of all commits, in the serial order of their names, are in that of the history.
  pub serial_of_names : (places : List ℕ) → IsPermutation (range_with_len 0 (length (map commit_named commits))) places
      → (StampsDiffer rank_of_commit (map commit_named commits) → IsSerialOrder rank_of_commit (map commit_named commits) (at_places (map commit_named commits) places))
      → StampsDiffer rank_of (history_told script answers commits) → IsSerialOrder rank_of (history_told script answers commits) (at_places (history_told script answers commits) places)
  serial_of_names places all serial differ =
      let told : ToldCommit → Committed = committed_as_told script answers in
      let named = serial (stamps_of_names differ) in
      let picked = at_places commits places in
      let same : IsPermutation commits picked = all_there commits places (subst (λ n. IsPermutation (range_with_len 0 n) places) (length-map commits commit_named) all) in
      let order = subst (AllPairs (λ a b. ComesBefore (rank_of_commit a) (rank_of_commit b))) (at_places-map commit_named commits places) named.ascends in
      let before = pairs_before commit_named (λ a b. ComesBefore (rank_of_commit a) (rank_of_commit b)) picked order in
      subst (IsSerialOrder rank_of (history_told script answers commits)) (sym (at_places-map told commits places))
      (record {
        same = IsPermutation-map told commits picked same;
        ascends = pairs_behind told (λ a b. ComesBefore (rank_of a) (rank_of b)) picked before;
      })

-- what is so of a value by two facts of it
pub both_facts : {X E : Type 0} (r : Result X E) (P Q R : X → Type 0) → ((x : X) → P x → Q x → R x) → IfOk r P → IfOk r Q → IfOk r R
both_facts (Ok x) P Q R f p q = f x p q
both_facts (Err e) P Q R f p q = tt
