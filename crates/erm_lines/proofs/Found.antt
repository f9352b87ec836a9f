-- What looks for the next key find one after another, on a database map.
use Rattle.std.proofs.Common.{◌≡◌, ℕ, zero, suc, ◌+◌, ◌-◌, ◌^◌, ◌<◌, ◌≤◌, max, List, [], ◌∷◌, ◌++◌, Option, Some, None, refl, sym, ap, ◌∙◌, subst, inl, inr, arith}
use Rattle.std.specs.List.{All, AllPairs}
use Rattle.std.proofs.lemmas.Bool.{cases_eq, cases_lt}
use Rattle.std.proofs.lemmas.List.Elements.{All-head, All-push, All-tail, All-weaker}
use Rattle.std.proofs.lemmas.List.Kept.{AllPairs-cons}
use Rattle.erm_model.specs.Database.{AreFound, Database, IsNextAt, value_at}
use Rattle.erm_model.specs.Member.{◌∈◌}
use Rattle.erm_tree.specs.Walk.{last_sought}

none_is_some : {X : Type 0} {x : X} → let none : Option X = None in none ≡ Some x → ⊥
none_is_some e = cc

-- the keys of the table from low on, below this one, that have a value, each once and ascending, with their values
pub record AreFoundBelow (m : Database) (table low to : ℕ) (found : List (ℕ × List ℕ)) : Type 0 where
  pub ascend : AllPairs (λ a b. a.0 < b.0) found
  pub within : All (λ pair. (low ≤ pair.0) × (pair.0 < to) × (pair.0 < 2 ^ 64) × (value_at m table pair.0 ≡ Some pair.1)) found
  pub all : (key : ℕ) (value : List ℕ) → low ≤ key → key < to → key < 2 ^ 64 → value_at m table key ≡ Some value → (key, value) ∈ found

-- one more behind all others
abbrev Below : ℕ × List ℕ → ℕ × List ℕ → Type 0
Below a b = a.0 < b.0

ascend_more : (found : List (ℕ × List ℕ)) (pair : ℕ × List ℕ) → AllPairs Below found → All (λ a. Below a pair) found → AllPairs Below (found ++ pair ∷ [])
ascend_more [] pair ascend below = AllPairs-cons Below pair [] (λ k d inside. absurd (omega arith)) (λ i j d less inside. absurd (omega arith))
ascend_more (p ∷ found) pair ascend below =
    AllPairs-cons Below p (found ++ pair ∷ [])
    (All-push (Below p) found pair (λ k d inside. ascend zero (suc k) d (omega arith) (omega arith)) (All-head (λ a. Below a pair) p found below))
    (ascend_more found pair (λ i j d less inside. ascend (suc i) (suc j) d (omega arith) (omega arith)) (All-tail (λ a. Below a pair) p found below))

∈-still : (xs : List (ℕ × List ℕ)) (y x : ℕ × List ℕ) → x ∈ xs → x ∈ (xs ++ y ∷ [])
∈-still [] y x (k, is) = cc
∈-still (z ∷ xs) y x (zero, is) = (zero, is)
∈-still (z ∷ xs) y x (suc k, is) = let later = ∈-still xs y x (k, is) in (suc later.0, later.1)

∈-last : (xs : List (ℕ × List ℕ)) (y : ℕ × List ℕ) → y ∈ (xs ++ y ∷ [])
∈-last [] y = (zero, refl)
∈-last (z ∷ xs) y = let later = ∈-last xs y in (suc later.0, later.1)

-- none at first
pub found_none : (m : Database) (table low to : ℕ) → to ≤ low → AreFoundBelow m table low to []
found_none m table low to none = record {
  ascend = λ i j d less inside. absurd (omega arith);
  within = λ k d inside. absurd (omega arith);
  all = λ key value above below few is. absurd (omega arith);
}

same_pair : (a b : ℕ) (x y : List ℕ) → a ≡ b → x ≡ y → let pair : ℕ × List ℕ = (a, x) in pair ≡ (b, y)
same_pair a b x y first second = cc

one_pair : (m : Database) (table key : ℕ) (value : List ℕ) (pair : ℕ × List ℕ) → key ≡ pair.0 → value_at m table key ≡ Some value → value_at m table pair.0 ≡ Some pair.1 → pair ≡ (key, value)
one_pair m table key value pair same is found =
    let values : value ≡ pair.1 = cc in
    same_pair pair.0 key pair.1 value (sym same) (sym values)

-- one more, which is next
pub found_more : (m : Database) (table low from : ℕ) (found : List (ℕ × List ℕ)) (pair : ℕ × List ℕ) → low ≤ from → AreFoundBelow m table low from found → IsNextAt m table from (Some pair)
    → AreFoundBelow m table low (pair.0 + 1) (found ++ pair ∷ [])
found_more m table low from found pair above before next =
    let up = next.0 in record {
      ascend = ascend_more found pair before.ascend
          (All-weaker (λ a. (low ≤ a.0) × (a.0 < from) × (a.0 < 2 ^ 64) × (value_at m table a.0 ≡ Some a.1)) (λ a. a.0 < pair.0) (λ a is. let under = is.1 in omega arith) found before.within);
      within = All-push (λ a. (low ≤ a.0) × (a.0 < pair.0 + 1) × (a.0 < 2 ^ 64) × (value_at m table a.0 ≡ Some a.1)) found pair
          (All-weaker (λ a. (low ≤ a.0) × (a.0 < from) × (a.0 < 2 ^ 64) × (value_at m table a.0 ≡ Some a.1)) (λ a. (low ≤ a.0) × (a.0 < pair.0 + 1) × (a.0 < 2 ^ 64) × (value_at m table a.0 ≡ Some a.1))
          (λ a is. let under = is.1 in (is.0, omega arith, is.2, is.3)) found before.within)
          (omega arith, omega arith, next.1, next.2);
      all = λ key value over under few is. elim (cases_lt key from) as (λ _. (key, value) ∈ (found ++ pair ∷ [])) [
        | inl less ↦ ∈-still found pair (key, value) (before.all key value over less few is)
        | inr more ↦ elim (cases_eq key pair.0) as (λ _. (key, value) ∈ (found ++ pair ∷ [])) [
          | inl same ↦ subst (λ (x : ℕ × List ℕ). x ∈ (found ++ pair ∷ [])) (one_pair m table key value pair same is next.2) (∈-last found pair)
          | inr other ↦ absurd (none_is_some (sym (next.3 key more (omega (arith, other))) ∙ is))
        ]
      ];
    }

-- none is left up to the greatest key asked for
pub found_all : (m : Database) (table low from high : ℕ) (found : List (ℕ × List ℕ)) → from ≤ max low (high + 1) → ((k : ℕ) → from ≤ k → k ≤ high → k < 2 ^ 64 → value_at m table k ≡ None)
    → AreFoundBelow m table low from found → AreFound m table low high found
found_all m table low from high found top none before = record {
  ascend = before.ascend;
  within = All-weaker (λ a. (low ≤ a.0) × (a.0 < from) × (a.0 < 2 ^ 64) × (value_at m table a.0 ≡ Some a.1)) (λ a. (low ≤ a.0) × (a.0 ≤ high) × (a.0 < 2 ^ 64) × (value_at m table a.0 ≡ Some a.1))
      (λ a is. let under = is.1 in let over = is.0 in (is.0, omega (arith, over, under, top), is.2, is.3)) found before.within;
  all = λ key value over under few is. elim (cases_lt key from) as (λ _. (key, value) ∈ found) [
    | inl less ↦ before.all key value over less few is
    | inr more ↦ absurd (none_is_some (sym (none key more under few) ∙ is))
  ];
}

-- NEXT. There is one, or none is left.
abbrev FirstOf : Database → ℕ → ℕ → ℕ → Option (ℕ × List ℕ) → Type 0
FirstOf m table from to None = (k : ℕ) → from ≤ k → k < to → value_at m table k ≡ None
FirstOf m table from to (Some found) = (from ≤ found.0) × (found.0 < to) × (value_at m table found.0 ≡ Some found.1) × ((k : ℕ) → from ≤ k → k < found.0 → value_at m table k ≡ None)

first_more : (m : Database) (table from n : ℕ) (found : Option (ℕ × List ℕ)) → FirstOf m table from (from + n) found → (more : Option (ℕ × List ℕ)) × FirstOf m table from (from + suc n) more
first_more m table from n None none =
    elim (value_at m table (from + n)) as (λ v. value_at m table (from + n) ≡ v → (more : Option (ℕ × List ℕ)) × FirstOf m table from (from + suc n) more) [
      | None ↦ λ is. (
        None,
        λ k above under. elim (cases_lt k (from + n)) as (λ _. value_at m table k ≡ None) [
          | inl less ↦ none k above less
          | inr last ↦
              let same : k ≡ from + n = omega arith in
              ap (value_at m table) same ∙ is
        ],
      )
      | Some value ↦ λ is. (Some (from + n, value), (omega arith, omega arith, is, none))
    ] refl
first_more m table from n (Some found) first = (Some found, (first.0, omega (arith, first.1), first.2, first.3))

first_among : (m : Database) (table from n : ℕ) → (found : Option (ℕ × List ℕ)) × FirstOf m table from (from + n) found
first_among m table from zero = (None, λ k above under. absurd (omega arith))
first_among m table from (suc n) =
    let (found, first) = first_among m table from n in
    first_more m table from n found first

as_next : (m : Database) (table from to : ℕ) → to ≡ 2 ^ 64 → (found : Option (ℕ × List ℕ)) → FirstOf m table from to found → IsNextAt m table from found
as_next m table from to end None first = λ k above under. first k above (omega arith)
as_next m table from to end (Some found) first = (first.0, omega (arith, first.1), first.2, first.3)

pub next_from : (m : Database) (table from : ℕ) → from ≤ 2 ^ 64 → (found : Option (ℕ × List ℕ)) × IsNextAt m table from found
next_from m table from up =
    let (found, first) = first_among m table from (2 ^ 64 - from) in
    (found, as_next m table from (from + (2 ^ 64 - from)) (omega arith) found first)

-- a look from a greater key on goes no less far
pub no_further : (m : Database) (table from to : ℕ) (first later : Option (ℕ × List ℕ)) → from ≤ to → IsNextAt m table from first → IsNextAt m table to later → last_sought (2 ^ 64) first ≤ last_sought (2 ^ 64) later
no_further m table from to None None up first later = omega arith
no_further m table from to (Some p) None up first later = omega (arith, first.1)
no_further m table from to None (Some q) up first later = absurd (none_is_some (sym (first q.0 (omega (arith, later.0)) later.1) ∙ later.2))
no_further m table from to (Some p) (Some q) up first later = elim (cases_lt q.0 p.0) as (λ _. p.0 ≤ q.0) [
  | inl less ↦ absurd (none_is_some (sym (first.3 q.0 (omega (arith, later.0)) less) ∙ later.2))
  | inr more ↦ omega arith
]
