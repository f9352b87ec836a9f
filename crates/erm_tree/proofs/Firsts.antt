-- The first key of a range that has a value.
use Rattle.std.proofs.Common.{◌≡◌, ℕ, zero, suc, ◌+◌, ◌-◌, ◌<◌, ◌≤◌, List, Option, Some, None, refl, sym, ap, ◌∙◌, subst, inl, inr, arith}
use Rattle.std.proofs.lemmas.Bool.{cases_lt}
use Rattle.erm_model.specs.Rows.{Rows}
use Rattle.erm_node.specs.TreeMap.{value_in}
use Rattle.erm_tree.specs.Walk.{IsFirstIn, HasNoValueIn, last_sought}

none_is_some : {X : Type 0} {x : X} → let none : Option X = None in none ≡ Some x → ⊥
none_is_some e = cc

first_more : (rows : Rows) (table from n : ℕ) (found : Option (ℕ × List ℕ)) → IsFirstIn rows table from (from + n) found → (more : Option (ℕ × List ℕ)) × IsFirstIn rows table from (from + suc n) more
first_more rows table from n None none =
    elim (value_in rows table (from + n)) as (λ v. value_in rows table (from + n) ≡ v → (more : Option (ℕ × List ℕ)) × IsFirstIn rows table from (from + suc n) more) [
      | None ↦ λ is. (
        None,
        λ k above under. elim (cases_lt k (from + n)) as (λ _. value_in rows table k ≡ None) [
          | inl less ↦ none k above less
          | inr last ↦
              let same : k ≡ from + n = omega arith in
              ap (value_in rows table) same ∙ is
        ],
      )
      | Some value ↦ λ is. (Some (from + n, value), (omega arith, omega arith, is, none))
    ] refl
first_more rows table from n (Some found) first = (Some found, (first.0, omega (arith, first.1), first.2, first.3))

first_among : (rows : Rows) (table from n : ℕ) → (found : Option (ℕ × List ℕ)) × IsFirstIn rows table from (from + n) found
first_among rows table from zero = (None, λ k above under. absurd (omega arith))
first_among rows table from (suc n) =
    let (found, first) = first_among rows table from n in
    first_more rows table from n found first

-- in each range some key is the first that has a value, or none has one
pub IsFirstIn-some : (rows : Rows) (table from to : ℕ) → from ≤ to → (found : Option (ℕ × List ℕ)) × IsFirstIn rows table from to found
IsFirstIn-some rows table from to up =
    let end : from + (to - from) ≡ to = omega arith in
    subst (λ (e : ℕ). (found : Option (ℕ × List ℕ)) × IsFirstIn rows table from e found) end (first_among rows table from (to - from))

not_below : (rows : Rows) (table from low to : ℕ) (found : ℕ × List ℕ) → HasNoValueIn rows table from low → IsFirstIn rows table from to (Some found) → low ≤ found.0
not_below rows table from low to found none first =
    elim (cases_lt found.0 low) as (λ _. low ≤ found.0) [ inl less ↦ absurd (none_is_some (sym (none found.0 first.0 less) ∙ first.2)) | inr more ↦ omega arith ]

-- where no key below one has a value, the look goes on at least to that one
pub IsFirstIn-beyond : (rows : Rows) (table from low to : ℕ) (found : Option (ℕ × List ℕ)) → HasNoValueIn rows table from low → low < to → IsFirstIn rows table from to found → low ≤ last_sought to found
IsFirstIn-beyond rows table from low to None none inside first = omega arith
IsFirstIn-beyond rows table from low to (Some found) none inside first = not_below rows table from low to found none first

-- and at least to the one before
pub IsFirstIn-before : (rows : Rows) (table from low to : ℕ) (found : Option (ℕ × List ℕ)) → HasNoValueIn rows table from low → low ≤ to → IsFirstIn rows table from to found → low - 1 ≤ last_sought to found
IsFirstIn-before rows table from low to None none inside first = omega arith
IsFirstIn-before rows table from low to (Some found) none inside first = omega (arith, not_below rows table from low to found none first)

-- the first key of a part of the range that has a value: a look for it goes no further
pub record IsPartFirst (rows : Rows) (table low to last : ℕ) : Type 0 where
  pub found : Option (ℕ × List ℕ)
  pub first : IsFirstIn rows table low to found
  pub no_further : last_sought to found ≤ last

pub IsFirstIn-part : (rows : Rows) (table from low to end : ℕ) (found : Option (ℕ × List ℕ)) → from ≤ low → low < to → to ≤ end → HasNoValueIn rows table from low → IsFirstIn rows table from end found
    → IsPartFirst rows table low to (last_sought end found)
IsFirstIn-part rows table from low to end None up inside top none first = record { found = None; first = λ k above under. first k (omega arith) (omega arith); no_further = omega arith }
IsFirstIn-part rows table from low to end (Some found) up inside top none first =
    let there = not_below rows table from low end found none first in
    elim (cases_lt found.0 to) as (λ _. IsPartFirst rows table low to found.0) [
      | inl less ↦ record { found = Some found; first = (there, less, first.2, λ k above under. first.3 k (omega arith) under); no_further = omega arith }
      | inr more ↦ record { found = None; first = λ k above under. first.3 k (omega arith) (omega arith); no_further = omega arith }
    ]
