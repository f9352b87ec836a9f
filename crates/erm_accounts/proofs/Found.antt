-- What scans of the tables find makes up the total.
use Rattle.std.proofs.Common.{◌≡◌, ℕ, zero, suc, ◌+◌, ◌-◌, ◌*◌, ◌<◌, ◌≤◌, ◌^◌, ◌⊎◌, List, [], ◌∷◌, length, Option, Some, None, refl, sym, ap, ◌∙◌, subst, inl, inr, arith}
use Rattle.std.proofs.lemmas.Bool.{cases_eq}
use Rattle.std.proofs.lemmas.List.Elements.{All-head, All-tail}
use Rattle.std.proofs.lemmas.List.Sums.{sum_by-cons}
use Rattle.std.specs.List.{All, AllPairs}
use Rattle.erm_accounts.proofs.Sums.{sum-suc, sum-zero}
use Rattle.erm_accounts.specs.Accounts.{Account, AreSolvent, Current, Savings, kept, raised, table_of}
use Rattle.erm_accounts.specs.Totals.{AddUpTo, FoundTotalsAreTotals, HoldInAll, held, many, sum_found, sum_from, total}
use Rattle.erm_model.proofs.Members.{none_in_nil, ∈-at}
use Rattle.erm_model.specs.Database.{AreFound, Database}
use Rattle.erm_model.specs.Member.{◌∈◌}

∈-cons : {X : Type 0} (x y : X) (xs : List X) → x ∈ (y ∷ xs) → (y ≡ x) ⊎ (x ∈ xs)
∈-cons x y xs (zero, is) = inl (cc)
∈-cons x y xs (suc k, is) = inr (k, is)

pub in_all : {X : Type 0} (P : X → Type 0) (xs : List X) (x : X) → All P xs → x ∈ xs → P x
in_all P [] x are there = absurd (none_in_nil x there)
in_all P (y ∷ xs) x are there = elim (∈-cons x y xs there) as (λ _. P x) [
  | inl same ↦ subst P same (All-head P y xs are)
  | inr later ↦ in_all P xs x (All-tail P y xs are) later
]

pub All-from_in : {X : Type 0} {P : X → Type 0} (xs : List X) → ((x : X) → x ∈ xs → P x) → All P xs
All-from_in xs each k d lt = each _ (∈-at xs k d lt)

module _ (m : Database) (account : Account) where
  abbrev balance : ℕ → ℕ
  balance k = raised (kept m account k)

  abbrev Inside : ℕ → ℕ → (ℕ × List ℕ) → Type 0
  Inside low count pair = (low ≤ pair.0) × (pair.0 < low + count) × (kept m account pair.0 ≡ Some pair.1)

  -- these are the accounts of so many customers from low on that have a value, in order
  record AreThere (low count : ℕ) (found : List (ℕ × List ℕ)) : Type 0 where
    pub ascend : AllPairs (λ (a b : ℕ × List ℕ). a.0 < b.0) found
    pub within : All (Inside low count) found
    pub all : (k : ℕ) (value : List ℕ) → low ≤ k → k < low + count → kept m account k ≡ Some value → (k, value) ∈ found

  nothing_kept : (o : Option (List ℕ)) → ((value : List ℕ) → o ≡ Some value → ⊥) → o ≡ None
  nothing_kept None none = refl
  nothing_kept (Some value) none = absurd (none value refl)

  -- the first customer isn't among those found
  next_there : (low count : ℕ) (found : List (ℕ × List ℕ)) → ((pair : ℕ × List ℕ) → pair ∈ found → pair.0 ≡ low → ⊥) → AreThere low (suc count) found → AreThere (low + 1) count found
  next_there low count found apart there = record {
    ascend = there.ascend;
    within = All-from_in {P = Inside (low + 1) count} found (λ pair inside.
        let is = in_all (Inside low (suc count)) found pair there.within inside in
        (omega (arith, is.0, apart pair inside), omega (arith, is.1), is.2));
    all = λ k value above below is. there.all k value (omega arith) (omega arith) is;
  }

  -- the first customer is the first found
  rest_there : (low count : ℕ) (pair : ℕ × List ℕ) (found : List (ℕ × List ℕ)) → pair.0 ≡ low → AreThere low (suc count) (pair ∷ found) → AreThere (low + 1) count found
  rest_there low count pair found first there = record {
    ascend = λ i j d below within. there.ascend (suc i) (suc j) d (omega arith) (omega arith);
    within = λ k d lt.
        let is = there.within (suc k) d (omega arith) in
        let later = there.ascend 0 (suc k) d (omega arith) (omega arith) in
        (omega (arith, later, first), omega (arith, is.1), is.2);
    all = λ k value above below is. elim (∈-cons (k, value) pair found (there.all k value (omega arith) (omega arith) is)) as (λ _. (k, value) ∈ found) [
      | inl same ↦ absurd (omega (arith, ap (λ (x : ℕ × List ℕ). x.0) same, first))
      | inr inside ↦ inside
    ];
  }

  -- THE SUM of what was found, and of the balances of zero of the others
  sum_is : (low count : ℕ) (found : List (ℕ × List ℕ)) → AreThere low count found → sum_from balance low count + 2 ^ 63 * length found ≡ sum_found found + 2 ^ 63 * count
  sum_is low zero [] there = omega (arith, sum-zero balance low)
  sum_is low zero (pair ∷ found) there = let is = All-head (Inside low zero) pair found there.within in absurd (omega (arith, is.0, is.1))
  sum_is low (suc count) [] there =
      let none : kept m account low ≡ None = nothing_kept (kept m account low) (λ value is. none_in_nil (low, value) (there.all low value (omega arith) (omega arith) is)) in
      let here : balance low ≡ 2 ^ 63 = ap raised none in
      let rest = sum_is (low + 1) count [] (next_there low count [] (λ pair inside _. none_in_nil pair inside) there) in
      omega (arith, here, rest, sum-suc balance low count)
  sum_is low (suc count) (pair ∷ found) there = elim (cases_eq pair.0 low) as (λ _. sum_from balance low (suc count) + 2 ^ 63 * length (pair ∷ found) ≡ sum_found (pair ∷ found) + 2 ^ 63 * suc count) [
    | inl first ↦
        let is = All-head (Inside low (suc count)) pair found there.within in
        let here : balance low ≡ raised (Some pair.1) = ap balance (sym first) ∙ ap raised is.2 in
        let rest = sum_is (low + 1) count found (rest_there low count pair found first there) in
        let more = sum_by-cons (λ (x : ℕ × List ℕ). raised (Some x.1)) pair found in
        omega (arith, here, rest, more, sum-suc balance low count)
    | inr later ↦
        let bound = (All-head (Inside low (suc count)) pair found there.within).0 in
        let after : All (λ (x : ℕ × List ℕ). pair.0 < x.0) found = λ k d lt. there.ascend 0 (suc k) d (omega arith) (omega arith) in
        let apart : (x : ℕ × List ℕ) → x ∈ (pair ∷ found) → x.0 ≡ low → ⊥ = λ x inside is. elim (∈-cons x pair found inside) as (λ _. ⊥) [
          | inl same ↦ later (ap (λ (y : ℕ × List ℕ). y.0) same ∙ is)
          | inr behind ↦ let above = in_all (λ (y : ℕ × List ℕ). pair.0 < y.0) found x after behind in omega (arith, above, bound, is)
        ] in
        let none : kept m account low ≡ None = nothing_kept (kept m account low) (λ value is. apart (low, value) (there.all low value (omega arith) (omega arith) is) refl) in
        let here : balance low ≡ 2 ^ 63 = ap raised none in
        let rest = sum_is (low + 1) count (pair ∷ found) (next_there low count (pair ∷ found) apart there) in
        omega (arith, here, rest, sum-suc balance low count)
  ]

  -- what a scan found is there
  scanned : (low high : ℕ) (found : List (ℕ × List ℕ)) → high < 2 ^ 64 → AreFound m (table_of account) low high found → AreThere low (many low high) found
  scanned low high found bound are = record {
    ascend = are.ascend;
    within = λ k d lt. let is = are.within k d lt in (is.0, omega (arith, is.0, is.1), is.3);
    all = λ k value above below is. are.all k value above (omega arith) (omega arith) is;
  }

  pub held_found : (low high : ℕ) (found : List (ℕ × List ℕ)) → high < 2 ^ 64 → AreFound m (table_of account) low high found
      → held m account low high + 2 ^ 63 * length found ≡ sum_found found + 2 ^ 63 * many low high
  held_found low high found bound are = sum_is low (many low high) found (scanned low high found bound are)

pub found_totals : FoundTotalsAreTotals
found_totals m low high current savings bound current_are savings_are n =
    let first = held_found m Current low high current bound current_are in
    let second = held_found m Savings low high savings bound savings_are in
    (λ (adds : AddUpTo current savings n). omega (arith, first, second, adds), λ (holds : HoldInAll m low high n). omega (arith, first, second, holds))

-- SOLVENT CUSTOMERS hold 2 ^ 64 each, with what is added
module _ (m : Database) (solvent : AreSolvent m) where
  each_solvent : (low count : ℕ) → 2 ^ 64 * count ≤ sum_from (balance m Current) low count + sum_from (balance m Savings) low count
  each_solvent low zero = omega arith
  each_solvent low (suc count) =
      let here = solvent low in
      let rest = each_solvent (low + 1) count in
      omega (arith, here, rest, sum-suc (balance m Current) low count, sum-suc (balance m Savings) low count)

  pub hold : (low high : ℕ) → (n : ℕ) × HoldInAll m low high n
  hold low high = let most = each_solvent low (many low high) in (total m low high - 2 ^ 64 * many low high, omega (arith, most))
