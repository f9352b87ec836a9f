-- Trees of rows: their entries lie in their bounds, and a look for a key goes on in one child.
use Rattle.std.proofs.Common.{◌≡◌, ℕ, zero, suc, ◌<◌, ◌≤◌, List, [], ◌∷◌, ◌++◌, Bool, true, false, cond, Option, Some, None, refl, ap, ◌∙◌, inl, inr, arith}
use Rattle.std.specs.Prelude.{◌⊎◌, nat_eq, flat_map}
use Rattle.std.specs.Map.{lookup}
use Rattle.std.proofs.lemmas.Bool.Decides.{nat_tests}
use Rattle.erm_model.specs.Rows.{Rows}
use Rattle.erm_node.specs.Node.{pairs_of}
use Rattle.erm_node.specs.Tree.{Fan, first_key, Starts, IsTree, entries}
use Rattle.erm_tree.proofs.Fans.{flat_map-append, Fan-front, Fan-back, first_key-Fan}

-- what isn't found in the first part is sought in the second
pub lookup-append_none : {X : Type 0} (f : ℕ → Bool) (es fs : List (ℕ × X)) → lookup f es ≡ None → lookup f (es ++ fs) ≡ lookup f fs
lookup-append_none f [] fs none = refl
lookup-append_none {X} f (e ∷ es) fs none =
    elim (f e.0) as (λ b. cond b (Some e.1) (lookup f es) ≡ None → cond b (Some e.1) (lookup f (es ++ fs)) ≡ lookup f fs) [
      | true ↦ λ h. absurd (cc)
      | false ↦ λ h. lookup-append_none f es fs h
    ] none

-- what isn't in the second part is sought in the first
pub lookup-append_front : {X : Type 0} (f : ℕ → Bool) (es fs : List (ℕ × X)) → lookup f fs ≡ None → lookup f (es ++ fs) ≡ lookup f es
lookup-append_front f [] fs none = none
lookup-append_front {X} f (e ∷ es) fs none = ap (cond (f e.0) (Some e.1)) (lookup-append_front f es fs none)

-- a number from lo up to hi or not
pub record IsOutside (k lo hi : ℕ) : Type 0 where
  pub is : (k < lo) ⊎ (hi ≤ k)

module _ (E : ℕ → ℕ → List (ℕ × ℕ)) (P : ℕ → ℕ → ℕ → Type 0) (outside : (oid from to k : ℕ) → P oid from to → from < to → IsOutside k from to → lookup (nat_eq k) (E oid from) ≡ None) where
  -- no key outside of the ranges of pairs is found in what they have
  pub lookup-Fan_outside : (pairs : List (ℕ × ℕ)) (hi k : ℕ) → Fan P pairs hi → IsOutside k (first_key pairs hi) hi → lookup (nat_eq k) (flat_map (λ pair. E pair.1 pair.0) pairs) ≡ None
  lookup-Fan_outside [] hi k fan out = refl
  lookup-Fan_outside (p ∷ ps) hi k fan out =
      let top = first_key-Fan P ps hi fan.2 in
      let here : IsOutside k p.0 (first_key ps hi) = record { is = elim out.is as (λ _. (k < p.0) ⊎ (first_key ps hi ≤ k)) [ inl below ↦ inl below | inr above ↦ inr (omega arith) ] } in
      let there : IsOutside k (first_key ps hi) hi = record { is = elim out.is as (λ _. (k < first_key ps hi) ⊎ (hi ≤ k)) [ inl below ↦ inl (omega (arith, fan.1)) | inr above ↦ inr above ] } in
      lookup-append_none (nat_eq k) (E p.1 p.0) (flat_map (λ pair. E pair.1 pair.0) ps) (outside p.1 p.0 (first_key ps hi) k fan.0 fan.1 here)
      ∙ lookup-Fan_outside ps hi k fan.2 there

  -- a key in the range of one pair is sought in what that pair has
  pub lookup-Fan_inside : (before : List (ℕ × ℕ)) (pair : ℕ × ℕ) (rest : List (ℕ × ℕ)) (hi k : ℕ) → Fan P (before ++ pair ∷ rest) hi → pair.0 ≤ k → k < first_key rest hi
      → lookup (nat_eq k) (flat_map (λ pair. E pair.1 pair.0) (before ++ pair ∷ rest)) ≡ lookup (nat_eq k) (E pair.1 pair.0)
  lookup-Fan_inside before pair rest hi k fan low high =
      let each : ℕ × ℕ → List (ℕ × ℕ) = λ (p : ℕ × ℕ). E p.1 p.0 in
      let front = lookup-Fan_outside before pair.0 k (Fan-front P before (pair ∷ rest) hi fan) (record { is = inr low }) in
      let back = lookup-Fan_outside rest hi k (Fan-back P before (pair ∷ rest) hi fan).2 (record { is = inl high }) in
      ap (lookup (nat_eq k)) (flat_map-append each before (pair ∷ rest))
      ∙ lookup-append_none (nat_eq k) (flat_map each before) (E pair.1 pair.0 ++ flat_map each rest) front
      ∙ lookup-append_front (nat_eq k) (E pair.1 pair.0) (flat_map each rest) back

-- a node's keys start at or above its lower bound
pub low_enough : (leaf : Bool) (lo key : ℕ) → Starts leaf lo key → lo ≤ key
low_enough true lo key starts = starts
low_enough false lo key starts = omega (arith, starts)

-- where there is no pair the upper bound stands for its key
pub first_key-other : (pairs : List (ℕ × ℕ)) (lo hi : ℕ) → lo ≤ first_key pairs lo → lo < hi → lo ≤ first_key pairs hi
first_key-other [] lo hi low wide = omega arith
first_key-other (p ∷ ps) lo hi low wide = low

-- no key outside of a tree's bounds has an entry in it
pub lookup-entries_outside : (rows : Rows) (levels least oid lo hi k : ℕ) → IsTree rows levels least oid lo hi → lo < hi → IsOutside k lo hi → lookup (nat_eq k) (entries rows levels oid lo) ≡ None
lookup-entries_outside rows zero least oid lo hi k tree wide out =
    let other : nat_eq k lo ≡ false = elim out.is as (λ _. nat_eq k lo ≡ false) [ inl below ↦ grind (arith, nat_tests) | inr above ↦ grind (arith, nat_tests) ] in
    let none : Option ℕ = None in ap (λ (b : Bool). cond b (Some oid) none) other
lookup-entries_outside rows (suc levels) least oid lo hi k tree wide out =
    let low = low_enough _ lo (first_key (pairs_of (rows oid)) lo) tree.starts in
    let first = first_key-other (pairs_of (rows oid)) lo hi low wide in
    let there : IsOutside k (first_key (pairs_of (rows oid)) hi) hi = record { is = elim out.is as (λ _. (k < first_key (pairs_of (rows oid)) hi) ⊎ (hi ≤ k)) [ inl below ↦ inl (omega arith) | inr above ↦ inr above ] } in
    lookup-Fan_outside (λ child from. entries rows levels child from) (λ child from to. IsTree rows levels 4 child from to)
    (λ child from to key is wider away. lookup-entries_outside rows levels 4 child from to key is wider away)
    (pairs_of (rows oid)) hi k tree.fan there
