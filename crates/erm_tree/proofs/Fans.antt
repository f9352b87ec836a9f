-- Pairs and their ranges: fans in parts, and the pair for a key.
use Rattle.std.proofs.Common.{◌≡◌, ℕ, suc, ◌+◌, ◌<◌, ◌≤◌, List, [], ◌∷◌, ◌++◌, get_or, drop, Bool, true, false, cond, Some, refl, sym, ap, ◌∙◌, subst, inl, inr, arith, append_assoc}
use Rattle.std.specs.Prelude.{nat_eq, flat_map, IfSome}
use Rattle.std.specs.Map.{lookup}
use Rattle.std.proofs.lemmas.Bool.{le-leb, cases_lt}
use Rattle.std.proofs.lemmas.Bool.Decides.{nat_tests}
use Rattle.erm_node.specs.Tree.{Fan, first_key, total}
use Rattle.erm_tree.specs.Reads.{AnyOfFan}
use Rattle.erm_tree.specs.Walk.{rank}

-- the first key of pairs in two parts
pub first_key-append : (xs ys : List (ℕ × ℕ)) (hi : ℕ) → first_key (xs ++ ys) hi ≡ first_key xs (first_key ys hi)
first_key-append [] ys hi = refl
first_key-append (x ∷ xs) ys hi = refl

-- a sum in two parts
pub total-append : {X : Type 0} (f : X → ℕ) (xs ys : List X) → total f (xs ++ ys) ≡ total f xs + total f ys
total-append f [] ys = omega arith
total-append f (x ∷ xs) ys = omega (arith, total-append f xs ys)

-- lists made of each element of a list in two parts
pub flat_map-append : {X A : Type 0} (f : X → List A) (xs ys : List X) → flat_map f (xs ++ ys) ≡ flat_map f xs ++ flat_map f ys
flat_map-append f [] ys = refl
flat_map-append f (x ∷ xs) ys = ap (λ zs. f x ++ zs) (flat_map-append f xs ys) ∙ sym (append_assoc (f x) (flat_map f xs) (flat_map f ys))

module _ (P : ℕ → ℕ → ℕ → Type 0) where
  -- a fan in two parts
  pub Fan-append : (xs ys : List (ℕ × ℕ)) (hi : ℕ) → Fan P xs (first_key ys hi) → Fan P ys hi → Fan P (xs ++ ys) hi
  Fan-append [] ys hi a b = b
  Fan-append (x ∷ xs) ys hi a b =
      let same = first_key-append xs ys hi in
      (subst (λ (to : ℕ). P x.1 x.0 to) (sym same) a.0, omega (arith, same, a.1), Fan-append xs ys hi a.2 b)

  -- the first part of a fan
  pub Fan-front : (xs ys : List (ℕ × ℕ)) (hi : ℕ) → Fan P (xs ++ ys) hi → Fan P xs (first_key ys hi)
  Fan-front [] ys hi a = tt
  Fan-front (x ∷ xs) ys hi a =
      let same = first_key-append xs ys hi in
      (subst (λ (to : ℕ). P x.1 x.0 to) same a.0, omega (arith, same, a.1), Fan-front xs ys hi a.2)

  -- the second part of a fan
  pub Fan-back : (xs ys : List (ℕ × ℕ)) (hi : ℕ) → Fan P (xs ++ ys) hi → Fan P ys hi
  Fan-back [] ys hi a = a
  Fan-back (x ∷ xs) ys hi a = Fan-back xs ys hi a.2

  -- no key is above the bound
  pub first_key-Fan : (xs : List (ℕ × ℕ)) (hi : ℕ) → Fan P xs hi → first_key xs hi ≤ hi
  first_key-Fan [] hi a = omega arith
  first_key-Fan (x ∷ xs) hi a = omega (arith, a.1, first_key-Fan xs hi a.2)

  -- what is so of one pair is so of some
  pub AnyOfFan-append : (xs ys : List (ℕ × ℕ)) (hi : ℕ) → AnyOfFan P ys hi → AnyOfFan P (xs ++ ys) hi
  AnyOfFan-append [] ys hi any = any
  AnyOfFan-append (x ∷ xs) ys hi any = inr (AnyOfFan-append xs ys hi any)

-- what follows of each pair in its place is so along a fan
pub Fan-each : (P Q : ℕ → ℕ → ℕ → Type 0) (all done rest : List (ℕ × ℕ)) (hi : ℕ) → all ≡ done ++ rest → Fan P rest hi
    → ((before : List (ℕ × ℕ)) (pair : ℕ × ℕ) (after : List (ℕ × ℕ)) → all ≡ before ++ pair ∷ after → P pair.1 pair.0 (first_key after hi) → pair.0 < first_key after hi → Q pair.1 pair.0 (first_key after hi))
    → Fan Q rest hi
Fan-each P Q all done [] hi is fan step = tt
Fan-each P Q all done (p ∷ ps) hi is fan step = (
  step done p ps is fan.0 fan.1,
  fan.1,
  Fan-each P Q all (done ++ p ∷ []) ps hi (is ∙ sym (append_assoc done (p ∷ []) ps)) fan.2 step,
)

same_number : (a b : ℕ) → nat_eq a b ≡ true → a ≡ b
same_number a b e = grind (arith, nat_tests)

-- of what is found for a key among pairs, what is so along their fan is so
pub Fan-lookup : (Q : ℕ → ℕ → ℕ → Type 0) (pairs : List (ℕ × ℕ)) (hi key : ℕ) → Fan Q pairs hi → IfSome (lookup (nat_eq key) pairs) (λ oid. (to : ℕ) × Q oid key to)
Fan-lookup Q [] hi key fan = tt
Fan-lookup Q (p ∷ ps) hi key fan =
    elim (nat_eq key p.0) as (λ b. nat_eq key p.0 ≡ b → IfSome (cond b (Some p.1) (lookup (nat_eq key) ps)) (λ oid. (to : ℕ) × Q oid key to)) [
      | true ↦ λ e. (first_key ps hi, subst (λ (k : ℕ). Q p.1 k (first_key ps hi)) (sym (same_number key p.0 e)) fan.0)
      | false ↦ λ e. Fan-lookup Q ps hi key fan.2
    ] refl

-- no pair's key is below the first
pub first_key-before : (P : ℕ → ℕ → ℕ → Type 0) (before : List (ℕ × ℕ)) (pair : ℕ × ℕ) (rest : List (ℕ × ℕ)) (hi other : ℕ) → Fan P (before ++ pair ∷ rest) hi → first_key (before ++ pair ∷ rest) other ≤ pair.0
first_key-before P before pair rest hi other fan =
    omega (arith, first_key-append before (pair ∷ rest) other, first_key-Fan P before pair.0 (Fan-front P before (pair ∷ rest) hi fan))

-- f of one element is a part of the sum
pub total-part : {X : Type 0} (f : X → ℕ) (before : List X) (x : X) (rest : List X) → f x ≤ total f (before ++ x ∷ rest)
total-part f before x rest = omega (arith, total-append f before (x ∷ rest))

-- The pair for a key, among pairs up to hi: the last one whose key is at most it. Its range goes up to `to`.
pub record IsPairFor (pairs : List (ℕ × ℕ)) (hi key : ℕ) (pair : ℕ × ℕ) (to : ℕ) : Type 0 where
  pub before : List (ℕ × ℕ)
  pub rest : List (ℕ × ℕ)
  pub split : pairs ≡ before ++ pair ∷ rest
  pub end : to ≡ first_key rest hi
  pub low : pair.0 ≤ key
  pub high : key < to

none_up_to : (key : ℕ) (pairs : List (ℕ × ℕ)) (hi : ℕ) → key < first_key pairs hi → rank key pairs ≡ 0
none_up_to key [] hi below = refl
none_up_to key (p ∷ ps) hi below = grind (arith, nat_tests)

rank_more : (key : ℕ) (p : ℕ × ℕ) (ps : List (ℕ × ℕ)) → p.0 ≤ key → rank key (p ∷ ps) ≡ suc (rank key ps)
rank_more key p ps low = ap (λ (b : Bool). cond b (1 + rank key ps) 0) (le-leb p.0 key low) ∙ omega arith

-- a key that isn't below the first has its pair
pub pair_for : (P : ℕ → ℕ → ℕ → Type 0) (pairs : List (ℕ × ℕ)) (hi key : ℕ) → Fan P pairs hi → first_key pairs hi ≤ key → key < hi
    → (before : ℕ) × (rank key pairs ≡ suc before) × IsPairFor pairs hi key (get_or pairs before (0, 0)) (first_key (drop (suc before) pairs) hi)
pair_for P [] hi key fan low high = absurd (omega arith)
pair_for P (p ∷ ps) hi key fan low high =
    elim (cases_lt key (first_key ps hi)) as (λ _. (before : ℕ) × (rank key (p ∷ ps) ≡ suc before) × IsPairFor (p ∷ ps) hi key (get_or (p ∷ ps) before (0, 0)) (first_key (drop (suc before) (p ∷ ps)) hi)) [
      | inl here ↦ (
        0,
        rank_more key p ps low ∙ ap suc (none_up_to key ps hi here),
        record { before = []; rest = ps; split = refl; end = refl; low = low; high = here },
      )
      | inr next ↦
          let (before, many, is) = pair_for P ps hi key fan.2 next high in (
            suc before,
            rank_more key p ps low ∙ ap suc many,
            record {
              before = p ∷ is.before;
              rest = is.rest;
              split = ap (λ (qs : List (ℕ × ℕ)). p ∷ qs) is.split;
              end = is.end;
              low = is.low;
              high = is.high;
            },
          )
    ]
