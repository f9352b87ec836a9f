-- A key put into a tree, node by node from the leaf up: the trees, the entries and what they reach then.
use Rattle.std.proofs.Common.{◌≡◌, ◌≢◌, ℕ, suc, ◌+◌, ◌<◌, ◌≤◌, List, [], ◌∷◌, ◌++◌, Bool, true, false, cond, Some, None, refl, sym, ap, ◌∙◌, subst, inl, inr, arith, append_assoc}
use Rattle.std.specs.Prelude.{nat_eq, insert}
use Rattle.std.specs.Map.{lookup}
use Rattle.std.proofs.lemmas.Bool.{cases_lt, le-leb}
use Rattle.std.proofs.lemmas.Bool.Decides.{nat_tests}
use Rattle.erm_node.specs.Tree.{Fan, first_key}
use Rattle.erm_tree.specs.Walk.{rank}
use Rattle.erm_tree.specs.Insert.{with_pair}
use Rattle.erm_tree.proofs.Fans.{first_key-Fan}

-- what holds of each of a list
abbrev pub Each : {X : Type 0} → (X → Type 0) → List X → Type 0
Each P [] = Unit {0}
Each P (x ∷ xs) = P x × Each P xs

-- in two parts
pub Each-front : {X : Type 0} (P : X → Type 0) (xs ys : List X) → Each P (xs ++ ys) → Each P xs
Each-front P [] ys a = tt
Each-front P (x ∷ xs) ys a = (a.0, Each-front P xs ys a.1)

pub Each-back : {X : Type 0} (P : X → Type 0) (xs ys : List X) → Each P (xs ++ ys) → Each P ys
Each-back P [] ys a = a
Each-back P (x ∷ xs) ys a = Each-back P xs ys a.1

-- one entry more in its place
pub record Inserted (key oid : ℕ) (old now : List (ℕ × ℕ)) : Type 0 where
  pub before : List (ℕ × ℕ)
  pub rest : List (ℕ × ℕ)
  pub was : old ≡ before ++ rest
  pub is : now ≡ before ++ (key, oid) ∷ rest

-- between two other parts
pub Inserted-between : (key oid : ℕ) (old now xs ys : List (ℕ × ℕ)) → Inserted key oid old now → Inserted key oid (xs ++ (old ++ ys)) (xs ++ (now ++ ys))
Inserted-between key oid old now xs ys i = record {
  before = xs ++ i.before;
  rest = i.rest ++ ys;
  was = ap (λ (es : List (ℕ × ℕ)). xs ++ (es ++ ys)) i.was ∙ ap (λ (es : List (ℕ × ℕ)). xs ++ es) (append_assoc i.before i.rest ys) ∙ sym (append_assoc xs i.before (i.rest ++ ys));
  is = ap (λ (es : List (ℕ × ℕ)). xs ++ (es ++ ys)) i.is ∙ ap (λ (es : List (ℕ × ℕ)). xs ++ es) (append_assoc i.before ((key, oid) ∷ i.rest) ys) ∙ sym (append_assoc xs i.before ((key, oid) ∷ (i.rest ++ ys)));
}

rank_more : (key : ℕ) (p : ℕ × ℕ) (ps : List (ℕ × ℕ)) → p.0 ≤ key → rank key (p ∷ ps) ≡ suc (rank key ps)
rank_more key p ps low = ap (λ (b : Bool). cond b (1 + rank key ps) 0) (le-leb p.0 key low) ∙ omega arith

with_pair-later : (key oid : ℕ) (p : ℕ × ℕ) (ps : List (ℕ × ℕ)) → p.0 ≤ key → with_pair (key, oid) (p ∷ ps) ≡ p ∷ with_pair (key, oid) ps
with_pair-later key oid p ps low = ap (λ (n : ℕ). insert (p ∷ ps) n (key, oid)) (rank_more key p ps low)

rank_none : (key : ℕ) (ps : List (ℕ × ℕ)) (hi : ℕ) → key < first_key ps hi → rank key ps ≡ 0
rank_none key [] hi below = refl
rank_none key (p ∷ ps) hi below = grind (arith, nat_tests)

with_pair-here : (key oid : ℕ) (ps : List (ℕ × ℕ)) (hi : ℕ) → key < first_key ps hi → with_pair (key, oid) ps ≡ (key, oid) ∷ ps
with_pair-here key oid ps hi below = ap (λ (n : ℕ). insert ps n (key, oid)) (rank_none key ps hi below)

-- a pair goes behind those below it
pub with_pair-split : (P : ℕ → ℕ → ℕ → Type 0) (key oid : ℕ) (xs ys : List (ℕ × ℕ)) (hi : ℕ) → Fan P xs key → key < first_key ys hi → with_pair (key, oid) (xs ++ ys) ≡ xs ++ (key, oid) ∷ ys
with_pair-split P key oid [] ys hi fan below = with_pair-here key oid ys hi below
with_pair-split P key oid (x ∷ xs) ys hi fan below =
    with_pair-later key oid x (xs ++ ys) (omega (arith, fan.1, first_key-Fan P xs key fan.2)) ∙ ap (λ (qs : List (ℕ × ℕ)). x ∷ qs) (with_pair-split P key oid xs ys hi fan.2 below)

-- pairs cut at a key that isn't among them
pub record CutAt (Q : ℕ → Type 0) (ps : List (ℕ × ℕ)) (hi key : ℕ) : Type 0 where
  pub before : List (ℕ × ℕ)
  pub rest : List (ℕ × ℕ)
  pub split : ps ≡ before ++ rest
  pub front : Fan (λ oid from to. Q oid) before key
  pub back : Fan (λ oid from to. Q oid) rest hi
  pub high : key < first_key rest hi

apart_key : (key : ℕ) (p : ℕ × ℕ) (ps : List (ℕ × ℕ)) → lookup (nat_eq key) (p ∷ ps) ≡ None → (key ≢ p.0) × (lookup (nat_eq key) ps ≡ None)
apart_key key p ps none =
    elim (nat_eq key p.0) as (λ b. nat_eq key p.0 ≡ b → cond b (Some p.1) (lookup (nat_eq key) ps) ≡ None → (key ≢ p.0) × (lookup (nat_eq key) ps ≡ None)) [
      | true ↦ λ e h. absurd (cc)
      | false ↦ λ e h. (λ same. grind (arith, nat_tests), h)
    ] refl none

pub cut_at : (Q : ℕ → Type 0) (ps : List (ℕ × ℕ)) (hi key : ℕ) → Fan (λ oid from to. Q oid) ps hi → key < hi → lookup (nat_eq key) ps ≡ None → CutAt Q ps hi key
cut_at Q [] hi key fan below none = record { before = []; rest = []; split = refl; front = tt; back = tt; high = below }
cut_at Q (p ∷ ps) hi key fan below none =
    let apart = apart_key key p ps none in
    let other = apart.0 in
    elim (cases_lt key p.0) as (λ _. CutAt Q (p ∷ ps) hi key) [
      | inl less ↦ record { before = []; rest = p ∷ ps; split = refl; front = tt; back = fan; high = less }
      | inr not_less ↦
          let cut = cut_at Q ps hi key fan.2 below apart.1 in
          let more : p.0 < key = omega arith in
          let next : p.0 < first_key cut.before key =
          next_there p.0 cut.before cut.rest key hi more (subst (λ (qs : List (ℕ × ℕ)). p.0 < first_key qs hi) cut.split fan.1) in
          record {
            before = p ∷ cut.before;
            rest = cut.rest;
            split = ap (λ (qs : List (ℕ × ℕ)). p ∷ qs) cut.split;
            front = (fan.0, next, cut.front);
            back = cut.back;
            high = cut.high;
          }
    ]
  where
    next_there : (from : ℕ) (xs ys : List (ℕ × ℕ)) (key hi : ℕ) → from < key → from < first_key (xs ++ ys) hi → from < first_key xs key
    next_there from [] ys key hi more next = more
    next_there from (x ∷ xs) ys key hi more next = next
