-- Nodes from pairs: what a row that spells pairs in order reads as.
use Rattle.std.proofs.Common.{◌≡◌, ℕ, ◌^◌, ◌<◌, ◌≤◌, List, [], ◌∷◌, ◌++◌, length, Bool, true, false, ◌&&◌, Option, Some, refl, sym, ap, ◌∙◌, subst, arith}
use Rattle.std.specs.Prelude.{nat_le, nat_lt}
use Rattle.std.specs.Option.{option_map_or}
use Rattle.std.proofs.lemmas.Bool.{leb-true, le-leb}
use Rattle.std.proofs.lemmas.Bool.Decides.{nat_tests}
use Rattle.erm_model.specs.Rows.{Rows}
use Rattle.erm_node.specs.Node.{Shape, node_of, node_row, pairs_of, is_node, fewest_pairs, ascends, have_32_bits}
use Rattle.erm_node.specs.Tree.{Fan, first_key, Starts, IsNodeOver}

-- the objects of pairs have numbers of 32 bits
abbrev pub AreNarrow : List (ℕ × ℕ) → Type 0
AreNarrow [] = Unit {0}
AreNarrow (p ∷ ps) = (p.1 < 2 ^ 32) × AreNarrow ps

-- so they have in two parts
pub AreNarrow-append : (xs ys : List (ℕ × ℕ)) → AreNarrow xs → AreNarrow ys → AreNarrow (xs ++ ys)
AreNarrow-append [] ys a b = b
AreNarrow-append (x ∷ xs) ys a b = (a.0, AreNarrow-append xs ys a.1 b)

-- and in each part
pub AreNarrow-front : (xs ys : List (ℕ × ℕ)) → AreNarrow (xs ++ ys) → AreNarrow xs
AreNarrow-front [] ys a = tt
AreNarrow-front (x ∷ xs) ys a = (a.0, AreNarrow-front xs ys a.1)

pub AreNarrow-back : (xs ys : List (ℕ × ℕ)) → AreNarrow (xs ++ ys) → AreNarrow ys
AreNarrow-back [] ys a = a
AreNarrow-back (x ∷ xs) ys a = AreNarrow-back xs ys a.1

both_pass : (a b : Bool) → (a && b) ≡ true → (a ≡ true) × (b ≡ true)
both_pass true b e = (refl, e)
both_pass false b e = absurd (cc)

pass_both : (a b : Bool) → a ≡ true → b ≡ true → (a && b) ≡ true
pass_both a b p q = ap (λ (c : Bool). c && b) p ∙ q

less_passes : (a b : ℕ) → a < b → nat_lt a b ≡ true
less_passes a b less = grind (arith, nat_tests)

passes_less : (a b : ℕ) → nat_lt a b ≡ true → a < b
passes_less a b e = grind (arith, nat_tests)

have_32_bits-narrow : (ps : List (ℕ × ℕ)) → AreNarrow ps → have_32_bits ps ≡ true
have_32_bits-narrow [] a = refl
have_32_bits-narrow (p ∷ ps) a = pass_both (nat_lt p.1 (2 ^ 32)) (have_32_bits ps) (less_passes p.1 (2 ^ 32) a.0) (have_32_bits-narrow ps a.1)

AreNarrow-have_32_bits : (ps : List (ℕ × ℕ)) → have_32_bits ps ≡ true → AreNarrow ps
AreNarrow-have_32_bits [] e = tt
AreNarrow-have_32_bits (p ∷ ps) e = let both = both_pass (nat_lt p.1 (2 ^ 32)) (have_32_bits ps) e in (passes_less p.1 (2 ^ 32) both.0, AreNarrow-have_32_bits ps both.1)

-- the pairs of a fan ascend
ascends-Fan : (P : ℕ → ℕ → ℕ → Type 0) (ps : List (ℕ × ℕ)) (hi : ℕ) → Fan P ps hi → ascends ps ≡ true
ascends-Fan P [] hi fan = refl
ascends-Fan P (p ∷ []) hi fan = refl
ascends-Fan P (p ∷ (q ∷ qs)) hi fan = pass_both (nat_lt p.0 q.0) (ascends (q ∷ qs)) (less_passes p.0 q.0 fan.1) (ascends-Fan P (q ∷ qs) hi fan.2)

-- what the rules of a node say of a shape
pub is_node-parts : (shape : Shape) → is_node shape ≡ true → (fewest_pairs shape.leaf ≤ length shape.pairs) × (length shape.pairs ≤ 7) × AreNarrow shape.pairs
is_node-parts shape is =
    let enough = nat_le (fewest_pairs shape.leaf) (length shape.pairs) in
    let few = nat_le (length shape.pairs) 7 in
    let ordered = ascends shape.pairs in
    let narrow = have_32_bits shape.pairs in
    let a = both_pass (enough && few && ordered) narrow is in
    let b = both_pass (enough && few) ordered a.0 in
    let c = both_pass enough few b.0 in
    (leb-true (fewest_pairs shape.leaf) (length shape.pairs) c.0, leb-true (length shape.pairs) 7 c.1, AreNarrow-have_32_bits shape.pairs a.1)

-- pairs in order, neither too few nor too many, are a node
pub is_node-Fan : (P : ℕ → ℕ → ℕ → Type 0) (leaf : Bool) (ps : List (ℕ × ℕ)) (hi : ℕ) → Fan P ps hi → fewest_pairs leaf ≤ length ps → length ps ≤ 7 → AreNarrow ps → is_node (record { leaf = leaf; pairs = ps }) ≡ true
is_node-Fan P leaf ps hi fan enough few narrow =
    let e = nat_le (fewest_pairs leaf) (length ps) in
    let f = nat_le (length ps) 7 in
    pass_both (e && f && ascends ps) (have_32_bits ps)
    (pass_both (e && f) (ascends ps) (pass_both e f (le-leb (fewest_pairs leaf) (length ps) enough) (le-leb (length ps) 7 few)) (ascends-Fan P ps hi fan))
    (have_32_bits-narrow ps narrow)

pub pairs_of-found : (row : List ℕ) (shape : Shape) → node_of row ≡ Some shape → pairs_of row ≡ shape.pairs
unfolding pairs_of
pairs_of-found row shape found = ap (λ (o : Option Shape). option_map_or (λ s. s.pairs) o []) found

module _ (given : (shape : Shape) → is_node shape ≡ true → node_of (node_row shape) ≡ Some shape) where
  -- an object whose row spells pairs in order is a node over them
  pub record IsMade (new : Rows) (leaf : Bool) (least : ℕ) (P : ℕ → ℕ → ℕ → Type 0) (oid lo hi : ℕ) (ps : List (ℕ × ℕ)) : Type 0 where
    pub pairs : pairs_of (new oid) ≡ ps
    pub node : IsNodeOver new leaf least P oid lo hi

  pub IsMade-row : (new : Rows) (leaf : Bool) (least : ℕ) (P : ℕ → ℕ → ℕ → Type 0) (oid lo hi : ℕ) (ps : List (ℕ × ℕ)) → new oid ≡ node_row (record { leaf = leaf; pairs = ps })
      → Fan P ps hi → Starts leaf lo (first_key ps lo) → fewest_pairs leaf ≤ length ps → least ≤ length ps → length ps ≤ 7 → AreNarrow ps → IsMade new leaf least P oid lo hi ps
  IsMade-row new leaf least P oid lo hi ps row fan starts fewest enough few narrow =
      let shape : Shape = record { leaf = leaf; pairs = ps } in
      let reads : node_of (new oid) ≡ Some shape = ap node_of row ∙ given shape (is_node-Fan P leaf ps hi fan fewest few narrow) in
      let pairs : pairs_of (new oid) ≡ ps = pairs_of-found (new oid) shape reads in
      record {
        pairs = pairs;
        node = record {
          node = reads ∙ ap (λ (qs : List (ℕ × ℕ)). Some (record { leaf = leaf; pairs = qs })) (sym pairs);
          enough = subst (λ (qs : List (ℕ × ℕ)). least ≤ length qs) (sym pairs) enough;
          starts = subst (λ (qs : List (ℕ × ℕ)). Starts leaf lo (first_key qs lo)) (sym pairs) starts;
          fan = subst (λ (qs : List (ℕ × ℕ)). Fan P qs hi) (sym pairs) fan;
        };
      }
