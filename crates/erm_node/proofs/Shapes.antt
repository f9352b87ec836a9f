-- Nodes and their rows: each node has one row, and reading it gives the node again.
use Rattle.std.proofs.Common.{◌≡◌, ◌≢◌, ℕ, ◌-◌, ◌≤◌, List, [], ◌∷◌, ◌++◌, length, take, drop, replicate, Bool, true, false, not, ◌&&◌, cond, Option, Some, None, refl, sym, ap, ◌∙◌, inl, inr, arith, length-append, length-drop}
use Rattle.std.specs.Prelude.{zip, nat_le, nat_eq, slice_index, ◌⊎◌}
use Rattle.std.specs.Cmp.Lexicographic.{pointwise}
use Rattle.std.proofs.lemmas.List.{take_at, drop_at, length-map, append-nil}
use Rattle.std.proofs.Math.ListN.{drop_of_length-le}
use Rattle.std.proofs.lemmas.Bool.{leb-true, le-leb}
use Rattle.std.proofs.lemmas.Slice.Eq.{bytes_eq-Decides}
use Rattle.erm_record.specs.Record.{IsRecord}
use Rattle.erm_node.specs.Node.{Shape, ascends, filled, fewest_pairs, have_32_bits, is_node, keys_of, kind_of, node_of, node_row, oids_of, shape_in}
use Rattle.erm_node.proofs.Places.{length-filled, zip-keys_of}

-- both tests pass
pub both_pass : (a b : Bool) → (a && b) ≡ true → (a ≡ true) × (b ≡ true)
both_pass true b e = (refl, e)
both_pass false b e = absurd (cc)

-- both tests pass together
pub pass_both : (a b : Bool) → a ≡ true → b ≡ true → (a && b) ≡ true
pass_both a b p q = ap (λ (c : Bool). c && b) p ∙ q

-- what the rules of a node say
pub record KeepsRules (shape : Shape) : Type 0 where
  pub enough : fewest_pairs shape.leaf ≤ length shape.pairs
  pub few : length shape.pairs ≤ 7
  pub ascends : ascends shape.pairs ≡ true
  pub narrow : have_32_bits shape.pairs ≡ true

-- a node keeps the rules
pub KeepsRules-is_node : (shape : Shape) → is_node shape ≡ true → KeepsRules shape
KeepsRules-is_node shape is =
    let enough = nat_le (fewest_pairs shape.leaf) (length shape.pairs) in
    let few = nat_le (length shape.pairs) 7 in
    let ordered = ascends shape.pairs in
    let narrow = have_32_bits shape.pairs in
    let a = both_pass (enough && few && ordered) narrow is in
    let b = both_pass (enough && few) ordered a.0 in
    let c = both_pass enough few b.0 in
    record { enough = leb-true (fewest_pairs shape.leaf) (length shape.pairs) c.0; few = leb-true (length shape.pairs) 7 c.1; ascends = b.1; narrow = a.1 }

-- what keeps the rules is a node
pub is_node-KeepsRules : (shape : Shape) → KeepsRules shape → is_node shape ≡ true
is_node-KeepsRules shape keeps =
    let enough = nat_le (fewest_pairs shape.leaf) (length shape.pairs) in
    let few = nat_le (length shape.pairs) 7 in
    let ordered = ascends shape.pairs in
    let narrow = have_32_bits shape.pairs in
    pass_both (enough && few && ordered) narrow
    (pass_both (enough && few) ordered (pass_both enough few (le-leb (fewest_pairs shape.leaf) (length shape.pairs) keeps.enough) (le-leb (length shape.pairs) 7 keeps.few)) keeps.ascends)
    keeps.narrow

leaf_in : (leaf : Bool) (pairs : List (ℕ × ℕ)) → not (nat_eq (kind_of leaf pairs) 4) ≡ leaf
leaf_in true [] = refl
leaf_in true (pair ∷ pairs) = refl
leaf_in false pairs = refl

-- the places of a node's row say the node
pub shape_in-node_row : (shape : Shape) → length shape.pairs ≤ 7 → shape_in (node_row shape) ≡ shape
unfolding node_row
shape_in-node_row shape few =
    let keys = keys_of shape.pairs in
    let oids = oids_of shape.pairs in
    let n = length shape.pairs in
    let many_keys : length keys ≡ n = length-map shape.pairs (λ (p : ℕ × ℕ). p.0) in
    let many_oids : length oids ≡ n = length-map shape.pairs (λ (p : ℕ × ℕ). p.1) in
    let whole : length (filled keys) ≡ 7 = length-filled keys (omega arith) in
    let front : take n (take 7 (filled keys ++ filled oids)) ≡ keys =
    ap (take n) (take_at (filled keys) (filled oids) 7 whole) ∙ take_at keys (replicate (7 - length keys) 0) n many_keys in
    let back : drop 7 (filled keys ++ filled oids) ≡ filled oids = drop_at (filled keys) (filled oids) 7 whole in
    let pairs : zip (take n (take 7 (filled keys ++ filled oids))) (drop 7 (filled keys ++ filled oids)) ≡ shape.pairs =
    ap (λ (ks : List ℕ). zip ks (drop 7 (filled keys ++ filled oids))) front ∙ ap (zip keys) back ∙ zip-keys_of shape.pairs (replicate (7 - length oids) 0) in
    ap (λ (leaf : Bool). record { leaf = leaf; pairs = zip (take n (take 7 (filled keys ++ filled oids))) (drop 7 (filled keys ++ filled oids)) }) (leaf_in shape.leaf shape.pairs)
    ∙ ap (λ (ps : List (ℕ × ℕ)). record { leaf = shape.leaf; pairs = ps }) pairs

-- reading is by the rules of a node, and by spelling again
pub node_of-told : (row : List ℕ) → node_of row ≡ cond (is_node (shape_in row) && pointwise nat_eq (node_row (shape_in row)) row) (Some (shape_in row)) None
unfolding node_of
node_of-told row = refl

told_some : (row : List ℕ) (shape : Shape) (b : Bool) → (is_node (shape_in row) && pointwise nat_eq (node_row (shape_in row)) row) ≡ b → cond b (Some (shape_in row)) None ≡ Some shape → (is_node shape ≡ true) × (row ≡ node_row shape)
told_some row shape true passed e =
    let same : shape_in row ≡ shape = cc in
    let parts = both_pass (is_node (shape_in row)) (pointwise nat_eq (node_row (shape_in row)) row) passed in
    (sym (ap is_node same) ∙ parts.0, sym ((bytes_eq-Decides (node_row (shape_in row)) row).0 parts.1) ∙ ap node_row same)
told_some row shape false passed e = absurd (cc)

-- a row that reads as a node is the row of that node
pub node_of-found : (row : List ℕ) (shape : Shape) → node_of row ≡ Some shape → (is_node shape ≡ true) × (row ≡ node_row shape)
node_of-found row shape e =
    told_some row shape (is_node (shape_in row) && pointwise nat_eq (node_row (shape_in row)) row) refl (sym (node_of-told row) ∙ e)

-- the row of a node reads as it
pub node_of-node_row : (shape : Shape) → is_node shape ≡ true → node_of (node_row shape) ≡ Some shape
node_of-node_row shape is =
    let same = shape_in-node_row shape (KeepsRules-is_node shape is).few in
    let passed : (is_node (shape_in (node_row shape)) && pointwise nat_eq (node_row (shape_in (node_row shape))) (node_row shape)) ≡ true =
    pass_both (is_node (shape_in (node_row shape))) _ (ap is_node same ∙ is) ((bytes_eq-Decides (node_row (shape_in (node_row shape))) (node_row shape)).1 (ap node_row same)) in
    node_of-told (node_row shape) ∙ ap (λ (b : Bool). cond b (Some (shape_in (node_row shape))) None) passed ∙ ap Some same

-- the first word of a node's row is its kind
pub slice_index-node_row : (shape : Shape) → slice_index (node_row shape) 0 ≡ kind_of shape.leaf shape.pairs
unfolding node_row
slice_index-node_row shape = refl

kind_is : (leaf : Bool) (pairs : List (ℕ × ℕ)) → (kind_of leaf pairs ≢ 1) × (kind_of leaf pairs ≢ 2)
kind_is true [] = (λ e. omega (arith, e), λ e. omega (arith, e))
kind_is true (pair ∷ pairs) = (λ e. omega (arith, e), λ e. omega (arith, e))
kind_is false pairs = (λ e. omega (arith, e), λ e. omega (arith, e))

none_of : (row : List ℕ) (o : Option Shape) → (slice_index row 0 ≡ 1) ⊎ (slice_index row 0 ≡ 2) → node_of row ≡ o → node_of row ≡ None
none_of row None kind e = e
none_of row (Some shape) kind e =
    let same : slice_index row 0 ≡ kind_of shape.leaf shape.pairs = ap (λ (r : List ℕ). slice_index r 0) (node_of-found row shape e).1 ∙ slice_index-node_row shape in
    elim kind as (λ _. node_of row ≡ None) [
      | inl one ↦ absurd ((kind_is shape.leaf shape.pairs).0 (sym same ∙ one))
      | inr two ↦ absurd ((kind_is shape.leaf shape.pairs).1 (sym same ∙ two))
    ]

-- a record's row is that of no node
pub node_of-record : (row : List ℕ) → IsRecord row → node_of row ≡ None
node_of-record row is = elim is as (λ _. node_of row ≡ None) [
  | inl absent ↦ none_of row (node_of row) (inl (ap (λ (r : List ℕ). slice_index r 0) absent)) refl
  | inr value ↦ none_of row (node_of row) (inr (ap (λ (r : List ℕ). slice_index r 0) value.2)) refl
]

-- keys and objects written in their places
pub placed : (kind count : ℕ) (keys oids : List ℕ) → length keys ≡ 7 → kind ∷ count ∷ (take 7 (keys ++ replicate 7 0) ++ (oids ++ drop 7 (drop 7 (keys ++ replicate 7 0)))) ≡ kind ∷ count ∷ (keys ++ oids)
placed kind count keys oids whole =
    let front : take 7 (keys ++ replicate 7 0) ≡ keys = take_at keys (replicate 7 0) 7 whole in
    let none : drop 7 (drop 7 (keys ++ replicate 7 0)) ≡ [] = drop_of_length-le (drop 7 (keys ++ replicate 7 0)) {i = 7} (omega (arith, length-drop 7 (keys ++ replicate 7 0), length-append keys (replicate 7 0))) in
    ap (λ (ks : List ℕ). kind ∷ count ∷ (ks ++ (oids ++ drop 7 (drop 7 (keys ++ replicate 7 0))))) front
    ∙ ap (λ (rest : List ℕ). kind ∷ count ∷ (keys ++ (oids ++ rest))) none
    ∙ ap (λ (os : List ℕ). kind ∷ count ∷ (keys ++ os)) (append-nil oids)

-- words in the places of a node's row are the row
pub placed_is : (shape : Shape) (kind : ℕ) (keys oids : List ℕ) → kind ≡ kind_of shape.leaf shape.pairs → length shape.pairs ≤ 7 → keys ≡ filled (keys_of shape.pairs) → oids ≡ filled (oids_of shape.pairs)
    → kind ∷ length shape.pairs ∷ (take 7 (keys ++ replicate 7 0) ++ (oids ++ drop 7 (drop 7 (keys ++ replicate 7 0)))) ≡ node_row shape
unfolding node_row
placed_is shape kind keys oids kind_is few keys_are oids_are =
    let n = length shape.pairs in
    let whole : length keys ≡ 7 = ap length keys_are ∙ length-filled (keys_of shape.pairs) (omega (arith, length-map shape.pairs (λ (p : ℕ × ℕ). p.0))) in
    placed kind n keys oids whole
    ∙ ap (λ (k : ℕ). k ∷ n ∷ (keys ++ oids)) kind_is
    ∙ ap (λ (ks : List ℕ). kind_of shape.leaf shape.pairs ∷ n ∷ (ks ++ oids)) keys_are
    ∙ ap (λ (os : List ℕ). kind_of shape.leaf shape.pairs ∷ n ∷ (filled (keys_of shape.pairs) ++ os)) oids_are

-- what isn't a node reads as none
pub node_of-no_node : (row : List ℕ) → is_node (shape_in row) ≡ false → node_of row ≡ None
node_of-no_node row not_one =
    node_of-told row ∙ ap (λ (b : Bool). cond (b && pointwise nat_eq (node_row (shape_in row)) row) (Some (shape_in row)) None) not_one

-- reading is what the two tests say
pub node_of-tested : (row : List ℕ) (shape : Shape) (is same : Bool) → shape ≡ shape_in row → is ≡ is_node shape → same ≡ pointwise nat_eq (node_row shape) row → cond (is && same) (Some shape) None ≡ node_of row
node_of-tested row shape is same e is_told same_told =
    ap (λ (b : Bool). cond (b && same) (Some shape) None) is_told
    ∙ ap (λ (b : Bool). cond (is_node shape && b) (Some shape) None) same_told
    ∙ ap (λ (s : Shape). cond (is_node s && pointwise nat_eq (node_row s) row) (Some s) None) e
    ∙ sym (node_of-told row)

-- a last test that fails
pub fails_last : (a b : Bool) → b ≡ false → (a && b) ≡ false
fails_last true b e = e
fails_last false b e = refl

-- with an object's number of more than 32 bits it is no node
pub is_node-wide : (shape : Shape) → have_32_bits shape.pairs ≡ false → is_node shape ≡ false
is_node-wide shape wide =
    fails_last (nat_le (fewest_pairs shape.leaf) (length shape.pairs) && nat_le (length shape.pairs) 7 && ascends shape.pairs) (have_32_bits shape.pairs) wide

-- with seven pairs at most and numbers of 32 bits, the least number of pairs and the order decide
pub is_node-narrow : (shape : Shape) → length shape.pairs ≤ 7 → have_32_bits shape.pairs ≡ true → is_node shape ≡ (nat_le (fewest_pairs shape.leaf) (length shape.pairs) && ascends shape.pairs)
is_node-narrow shape few narrow =
    let enough = nat_le (fewest_pairs shape.leaf) (length shape.pairs) in
    ap (λ (b : Bool). enough && nat_le (length shape.pairs) 7 && ascends shape.pairs && b) narrow
    ∙ true_last (enough && nat_le (length shape.pairs) 7 && ascends shape.pairs)
    ∙ ap (λ (b : Bool). enough && b && ascends shape.pairs) (le-leb (length shape.pairs) 7 few)
    ∙ ap (λ (b : Bool). b && ascends shape.pairs) (true_last enough)
  where
    true_last : (a : Bool) → (a && true) ≡ a
    true_last true = refl
    true_last false = refl

fewest : (leaf : Bool) (n : ℕ) → (leaf ≡ true) ⊎ (2 ≤ n) → nat_le (fewest_pairs leaf) n ≡ true
fewest true n enough = le-leb 0 n (omega arith)
fewest false n (inl e) = absurd (cc)
fewest false n (inr two) = le-leb 2 n two

-- a leaf, or a node with two pairs: the order decides
pub is_node-ordered : (shape : Shape) → length shape.pairs ≤ 7 → have_32_bits shape.pairs ≡ true → (shape.leaf ≡ true) ⊎ (2 ≤ length shape.pairs) → is_node shape ≡ ascends shape.pairs
is_node-ordered shape few narrow enough =
    is_node-narrow shape few narrow ∙ ap (λ (b : Bool). b && ascends shape.pairs) (fewest shape.leaf (length shape.pairs) enough)
